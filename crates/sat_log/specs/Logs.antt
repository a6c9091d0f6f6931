-- A journal of byte strings: each is its own body.
use Rattle.std.specs.Prelude.{◌≡◌, ℕ, Bool, true, false, nat_lt, List, [], ◌∷◌, ◌++◌, length, Some, Ok, Err}
use Rattle.std.specs.Prelude.{if◌then◌else◌}
use Rattle.std.specs.declared.result.Result.{Result}
use Rattle.sat_durable.specs.Journal.{AreBytes}
use Rattle.sat_durable.specs.Machine.{Meaning}
use Rattle.sat_durable.specs.Recovering.{fault_disk}
use Rattle.sat_durable.specs.declared.durable.Durable.{Durable}
use Rattle.sat_durable.specs.declared.durable.DurableFault.{DurableFault}
use Rattle.sat_log.specs.declared.log.Appended.{Appended}

-- whether it gathers, and what it gathered
pub record LogSeen : Type 0 where
  pub gathers : Bool
  pub bodies : List (List ℕ)

abbrev pub passing : LogSeen
passing = record { gathers = false; bodies = [] }

abbrev pub gathering : LogSeen
gathering = record { gathers = true; bodies = [] }

-- one byte string more, where it gathers
abbrev pub log_after : LogSeen → List ℕ → LogSeen
log_after s bytes = record { gathers = s.gathers; bodies = if s.gathers then s.bodies ++ bytes ∷ [] else s.bodies }

-- each byte string is its own body, if its length fits four bytes
abbrev pub log_meaning : Meaning LogSeen (List ℕ) Appended
log_meaning = record {
  body = λ bytes. bytes;
  input_of = λ bytes. Some bytes;
  fits = λ s bytes. nat_lt (length bytes) 4294967296;
  after = log_after;
  output = λ s bytes. record {};
}

pub only_itself : (body input : List ℕ) → AreBytes body → log_meaning.input_of body ≡ Some input → body ≡ input
only_itself body input small is = cc

-- the disk, whichever way a journal was opened
abbrev pub disk_opened : {D M I O : Type 0} {d : _} {m : _} → Result (Durable D M I O d m) (DurableFault D) → D
disk_opened (Ok durable) = durable.disk
disk_opened (Err e) = fault_disk e
