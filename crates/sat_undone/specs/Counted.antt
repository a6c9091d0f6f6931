-- Tables of what was counted of each session: of each client by its number, and of the operator behind them.
use Rattle.std.specs.Prelude.{◌≡◌, ℕ, ◌+◌, ◌<◌, List, length, get_or, Some}
use Rattle.sat_act.specs.declared.act.Act.{Act}
use Rattle.sat_act.specs.declared.entry.Entry.{Entry}
use Rattle.sat_stitch.specs.Places.{Client, session_of}
use Rattle.sat_undone.specs.declared.lacking.Tally.{Tally}
use Rattle.sat_undone.specs.Undone.{session_at, acts_of, no_tally, tally_of}

-- the tallies of these entries
pub record AreTallies (clients : ℕ) (es : List Entry) (ts : List Tally) : Type 0 where
  pub all : length ts ≡ clients + 1
  pub each : (n : ℕ) → n < clients + 1 → get_or ts n no_tally ≡ tally_of (session_at clients n) es

-- how many of these acts each session has
pub record AreCounts (clients : ℕ) (acts : List Act) (ns : List ℕ) : Type 0 where
  pub all : length ns ≡ clients + 1
  pub each : (n : ℕ) → n < clients + 1 → get_or ns n 0 ≡ length (acts_of (session_at clients n) acts)

-- an act of no session, or of one of so many clients or the operator
abbrev pub IsKnown : ℕ → Act → Type 0
IsKnown clients a = (c : ℕ) → session_of a ≡ Some (Client c) → c < clients
