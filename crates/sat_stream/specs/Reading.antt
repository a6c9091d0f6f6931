-- What a text is: the deployment and the acts of the lines before the first bad line, and that line with its cause.
use Rattle.std.specs.Prelude.{ℕ, ◌≡◌, ◌≢◌, ◌≤◌, true, false, Bool, List, [], ◌∷◌, ◌++◌, length, Some, None, Ok, Err}
use Rattle.std.specs.declared.option.Option.{Option}
use Rattle.std.specs.declared.result.Result.{Result}
use Rattle.std.specs.List.{AllByRecursion, slice_split}
use Rattle.sat_act.specs.declared.act.Act.{Act}
use Rattle.sat_act.specs.Deployed.{Deployed}
use Rattle.sat_script.specs.Dialect.{dialect_of, limits_of, has_form}
use Rattle.sat_script.specs.Table.{form_of}
use Rattle.sat_script.specs.Grammar.{line_at, close_at, after, told_line}
use Rattle.sat_script.specs.Spelled.{settles_of}
use Rattle.sat_script.specs.State.{State, start, number_of, fault_at}
use Rattle.sat_script.specs.Words.{is_newline}
use Rattle.sat_script.specs.declared.dialect.Dialect.{Dialect}
use Rattle.sat_script.specs.declared.fault.Cause.{Cause}
use Rattle.sat_script.specs.declared.fault.Cause.TheVariants.{Memory}
use Rattle.sat_script.specs.declared.fault.ScriptFault.{ScriptFault}
use Rattle.sat_script.specs.declared.line.Line.{Line}
use Rattle.sat_script.specs.declared.line.Line.TheVariants as line
use Rattle.sat_script.specs.declared.line.Parsed.{Parsed}
use Rattle.sat_stream.specs.declared.stream.Reading.{Reading}

-- a reading and what a line adds to it, behind a header
abbrev pub with_line : Deployed → Reading → Line → Reading
with_line d r line.Header = r
with_line d r line.Begin = record { deployment = Some d; acts = r.acts; fault = r.fault }
with_line d r (line.Act a) = record { deployment = r.deployment; acts = r.acts ++ a ∷ []; fault = r.fault }
with_line d r line.End = r

-- a reading that stops at a fault
abbrev pub stopped : Reading → ScriptFault → Reading
stopped r fault = record { deployment = r.deployment; acts = r.acts; fault = Some fault }

abbrev pub bad : State → Reading → Cause → Reading
bad s r cause = stopped r (fault_at s cause)

-- what the end of the text makes of it
abbrev pub closed : State → Reading → Option Cause → Reading
closed s r None = r
closed s r (Some cause) = bad s r cause

-- what a line makes of it, where go_on says what the lines after it make
abbrev pub after_line : State → Reading → (State → Reading → Reading) → Result Parsed Cause → Reading
after_line s r go_on (Ok p) = go_on (after s p) (with_line s.header r (told_line p))
after_line s r go_on (Err cause) = bad s r cause

-- the lines from a state on; the last part has no byte 10 after it
unfoldable pub script_from : State → Reading → List (List ℕ) → Reading
unfolding line_at number_of
script_from s r [] = closed s r (close_at s [])
script_from s r (rest ∷ []) = closed s r (close_at s rest)
script_from s r (line ∷ part ∷ parts) =
    after_line s r (λ later more. script_from later more (part ∷ parts)) (line_at s line)

-- before the first line
abbrev pub nothing : Reading
nothing = record { deployment = None; acts = []; fault = None }

-- what a text is
unfoldable pub reading : Bool → List ℕ → Reading
unfolding script_from
reading live text = script_from (start (dialect_of live)) nothing (slice_split is_newline text)

-- a text with no fault
abbrev pub good : Deployed → List Act → Reading
good d acts = record { deployment = Some d; acts = acts; fault = None }

-- acts of forms that a dialect has
abbrev pub AreAllowed : Dialect → List Act → Type 0
AreAllowed dialect acts = AllByRecursion (λ a. has_form dialect (form_of a) ≡ true) acts

-- within the limits of a dialect and of the deployment's format
pub record IsWithin (dialect : Dialect) (d : Deployed) (acts : List Act) : Type 0 where
  pub sites : d.sites ≤ (limits_of dialect d.format).sites
  pub clients : length d.clients ≤ (limits_of dialect d.format).clients
  pub few : length acts ≤ (limits_of dialect d.format).acts
  pub settles : settles_of acts ≤ (limits_of dialect d.format).settles
  pub each : AreAllowed dialect acts

-- the same where the script is for nodes on threads; every deployment and its acts are within the limits of the others
abbrev pub IsAllowed : Bool → Deployed → List Act → Type 0
IsAllowed false d acts = Unit {0}
IsAllowed true d acts = IsWithin (dialect_of true) d acts

-- want of memory is told, or this holds
abbrev pub UnlessMemory : {T : Type 0} → Result T ScriptFault → Type 0 → Type 0
UnlessMemory (Ok x) P = P
UnlessMemory (Err fault) P = fault.cause ≢ Memory → P
