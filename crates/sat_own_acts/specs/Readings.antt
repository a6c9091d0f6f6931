-- What a text with acts of the command's own is: the deployment and the acts of the lines before the first bad line,
-- and that line with its cause.
use Rattle.std.specs.Prelude.{ℕ, ◌≡◌, List, [], ◌∷◌, ◌++◌, Option, Some, None, Result, Ok, Err, IfSome, IsSome}
use Rattle.std.specs.List.{AllByRecursion, slice_split}
use Rattle.sat_act.specs.Deployed.{Deployed}
use Rattle.sat_act.specs.Limits.{IsDeployment}
use Rattle.sat_own_acts.specs.OwnActs.{OwnActs}
use Rattle.sat_own_acts.specs.Lines.{own_line, own_after}
use Rattle.sat_own_acts.specs.declared.line.OwnParsed.{OwnParsed}
use Rattle.sat_own_acts.specs.declared.line.OwnParsed.TheVariants as says
use Rattle.sat_script.specs.Grammar.{close_at, told_line}
use Rattle.sat_script.specs.State.{State, start, number_of, fault_at}
use Rattle.sat_script.specs.Words.{is_newline}
use Rattle.sat_script.specs.declared.fault.Cause.{Cause}
use Rattle.sat_script.specs.declared.fault.ScriptFault.{ScriptFault}
use Rattle.sat_script.specs.declared.line.Line.{Line}
use Rattle.sat_script.specs.declared.line.Line.TheVariants as line

-- what a text is
pub record OwnReading (A : Type 0) : Type 0 where
  pub deployment : Option Deployed
  pub acts : List A
  pub fault : Option ScriptFault

-- before the first line
abbrev pub nothing : {A : Type 0} → OwnReading A
nothing = record { deployment = None; acts = []; fault = None }

-- one act more
abbrev pub with_own : {A : Type 0} → OwnReading A → A → OwnReading A
with_own x a = record { deployment = x.deployment; acts = x.acts ++ a ∷ []; fault = x.fault }

-- a reading and what a line of any script adds to it, behind a header
abbrev pub with_plain : {A : Type 0} → OwnActs A → Deployed → OwnReading A → Line → OwnReading A
with_plain these d x line.Header = x
with_plain these d x line.Begin = record { deployment = Some d; acts = x.acts; fault = x.fault }
with_plain these d x (line.Act a) = with_own x (these.plain a)
with_plain these d x line.End = x

-- and what any line adds
abbrev pub with_line : {A : Type 0} → OwnActs A → Deployed → OwnReading A → OwnParsed A → OwnReading A
with_line these d x (says.Plain p) = with_plain these d x (told_line p)
with_line these d x (says.Own a) = with_own x a

-- a reading that stops at a fault
abbrev pub bad_at : {A : Type 0} → State → OwnReading A → Cause → OwnReading A
bad_at s x cause = record { deployment = x.deployment; acts = x.acts; fault = Some (fault_at s cause) }

-- what the end of the text makes of it
abbrev pub closed : {A : Type 0} → State → OwnReading A → Option Cause → OwnReading A
closed s x None = x
closed s x (Some cause) = bad_at s x cause

-- what a line makes of it, where go_on says what the lines after it make
abbrev pub after_line : {A : Type 0} → OwnActs A → State → OwnReading A → (State → OwnReading A → OwnReading A)
    → Result (OwnParsed A) Cause → OwnReading A
after_line these s x go_on (Ok p) = go_on (own_after s p) (with_line these s.header x p)
after_line these s x go_on (Err cause) = bad_at s x cause

-- the lines from a state on; the last part has no byte 10 after it
unfoldable pub script_from : {A : Type 0} → OwnActs A → State → OwnReading A → List (List ℕ) → OwnReading A
unfolding own_line number_of
script_from these s x [] = closed s x (close_at s [])
script_from these s x (rest ∷ []) = closed s x (close_at s rest)
script_from these s x (line ∷ part ∷ parts) =
    after_line these s x (λ later more. script_from these later more (part ∷ parts)) (own_line these s line)

-- what a text is
unfoldable pub own_reading : {A : Type 0} → OwnActs A → List ℕ → OwnReading A
unfolding script_from
own_reading these text = script_from these (start these.dialect) nothing (slice_split is_newline text)

-- what is read of a text, also of one with a fault, is a deployment and acts of it, as P has it; no acts where there is
-- no deployment; and a deployment where there is no fault
pub record IsReadSound {A : Type 0} (P : Deployed → A → Type 0) (x : OwnReading A) : Type 0 where
  pub whole : IfSome x.deployment (λ d. IsDeployment d × AllByRecursion (λ a. P d a) x.acts)
  pub none : x.deployment ≡ None → x.acts ≡ []
  pub ends : x.fault ≡ None → IsSome x.deployment
