-- The lines of a script with acts of the command's own, each by what the lines before it say.
use Rattle.std.specs.Prelude.{ℕ, List, nat_lt, length, Option, Some, None, Result, Ok, Err}
use Rattle.sat_script.specs.Causes.{needs, refused}
use Rattle.sat_script.specs.Grammar.{line_at, after}
use Rattle.sat_script.specs.State.{State, with_one_act}
use Rattle.sat_script.specs.Words.{is_text, words_of}
use Rattle.sat_script.specs.declared.fault.Cause.{Cause}
use Rattle.sat_script.specs.declared.fault.Cause.TheVariants.{LongLine, NotText}
use Rattle.sat_script.specs.declared.limits.TheConstants.{LONGEST_LINE}
use Rattle.sat_script.specs.declared.line.Parsed.{Parsed}
use Rattle.sat_script.specs.declared.line.Stage.{Stage}
use Rattle.sat_script.specs.declared.line.Stage.TheVariants as stage
use Rattle.sat_own_acts.specs.OwnActs.{OwnActs}
use Rattle.sat_own_acts.specs.declared.line.OwnParsed.{OwnParsed}
use Rattle.sat_own_acts.specs.declared.line.OwnParsed.TheVariants as says

-- what a line says that scripts of other commands may have too
abbrev pub of_script : {A : Type 0} → Result Parsed Cause → Result (OwnParsed A) Cause
of_script (Ok p) = Ok (says.Plain p)
of_script (Err cause) = Err cause

-- what a line says that is an act of the command's own
abbrev pub of_own : {A : Type 0} → Result A Cause → Result (OwnParsed A) Cause
of_own (Ok a) = Ok (says.Own a)
of_own (Err cause) = Err cause

-- these acts stand behind `begin` and before `end`
abbrev pub in_body : {A : Type 0} → Stage → Option (Result A Cause) → Option (Result A Cause)
in_body stage.Body said = said
in_body _ said = None

-- what a line says by what its words say as an act of the command's own, where they have the form of one
abbrev pub line_as : {A : Type 0} → State → List ℕ → Option (Result A Cause) → Result (OwnParsed A) Cause
line_as s line None = of_script (line_at s line)
line_as s line (Some said) =
    refused LongLine (nat_lt LONGEST_LINE (length line)) (needs NotText (is_text line) (of_own said))

-- what a line says, without its byte 10, or why it is refused: an act of the command's own where its words have the
-- form of one, and else what it says as a line of any script
unfoldable pub own_line : {A : Type 0} → OwnActs A → State → List ℕ → Result (OwnParsed A) Cause
unfolding line_at
own_line these s line = line_as s line (in_body s.stage (these.own s (words_of line)))

-- the state at the next line
abbrev pub own_after : {A : Type 0} → State → OwnParsed A → State
own_after s (says.Plain p) = after s p
own_after s (says.Own a) = with_one_act s
