-- The lines of a script with chains, each by what the lines before it say.
use Rattle.std.specs.Prelude.{ℕ, List, nat_lt, length, drop, Option, Some, None, Result, Ok, Err}
use Rattle.sat_script.specs.Causes.{needs, refused}
use Rattle.sat_script.specs.Grammar.{line_at, after}
use Rattle.sat_script.specs.State.{State, with_one_act}
use Rattle.sat_script.specs.Words.{is_text, words_of}
use Rattle.sat_script.specs.declared.fault.Cause.{Cause}
use Rattle.sat_script.specs.declared.fault.Cause.TheVariants.{LongLine, NotText}
use Rattle.sat_script.specs.declared.limits.TheConstants.{LONGEST_LINE}
use Rattle.sat_script.specs.declared.line.Parsed.{Parsed}
use Rattle.sat_script.specs.declared.line.Parsed.TheVariants as parsed
use Rattle.sat_script.specs.declared.line.Stage.{Stage}
use Rattle.sat_script.specs.declared.line.Stage.TheVariants as stage
use Rattle.sat_chain_laws.specs.declared.chain_act.ChainAct.{ChainAct}
use Rattle.sat_chain_laws.specs.declared.chain_act.ChainAct.TheVariants as chain
use Rattle.sat_chain_script.specs.Forms.{chain_form, step_words}
use Rattle.sat_chain_script.specs.declared.form.ChainForm.{ChainForm}
use Rattle.sat_chain_script.specs.declared.line.ChainParsed.{ChainParsed}
use Rattle.sat_chain_script.specs.declared.line.ChainParsed.TheVariants as says

-- what a line says that scripts of other commands may have too
abbrev pub of_script : Result Parsed Cause → Result ChainParsed Cause
of_script (Ok p) = Ok (says.Plain p)
of_script (Err cause) = Err cause

-- what a line says that is an act of a chain
abbrev pub of_step : Result ChainAct Cause → Result ChainParsed Cause
of_step (Ok a) = Ok (says.Step a)
of_step (Err cause) = Err cause

-- what a line says that says this act
abbrev pub saying : ChainAct → ChainParsed
saying (chain.Plain a) = says.Plain (parsed.Act a)
saying a = says.Step a

-- acts of chains stand behind `begin` and before `end`
abbrev pub form_at : Stage → List (List ℕ) → Option ChainForm
form_at stage.Body words = chain_form words
form_at _ words = None

-- the words of a line after the first
abbrev pub words_after : List (List ℕ) → List (List ℕ)
words_after words = drop 1 words

-- what a line says by the form that its words have
abbrev pub line_as : ℕ → State → List ℕ → Option ChainForm → Result ChainParsed Cause
line_as r s line None = of_script (line_at s line)
line_as r s line (Some f) =
    refused LongLine (nat_lt LONGEST_LINE (length line))
    (needs NotText (is_text line) (of_step (step_words r s f (words_after (words_of line)))))

-- what a line says, without its byte 10, or why it is refused: an act of a chain where its words have the form of one,
-- and else what it says as a line of any script
unfoldable pub chain_line : ℕ → State → List ℕ → Result ChainParsed Cause
unfolding line_at step_words
chain_line r s line = line_as r s line (form_at s.stage (words_of line))

-- the state at the next line
abbrev pub chain_after : State → ChainParsed → State
chain_after s (says.Plain p) = after s p
chain_after s (says.Step a) = with_one_act s
