-- What a text with chains is: the deployment and the acts of the lines before the first bad line, and that line with
-- its cause.
use Rattle.std.specs.Prelude.{ℕ, List, [], ◌∷◌, ◌++◌, Option, Some, None, Result, Ok, Err}
use Rattle.std.specs.List.{slice_split}
use Rattle.sat_act.specs.Deployed.{Deployed}
use Rattle.sat_chain_laws.specs.declared.chain_act.ChainAct.{ChainAct}
use Rattle.sat_chain_laws.specs.declared.chain_act.ChainAct.TheVariants as chain
use Rattle.sat_chain_script.specs.ChainLines.{chain_line, chain_after}
use Rattle.sat_chain_script.specs.declared.line.ChainParsed.{ChainParsed}
use Rattle.sat_chain_script.specs.declared.line.ChainParsed.TheVariants as says
use Rattle.sat_script.specs.Grammar.{close_at, told_line}
use Rattle.sat_script.specs.State.{State, start, number_of, fault_at}
use Rattle.sat_script.specs.Words.{is_newline}
use Rattle.sat_script.specs.declared.dialect.Dialect.TheVariants as dialect
use Rattle.sat_script.specs.declared.fault.Cause.{Cause}
use Rattle.sat_script.specs.declared.fault.ScriptFault.{ScriptFault}
use Rattle.sat_script.specs.declared.line.Line.{Line}
use Rattle.sat_script.specs.declared.line.Line.TheVariants as line

-- what a text is
pub record ChainReading : Type 0 where
  pub deployment : Option Deployed
  pub acts : List ChainAct
  pub fault : Option ScriptFault

-- before the first line
abbrev pub nothing : ChainReading
nothing = record { deployment = None; acts = []; fault = None }

-- one act more
abbrev pub with_chain_act : ChainReading → ChainAct → ChainReading
with_chain_act x a = record { deployment = x.deployment; acts = x.acts ++ a ∷ []; fault = x.fault }

-- a reading and what a line of any script adds to it, behind a header
abbrev pub with_plain : Deployed → ChainReading → Line → ChainReading
with_plain d x line.Header = x
with_plain d x line.Begin = record { deployment = Some d; acts = x.acts; fault = x.fault }
with_plain d x (line.Act a) = with_chain_act x (chain.Plain a)
with_plain d x line.End = x

-- and what any line adds
abbrev pub with_chain_line : Deployed → ChainReading → ChainParsed → ChainReading
with_chain_line d x (says.Plain p) = with_plain d x (told_line p)
with_chain_line d x (says.Step a) = with_chain_act x a

-- a reading that stops at a fault
abbrev pub chain_bad : State → ChainReading → Cause → ChainReading
chain_bad s x cause = record { deployment = x.deployment; acts = x.acts; fault = Some (fault_at s cause) }

-- what the end of the text makes of it
abbrev pub chain_closed : State → ChainReading → Option Cause → ChainReading
chain_closed s x None = x
chain_closed s x (Some cause) = chain_bad s x cause

-- what a line makes of it, where go_on says what the lines after it make
abbrev pub after_chain_line : State → ChainReading → (State → ChainReading → ChainReading) → Result ChainParsed Cause
    → ChainReading
after_chain_line s x go_on (Ok p) = go_on (chain_after s p) (with_chain_line s.header x p)
after_chain_line s x go_on (Err cause) = chain_bad s x cause

-- the lines from a state on, where each serializer has r replicas; the last part has no byte 10 after it
unfoldable pub chain_script_from : ℕ → State → ChainReading → List (List ℕ) → ChainReading
unfolding chain_line number_of
chain_script_from r s x [] = chain_closed s x (close_at s [])
chain_script_from r s x (rest ∷ []) = chain_closed s x (close_at s rest)
chain_script_from r s x (line ∷ part ∷ parts) =
    after_chain_line s x (λ later more. chain_script_from r later more (part ∷ parts)) (chain_line r s line)

-- what a text is
unfoldable pub chain_reading : ℕ → List ℕ → ChainReading
unfolding chain_script_from
chain_reading r text = chain_script_from r (start dialect.Chain) nothing (slice_split is_newline text)
