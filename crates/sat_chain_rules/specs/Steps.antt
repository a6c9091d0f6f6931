-- What each line of a text with chains comes to.
use Rattle.std.specs.Prelude.{ℕ, ◌+◌, ◌-◌, ◌*◌, List, [], ◌∷◌, length, Option, Some, None, Result, Ok, Err}
use Rattle.sat_act.specs.Deployed.{Deployed}
use Rattle.sat_chain_laws.specs.Chains.{ChainEntry}
use Rattle.sat_chain_laws.specs.ChainAnswers.{chain_answer}
use Rattle.sat_chain_laws.specs.declared.chain_act.ChainAct.{ChainAct}
use Rattle.sat_chain_laws.specs.declared.chain_act.ChainAct.TheVariants as chain
use Rattle.sat_chain_script.specs.ChainLines.{chain_line, chain_after}
use Rattle.sat_chain_script.specs.Histories.{chain_entry}
use Rattle.sat_chain_script.specs.declared.line.ChainParsed.{ChainParsed}
use Rattle.sat_chain_script.specs.declared.line.ChainParsed.TheVariants as says
use Rattle.sat_chain_rules.specs.Texts.{ChainTexts, numbered, may_go_on}
use Rattle.sat_follow.specs.Rules.{Rules, Outcome, goes, stops, Closing}
use Rattle.sat_script.specs.Grammar.{close_at, told_line}
use Rattle.sat_script.specs.State.{State, start, number_of, fault_at}
use Rattle.sat_script.specs.declared.dialect.Dialect.TheVariants as dialect
use Rattle.sat_script.specs.declared.fault.Cause.{Cause}
use Rattle.sat_script.specs.declared.line.Line.{Line}
use Rattle.sat_script.specs.declared.line.Line.TheVariants as line

-- what the lines so far say, and the history of their acts, the newest entry first
pub record ChainState : Type 0 where
  pub script : State
  pub entries : List ChainEntry

-- the act that a line of any script says, if it says one
abbrev pub plain_act : Line → Option ChainAct
plain_act (line.Act a) = Some (chain.Plain a)
plain_act _ = None

-- and the act of any line
abbrev pub act_in : ChainParsed → Option ChainAct
act_in (says.Plain p) = plain_act (told_line p)
act_in (says.Step a) = Some a

-- the history with an act more, and its answer with the next number, where a line says an act
abbrev pub entries_with : Deployed → ℕ → List ChainEntry → Option ChainAct → List ChainEntry
entries_with d r c None = c
entries_with d r c (Some a) = chain_entry d r c a ∷ c

abbrev pub told_with : ChainTexts → Deployed → ℕ → List ChainEntry → Option ChainAct → List ℕ
told_with t d r c None = []
told_with t d r c (Some a) = numbered (length c + 1) (t.answer d a (chain_answer d r c a))

-- the state behind a line that says this
abbrev pub state_after : ℕ → ChainState → ChainParsed → ChainState
state_after r s p =
    record { script = chain_after s.script p; entries = entries_with s.script.header r s.entries (act_in p) }

-- what a line comes to
abbrev pub outcome : ChainTexts → ℕ → ChainState → Result ChainParsed Cause → Outcome ChainState
outcome t r s (Ok p) = goes (state_after r s p) (told_with t s.script.header r s.entries (act_in p))
outcome t r s (Err cause) = stops (t.fault (fault_at s.script cause))

-- what the end comes to, where the text may not end so
abbrev pub closing : ChainTexts → ChainState → Option Cause → Closing
closing t s None = record { may_go_on = may_go_on None; text = t.holdings s.script.header s.entries; status = 0 }
closing t s (Some cause) =
    record { may_go_on = may_go_on (Some cause); text = t.fault (fault_at s.script cause); status = 1 }

-- no good line has more than 4,097 bytes, with its byte 10
unfoldable pub bytes_before : State → ℕ
unfolding number_of
bytes_before s = 4097 * (number_of s - 1)

-- what each line comes to
abbrev pub chain_rules : ChainTexts → ℕ → Rules ChainState
chain_rules t r = record {
  start = record { script = start dialect.Chain; entries = [] };
  line = λ s line. outcome t r s (chain_line r s.script line);
  close = λ s rest. closing t s (close_at s.script rest);
  bytes = λ s. bytes_before s.script;
  most = 840704400;
  longest = 4096;
}
