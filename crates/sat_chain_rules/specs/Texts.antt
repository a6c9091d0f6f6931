-- What is made of a text with chains, where it is given how an answer is told, a fault, and what stands at the end.
use Rattle.std.specs.Prelude.{ℕ, ◌+◌, Bool, true, false, List, [], ◌∷◌, ◌++◌, length, Option, Some, None, Ok, Err}
use Rattle.std.specs.Fmt.{decimal}
use Rattle.std.specs.List.{slice_split}
use Rattle.sat_act.specs.Deployed.{Deployed}
use Rattle.sat_chain_laws.specs.Chains.{ChainEntry}
use Rattle.sat_chain_laws.specs.declared.chain_act.ChainAct.{ChainAct}
use Rattle.sat_chain_laws.specs.declared.chain_answer.ChainAnswer.{ChainAnswer}
use Rattle.sat_chain_script.specs.ChainLines.{chain_line, chain_after}
use Rattle.sat_chain_script.specs.Histories.{chain_history}
use Rattle.sat_chain_script.specs.Readings.{ChainReading, chain_reading}
use Rattle.sat_follow.specs.Meaning.{Meaning}
use Rattle.sat_script.specs.Grammar.{close_at}
use Rattle.sat_script.specs.State.{State, start}
use Rattle.sat_script.specs.Words.{is_newline}
use Rattle.sat_script.specs.declared.dialect.Dialect.TheVariants as dialect
use Rattle.sat_script.specs.declared.fault.Cause.{Cause}
use Rattle.sat_script.specs.declared.fault.Cause.TheVariants.{NoEnd}
use Rattle.sat_script.specs.declared.fault.ScriptFault.{ScriptFault}

-- the texts of an answer, of a fault, and of what stands behind the answers of a history
pub record ChainTexts : Type 0 where
  pub answer : Deployed → ChainAct → ChainAnswer → List ℕ
  pub fault : ScriptFault → List ℕ
  pub holdings : Deployed → List ChainEntry → List ℕ

-- the line of an answer with its number
abbrev pub numbered : ℕ → List ℕ → List ℕ
numbered n text = decimal n ++ 32 ∷ (text ++ 10 ∷ [])

-- the answers of a history, numbered from 1. Its newest entry stands first, and is printed last
unfoldable pub chain_answers : ChainTexts → Deployed → List ChainEntry → List ℕ
chain_answers t d [] = []
chain_answers t d (x ∷ c) = chain_answers t d c ++ numbered (length c + 1) (t.answer d x.act x.answer)

-- the answers of the acts that a text's lines say, before its first bad line; where there is no deployment there are
-- none
abbrev pub told_under : ChainTexts → ℕ → Option Deployed → List ChainAct → List ℕ
told_under t r None acts = []
told_under t r (Some d) acts = chain_answers t d (chain_history d r acts)

-- what stands behind the answers: what the sites hold in the end, or the fault's line in its place
abbrev pub end_under : ChainTexts → ℕ → Option Deployed → List ChainAct → Option ScriptFault → List ℕ
end_under t r o acts (Some fault) = t.fault fault
end_under t r None acts None = []
end_under t r (Some d) acts None = t.holdings d (chain_history d r acts)

unfoldable pub chain_told : ChainTexts → ℕ → ChainReading → List ℕ
unfolding chain_answers chain_history
chain_told t r x = told_under t r x.deployment x.acts

-- the whole output. Where the header is bad, it is the fault's line alone
unfoldable pub chain_text : ChainTexts → ℕ → ChainReading → List ℕ
unfolding chain_told chain_history
chain_text t r x = chain_told t r x ++ end_under t r x.deployment x.acts x.fault

abbrev pub chain_status : Option ScriptFault → ℕ
chain_status None = 0
chain_status (Some fault) = 1

-- whether a text that ends so lacks nothing but its end, if that
abbrev pub may_go_on : Option Cause → Bool
may_go_on None = true
may_go_on (Some NoEnd) = true
may_go_on _ = false

-- whether none of these lines is bad; the last part has no byte 10 after it, and may be the beginning of a good line
unfoldable pub good_from : ℕ → State → List (List ℕ) → Bool
unfolding chain_line
good_from r s [] = may_go_on (close_at s [])
good_from r s (rest ∷ []) = may_go_on (close_at s rest)
good_from r s (line ∷ part ∷ parts) =
    elim (chain_line r s line) [ Err cause ↦ false | Ok p ↦ good_from r (chain_after s p) (part ∷ parts) ]

unfoldable pub chain_good : ℕ → List ℕ → Bool
unfolding good_from
chain_good r text = good_from r (start dialect.Chain) (slice_split is_newline text)

-- no text has more bytes without a bad line: 205,200 lines, each of 4,096 bytes and the byte 10, and the beginning of
-- one more
abbrev pub MOST_CHAIN_BYTES : ℕ
MOST_CHAIN_BYTES = 840704400 + 4096

-- what is made of a text, as a follower has it
abbrev pub chain_meaning : ChainTexts → ℕ → Meaning
chain_meaning t r = record {
  good = λ text. chain_good r text;
  answers = λ text. chain_told t r (chain_reading r text);
  output = λ text. chain_text t r (chain_reading r text);
  status = λ text. chain_status (chain_reading r text).fault;
  most = MOST_CHAIN_BYTES;
}
