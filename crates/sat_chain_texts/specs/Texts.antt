-- The texts of answers to acts with chains.
use Rattle.std.specs.Prelude.{ℕ, List, ◌++◌, codes}
use Rattle.sat_act.specs.declared.act.Act.{Act}
use Rattle.sat_act.specs.declared.act.Act.TheVariants as act
use Rattle.sat_act.specs.Deployed.{Deployed}
use Rattle.sat_chain_laws.specs.declared.chain_act.ChainAct.{ChainAct}
use Rattle.sat_chain_laws.specs.declared.chain_act.ChainAct.TheVariants as chain
use Rattle.sat_chain_laws.specs.declared.chain_answer.ChainAnswer.{ChainAnswer}
use Rattle.sat_chain_laws.specs.declared.chain_answer.ChainAnswer.TheVariants as says
use Rattle.sat_chain_laws.specs.declared.chain_answer.ChainRefusal.{ChainRefusal}
use Rattle.sat_chain_laws.specs.declared.chain_answer.ChainRefusal.TheVariants as why
use Rattle.sat_report.specs.Texts.{kind_word}
use Rattle.sat_report.specs.Answers.{with_kind, answer_text}

unfoldable pub chain_refusal_text : ChainRefusal → List ℕ
chain_refusal_text why.Empty = codes "Empty"
chain_refusal_text why.Dead = codes "Dead"
chain_refusal_text why.Crashed = codes "Crashed"
chain_refusal_text why.Last = codes "Last"

-- the act that a plain answer's text goes by: only that of a plain act names a site
abbrev pub plain_act : ChainAct → Act
plain_act (chain.Plain a) = a
plain_act _ = act.Clock

-- what is printed of the answer to an act with chains: a label that took effect as a hop's
unfoldable pub chain_answer_text : Deployed → ChainAct → ChainAnswer → List ℕ
unfolding answer_text kind_word chain_refusal_text
chain_answer_text d a (says.Plain r) = answer_text d (plain_act a) r
chain_answer_text d a (says.Entered l) = with_kind (codes "entered") l
chain_answer_text d a (says.Passed l) = with_kind (codes "passed") l
chain_answer_text d a says.Crashed = codes "crashed"
chain_answer_text d a (says.Refused r) = codes "refused " ++ chain_refusal_text r
