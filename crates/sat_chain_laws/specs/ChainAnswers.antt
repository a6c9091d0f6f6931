-- The answer of an act with chains after a history.
use Rattle.std.specs.Prelude.{◌≡◌, ◌<◌, ℕ, Bool, true, false, ◌&&◌, not, List, length, filter, Option, Some, None}
use Rattle.std.specs.Prelude.{slice_get}
use Rattle.sat_label.specs.declared.node.NodeId.{NodeId}
use Rattle.sat_label.specs.declared.node.NodeId.TheVariants.{Serializer}
use Rattle.sat_label.specs.Order.{node_eq}
use Rattle.sat_tree.specs.Shape.{TreeShape}
use Rattle.sat_tree.specs.Cut.{neighbours, is_edge}
use Rattle.sat_act.specs.declared.act.Act.{Act}
use Rattle.sat_act.specs.declared.act.Act.TheVariants as act
use Rattle.sat_act.specs.declared.answer.Answer.TheVariants as ans
use Rattle.sat_act.specs.declared.entry.Entry.{Entry}
use Rattle.sat_act.specs.Deployed.{Deployed}
use Rattle.sat_act.specs.Parts.{tree_of, entered, goes_beyond}
use Rattle.sat_act.specs.Answers.{InRange, answer}
use Rattle.sat_chain_laws.specs.declared.chain_act.ChainAct.{ChainAct}
use Rattle.sat_chain_laws.specs.declared.chain_act.ChainAct.TheVariants as chain
use Rattle.sat_chain_laws.specs.declared.chain_answer.ChainAnswer.{ChainAnswer}
use Rattle.sat_chain_laws.specs.declared.chain_answer.ChainAnswer.TheVariants as says
use Rattle.sat_chain_laws.specs.declared.chain_answer.ChainRefusal.TheVariants as why
use Rattle.sat_chain_laws.specs.Rows.{Pair, Replica, head, next_after, tail, labels_from}
use Rattle.sat_chain_laws.specs.Chains.{ChainEntry, seq, applied, plain}

-- whether a pair of serializer z's list goes on to its neighbour v: it did not come from there, and a target lies
-- beyond
abbrev pub goes_on : Deployed → TreeShape → ℕ → NodeId → Pair → Bool
goes_on d tree z v p = not (node_eq p.from v) && goes_beyond d tree (Serializer z) v p.label

-- the neighbours that a pair goes on to
unfoldable pub goes_to : Deployed → TreeShape → ℕ → Pair → List NodeId
unfolding neighbours goes_beyond
goes_to d tree z p = filter (λ v. goes_on d tree z v p) (neighbours tree z)

-- the head takes in the label that stands on the link behind those of this neighbour that it has
unfoldable pub enter_at : Deployed → List Entry → ℕ → NodeId → ℕ → Option Replica → ChainAnswer
unfolding tree_of entered labels_from
enter_at d h epoch u z None = says.Refused why.Dead
enter_at d h epoch u z (Some replica) =
    elim (tree_of d epoch) [
      | None ↦ says.Refused why.Empty
      | Some tree ↦
          elim (slice_get (entered d h epoch tree u (Serializer z)) (length (labels_from u replica.list))) [
            | None ↦ says.Refused why.Empty
            | Some l ↦ says.Entered l
          ]
    ]

-- replica k hands on the pair that the next living one does not have yet
unfoldable pub pass_at : Option Replica → Option (List Pair) → Option Replica → ChainAnswer
pass_at None own next = says.Refused why.Dead
pass_at (Some first) None next = says.Refused why.Crashed
pass_at (Some first) (Some xs) None = says.Refused why.Last
pass_at (Some first) (Some xs) (Some next) =
    elim (slice_get xs (length next.list)) [ None ↦ says.Refused why.Empty | Some p ↦ says.Passed p.label ]

-- the tail lets the pair at this place of its list take effect
unfoldable pub apply_at : Deployed → ℕ → ℕ → ℕ → Option Replica → ChainAnswer
unfolding tree_of goes_to
apply_at d epoch z n None = says.Refused why.Dead
apply_at d epoch z n (Some last) =
    elim (slice_get last.list n) [
      | None ↦ says.Refused why.Empty
      | Some p ↦ elim (tree_of d epoch)
          [ None ↦ says.Refused why.Empty | Some tree ↦ says.Plain (ans.Hopped p.label (goes_to d tree z p)) ]
    ]

-- a replica stops
abbrev pub crash_at : Option (List Pair) → ChainAnswer
crash_at None = says.Refused why.Crashed
crash_at (Some xs) = says.Crashed

-- the answer of an act after a history, with r replicas a serializer
unfoldable pub chain_answer : Deployed → ℕ → List ChainEntry → ChainAct → ChainAnswer
unfolding answer plain seq applied head tail next_after enter_at pass_at apply_at
chain_answer d r c (chain.Plain a) = says.Plain (answer d (plain r c) a)
chain_answer d r c (chain.Enter epoch u z) = enter_at d (plain r c) epoch u z (head r (seq r c epoch z))
chain_answer d r c (chain.Pass epoch z k) =
    pass_at (head r (seq r c epoch z)) (seq r c epoch z k) (next_after r (seq r c epoch z) k)
chain_answer d r c (chain.Apply epoch z) = apply_at d epoch z (applied c epoch z) (tail r (seq r c epoch z))
chain_answer d r c (chain.Crash epoch z k) = crash_at (seq r c epoch z k)

-- a plain act that a script with chains may have: what serializers do stands in the acts of their chains
abbrev pub is_allowed : Act → Bool
is_allowed (act.Hop epoch u z) = false
is_allowed (act.Kill epoch z) = false
is_allowed act.Settle = false
is_allowed _ = true

-- what the laws need of an act's numbers
abbrev pub IsChainInRange : Deployed → ℕ → ChainAct → Type 0
IsChainInRange d r (chain.Plain a) = InRange d a × (is_allowed a ≡ true)
IsChainInRange d r (chain.Enter epoch u z) =
    (tree : TreeShape) × (tree_of d epoch ≡ Some tree) × (is_edge tree u (Serializer z) ≡ true)
IsChainInRange d r (chain.Pass epoch z k) = k < r
IsChainInRange d r (chain.Apply epoch z) = Unit {0}
IsChainInRange d r (chain.Crash epoch z k) = k < r
