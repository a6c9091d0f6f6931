-- What an act with chains may come to, with what that tells of the history before it.
use Rattle.std.proofs.Common.{◌≡◌, ℕ, List, length, Option, Some, None, slice_get, refl}
use Rattle.sat_label.specs.declared.label.Label.{Label}
use Rattle.sat_label.specs.declared.node.NodeId.{NodeId}
use Rattle.sat_label.specs.declared.node.NodeId.TheVariants.{Serializer}
use Rattle.sat_tree.specs.Shape.{TreeShape}
use Rattle.sat_act.specs.declared.act.Act.{Act}
use Rattle.sat_act.specs.declared.answer.Answer.TheVariants as ans
use Rattle.sat_act.specs.Deployed.{Deployed}
use Rattle.sat_act.specs.Parts.{tree_of, entered}
use Rattle.sat_act.specs.Answers.{answer}
use Rattle.sat_chain_laws.specs.declared.chain_act.ChainAct.{ChainAct}
use Rattle.sat_chain_laws.specs.declared.chain_act.ChainAct.TheVariants as chain
use Rattle.sat_chain_laws.specs.declared.chain_answer.ChainAnswer.{ChainAnswer}
use Rattle.sat_chain_laws.specs.declared.chain_answer.ChainAnswer.TheVariants as says
use Rattle.sat_chain_laws.specs.declared.chain_answer.ChainRefusal.{ChainRefusal}
use Rattle.sat_chain_laws.specs.declared.chain_answer.ChainRefusal.TheVariants as why
use Rattle.sat_chain_laws.specs.Rows.{Pair, Replica, head, next_after, tail, labels_from}
use Rattle.sat_chain_laws.specs.Chains.{ChainEntry, seq, applied, plain}
use Rattle.sat_chain_laws.specs.ChainAnswers.{goes_to, enter_at, pass_at, apply_at, crash_at, chain_answer}

pub data Move (d : Deployed) (r : ℕ) (c : List ChainEntry) : ChainAct → ChainAnswer → Type 0 where
  plainly : {a : Act} → Move d r c (chain.Plain a) (says.Plain (answer d (plain r c) a))
  enters : {e z : ℕ} {u : NodeId} {t : TreeShape} {l : Label} {q : Replica} → head r (seq r c e z) ≡ Some q → tree_of d e ≡ Some t →
      slice_get (entered d (plain r c) e t u (Serializer z)) (length (labels_from u q.list)) ≡ Some l → Move d r c (chain.Enter e u z) (says.Entered l)
  passes : {e z k : ℕ} {xs : List Pair} {n : Replica} {p : Pair} → seq r c e z k ≡ Some xs → next_after r (seq r c e z) k ≡ Some n → slice_get xs (length n.list) ≡ Some p →
      Move d r c (chain.Pass e z k) (says.Passed p.label)
  applies : {e z : ℕ} {t : TreeShape} {q : Replica} {p : Pair} → tail r (seq r c e z) ≡ Some q → slice_get q.list (applied c e z) ≡ Some p → tree_of d e ≡ Some t →
      Move d r c (chain.Apply e z) (says.Plain (ans.Hopped p.label (goes_to d t z p)))
  crashes : {e z k : ℕ} {xs : List Pair} → seq r c e z k ≡ Some xs → Move d r c (chain.Crash e z k) says.Crashed
  refuses : {a : ChainAct} {reason : ChainRefusal} → Move d r c a (says.Refused reason)

module _ (d : Deployed) (r : ℕ) (c : List ChainEntry) where
  enter-front : (e z : ℕ) (u : NodeId) (q : Replica) (t : TreeShape) → head r (seq r c e z) ≡ Some q → tree_of d e ≡ Some t → (o : Option Label) →
      slice_get (entered d (plain r c) e t u (Serializer z)) (length (labels_from u q.list)) ≡ o →
      Move d r c (chain.Enter e u z) (elim o [ None ↦ says.Refused why.Empty | Some l ↦ says.Entered l ])
  enter-front e z u q t h k None w = refuses
  enter-front e z u q t h k (Some l) w = enters h k w

  enter-tree : (e z : ℕ) (u : NodeId) (q : Replica) → head r (seq r c e z) ≡ Some q → (o : Option TreeShape) → tree_of d e ≡ o →
      Move d r c (chain.Enter e u z) (elim o [
        | None ↦ says.Refused why.Empty
        | Some tree ↦ elim (slice_get (entered d (plain r c) e tree u (Serializer z)) (length (labels_from u q.list))) [ None ↦ says.Refused why.Empty | Some l ↦ says.Entered l ]
      ])
  enter-tree e z u q h None k = refuses
  enter-tree e z u q h (Some t) k = enter-front e z u q t h k (slice_get (entered d (plain r c) e t u (Serializer z)) (length (labels_from u q.list))) refl

  enter-cases : (e z : ℕ) (u : NodeId) (o : Option Replica) → head r (seq r c e z) ≡ o → Move d r c (chain.Enter e u z) (enter_at d (plain r c) e u z o)
  unfolding enter_at
  enter-cases e z u None h = refuses
  enter-cases e z u (Some q) h = enter-tree e z u q h (tree_of d e) refl

  pass-pair : (e z k : ℕ) (xs : List Pair) (n : Replica) → seq r c e z k ≡ Some xs → next_after r (seq r c e z) k ≡ Some n → (o : Option Pair) → slice_get xs (length n.list) ≡ o →
      Move d r c (chain.Pass e z k) (elim o [ None ↦ says.Refused why.Empty | Some p ↦ says.Passed p.label ])
  pass-pair e z k xs n s f None w = refuses
  pass-pair e z k xs n s f (Some p) w = passes s f w

  pass-cases : (e z k : ℕ) (first : Option Replica) (own : Option (List Pair)) (next : Option Replica) → seq r c e z k ≡ own → next_after r (seq r c e z) k ≡ next →
      Move d r c (chain.Pass e z k) (pass_at first own next)
  unfolding pass_at
  pass-cases e z k None own next s f = refuses
  pass-cases e z k (Some q) None next s f = refuses
  pass-cases e z k (Some q) (Some xs) None s f = refuses
  pass-cases e z k (Some q) (Some xs) (Some n) s f = pass-pair e z k xs n s f (slice_get xs (length n.list)) refl

  apply-tree : (e z : ℕ) (q : Replica) (p : Pair) → tail r (seq r c e z) ≡ Some q → slice_get q.list (applied c e z) ≡ Some p → (o : Option TreeShape) → tree_of d e ≡ o →
      Move d r c (chain.Apply e z) (elim o [ None ↦ says.Refused why.Empty | Some tree ↦ says.Plain (ans.Hopped p.label (goes_to d tree z p)) ])
  apply-tree e z q p h w None k = refuses
  apply-tree e z q p h w (Some t) k = applies h w k

  apply-pair : (e z : ℕ) (q : Replica) → tail r (seq r c e z) ≡ Some q → (o : Option Pair) → slice_get q.list (applied c e z) ≡ o →
      Move d r c (chain.Apply e z) (elim o [
        | None ↦ says.Refused why.Empty
        | Some p ↦ elim (tree_of d e) [ None ↦ says.Refused why.Empty | Some tree ↦ says.Plain (ans.Hopped p.label (goes_to d tree z p)) ]
      ])
  apply-pair e z q h None w = refuses
  apply-pair e z q h (Some p) w = apply-tree e z q p h w (tree_of d e) refl

  apply-cases : (e z : ℕ) (o : Option Replica) → tail r (seq r c e z) ≡ o → Move d r c (chain.Apply e z) (apply_at d e z (applied c e z) o)
  unfolding apply_at
  apply-cases e z None h = refuses
  apply-cases e z (Some q) h = apply-pair e z q h (slice_get q.list (applied c e z)) refl

  crash-cases : (e z k : ℕ) (o : Option (List Pair)) → seq r c e z k ≡ o → Move d r c (chain.Crash e z k) (crash_at o)
  crash-cases e z k None s = refuses
  crash-cases e z k (Some xs) s = crashes s

  pub move : (a : ChainAct) → Move d r c a (chain_answer d r c a)
  unfolding chain_answer
  move (chain.Plain a) = plainly
  move (chain.Enter e u z) = enter-cases e z u (head r (seq r c e z)) refl
  move (chain.Pass e z k) = pass-cases e z k (head r (seq r c e z)) (seq r c e z k) (next_after r (seq r c e z) k) refl refl
  move (chain.Apply e z) = apply-cases e z (tail r (seq r c e z)) refl
  move (chain.Crash e z k) = crash-cases e z k (seq r c e z k) refl
