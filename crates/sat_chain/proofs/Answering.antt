-- The answers of steps of a chain, by what the chain keeps.
use Rattle.std.proofs.Common.{◌≡◌, ◌<◌, ◌≤◌, ℕ, ◌+◌, ◌-◌, List, length, take, sum_by, get_or, Option, Some, None, slice_get, refl, sym, ap, subst, ◌∙◌, arith}
use Rattle.std.proofs.Math.Seq.{take-append_seam}
use Rattle.sat_label.specs.declared.label.Label.{Label}
use Rattle.sat_label.specs.declared.node.NodeId.{NodeId}
use Rattle.sat_label.specs.declared.node.NodeId.TheVariants.{Serializer}
use Rattle.sat_label.specs.Members.{In}
use Rattle.sat_tree.specs.Shape.{TreeShape}
use Rattle.sat_act.specs.declared.answer.Answer.TheVariants as ans
use Rattle.sat_act.specs.declared.entry.Entry.{Entry}
use Rattle.sat_act.specs.Deployed.{Deployed}
use Rattle.sat_act.specs.Headline.{HasTrees}
use Rattle.sat_act.specs.Parts.{tree_of, entered, taken}
use Rattle.sat_serial.specs.Hits.{code}
use Rattle.sat_chain_laws.specs.declared.pair.Pair.{Pair}
use Rattle.sat_chain_laws.specs.declared.chain_act.ChainAct.TheVariants as chain
use Rattle.sat_chain_laws.specs.declared.chain_answer.ChainAnswer.{ChainAnswer}
use Rattle.sat_chain_laws.specs.declared.chain_answer.ChainAnswer.TheVariants as says
use Rattle.sat_chain_laws.specs.declared.chain_answer.ChainRefusal.TheVariants as why
use Rattle.sat_chain_laws.specs.Rows.{Replica, Row, first_from, head, next_after, tail, labels_from, IsPrefix}
use Rattle.sat_chain_laws.specs.Chains.{ChainEntry, seq, applied, plain, hops}
use Rattle.sat_chain_laws.specs.ChainAnswers.{goes_to, enter_at, pass_at, apply_at, chain_answer}
use Rattle.sat_chain_laws.specs.Goals.{ways, SeatsAll}
use Rattle.sat_chain_laws.proofs.Lists.{some_is, labels-prefix, prefix-length}
use Rattle.sat_chain_laws.proofs.Rows.{IsFirst, IsLast, first-is, tail-is}
use Rattle.sat_chain_laws.proofs.Done.{taken-is}
use Rattle.sat_chain_laws.proofs.Held.{Held, Good}
use Rattle.sat_chain_laws.proofs.Totals.{totals}
use Rattle.sat_chain.specs.declared.by_node.TheConstants.{PLACES}
use Rattle.sat_chain.specs.Chained.{ChainSeen, row_of, number_of}
use Rattle.sat_chain.specs.StandsChain.{StandsChain}

-- ---- replicas by their numbers

pub none-is : (o : Option Replica) → None ≡ number_of o → o ≡ None
none-is None e = refl
none-is (Some q) e = absurd (cc)

pub some-is : (o : Option Replica) (k : ℕ) → Some k ≡ number_of o → (q : Replica) × (o ≡ Some q) × (q.number ≡ k)
some-is None k e = absurd (cc)
some-is (Some q) k e = (q, refl, sym (some_is k q.number e))

-- a replica that was found has a list
pub first-has : (row : Row) (a n k : ℕ) → Some k ≡ number_of (first_from row a n) → (xs : List Pair) × (row k ≡ Some xs) × (k < a + n)
first-has row a n k e =
    let w : (q : Replica) × (first_from row a n ≡ Some q) × (q.number ≡ k) = some-is (first_from row a n) k e in
    let f : IsFirst row a (a + n) w.0 = first-is row a n w.0 w.1 in
    (w.0.list, subst (λ (m : ℕ). row m ≡ Some w.0.list) w.2 f.has, subst (λ (m : ℕ). m < a + n) w.2 f.within)

pub tail-has : (row : Row) (n k : ℕ) → Some k ≡ number_of (tail n row) → (xs : List Pair) × (row k ≡ Some xs) × (k < n)
tail-has row n k e =
    let w : (q : Replica) × (tail n row ≡ Some q) × (q.number ≡ k) = some-is (tail n row) k e in
    let f : IsLast row n w.0 = tail-is n row w.0 w.1 in
    (w.0.list, subst (λ (m : ℕ). row m ≡ Some w.0.list) w.2 f.has, subst (λ (m : ℕ). m < n) w.2 f.within)

-- the replica with this number and list
pub record Finds (o : Option Replica) (k : ℕ) (xs : List Pair) : Type 0 where
  pub replica : Replica
  pub is : o ≡ Some replica
  pub number : replica.number ≡ k
  pub list : replica.list ≡ xs

-- what the head is answered, by what stands on the link
abbrev pub entering : Option Label → ChainAnswer
entering o = elim o [ None ↦ says.Refused why.Empty | Some l ↦ says.Entered l ]

head-enters : (d : Deployed) (h : List Entry) (f y : ℕ) (u : NodeId) (t : TreeShape) (q : Replica) → tree_of d f ≡ Some t →
    enter_at d h f u y (Some q) ≡ entering (slice_get (entered d h f t u (Serializer y)) (length (labels_from u q.list)))
unfolding enter_at
head-enters d h f y u t q planned =
    ap (λ (o : Option TreeShape). elim o [ None ↦ says.Refused why.Empty | Some tree ↦ entering (slice_get (entered d h f tree u (Serializer y)) (length (labels_from u q.list))) ]) planned

-- what a pass is answered, by what the replica has there
abbrev pub passing : Option Pair → ChainAnswer
passing o = elim o [ None ↦ says.Refused why.Empty | Some p ↦ says.Passed p.label ]

abbrev applying : Deployed → ℕ → ℕ → Option Pair → ChainAnswer
applying d f y o =
    elim o [
      | None ↦ says.Refused why.Empty
      | Some p ↦ elim (tree_of d f) [ None ↦ says.Refused why.Empty | Some tree ↦ says.Plain (ans.Hopped p.label (goes_to d tree y p)) ]
    ]

tail-applies : (d : Deployed) (f y n : ℕ) (q : Replica) → apply_at d f y n (Some q) ≡ applying d f y (slice_get q.list n)
unfolding apply_at
tail-applies d f y n q = refl

module _ (d : Deployed) (r : ℕ) (c : List ChainEntry) (f y : ℕ) (ch : ChainSeen) (st : StandsChain d r c f y ch) where
  rows-are : row_of ch.rows ≡ seq r c f y
  rows-are = λ i k. st.rows k i

  head-is : number_of (first_from (row_of ch.rows) 0 (length ch.rows - 0)) ≡ number_of (head r (seq r c f y))
  unfolding head
  head-is = let n : length ch.rows - 0 ≡ r = omega (arith, st.size) in λ i. number_of (first_from (rows-are i) 0 (n i))

  next-is : (k : ℕ) → number_of (first_from (row_of ch.rows) (k + 1) (length ch.rows - (k + 1))) ≡ number_of (next_after r (seq r c f y) k)
  unfolding next_after
  next-is k = let n : length ch.rows - (k + 1) ≡ r - (k + 1) = omega (arith, st.size) in λ i. number_of (first_from (rows-are i) (k + 1) (n i))

  tail-here : number_of (tail (length ch.rows) (row_of ch.rows)) ≡ number_of (tail r (seq r c f y))
  tail-here = λ i. number_of (tail (st.size i) (rows-are i))

  pub no-head : None ≡ number_of (first_from (row_of ch.rows) 0 (length ch.rows - 0)) → head r (seq r c f y) ≡ None
  no-head e = none-is (head r (seq r c f y)) (e ∙ head-is)

  pub no-next : (k : ℕ) → None ≡ number_of (first_from (row_of ch.rows) (k + 1) (length ch.rows - (k + 1))) → next_after r (seq r c f y) k ≡ None
  no-next k e = none-is (next_after r (seq r c f y) k) (e ∙ next-is k)

  pub no-tail : None ≡ number_of (tail (length ch.rows) (row_of ch.rows)) → tail r (seq r c f y) ≡ None
  no-tail e = none-is (tail r (seq r c f y)) (e ∙ tail-here)

  pub the-head : (k : ℕ) (xs : List Pair) → Some k ≡ number_of (first_from (row_of ch.rows) 0 (length ch.rows - 0)) → row_of ch.rows k ≡ Some xs → Finds (head r (seq r c f y)) k xs
  unfolding head
  the-head k xs e has =
      let w : (q : Replica) × (head r (seq r c f y) ≡ Some q) × (q.number ≡ k) = some-is (head r (seq r c f y)) k (e ∙ head-is) in
      let f1 : IsFirst (seq r c f y) 0 (0 + r) w.0 = first-is (seq r c f y) 0 r w.0 w.1 in
      record { replica = w.0; is = w.1; number = w.2; list = some_is w.0.list xs (sym f1.has ∙ ap (seq r c f y) w.2 ∙ sym (st.rows k) ∙ has) }

  pub the-next : (k n : ℕ) (xs : List Pair) → Some n ≡ number_of (first_from (row_of ch.rows) (k + 1) (length ch.rows - (k + 1))) → row_of ch.rows n ≡ Some xs → Finds (next_after r (seq r c f y) k) n xs
  unfolding next_after
  the-next k n xs e has =
      let w : (q : Replica) × (next_after r (seq r c f y) k ≡ Some q) × (q.number ≡ n) = some-is (next_after r (seq r c f y) k) n (e ∙ next-is k) in
      let f1 : IsFirst (seq r c f y) (k + 1) (k + 1 + (r - (k + 1))) w.0 = first-is (seq r c f y) (k + 1) (r - (k + 1)) w.0 w.1 in
      record { replica = w.0; is = w.1; number = w.2; list = some_is w.0.list xs (sym f1.has ∙ ap (seq r c f y) w.2 ∙ sym (st.rows n) ∙ has) }

  pub the-tail : (k : ℕ) (xs : List Pair) → Some k ≡ number_of (tail (length ch.rows) (row_of ch.rows)) → row_of ch.rows k ≡ Some xs → Finds (tail r (seq r c f y)) k xs
  the-tail k xs e has =
      let w : (q : Replica) × (tail r (seq r c f y) ≡ Some q) × (q.number ≡ k) = some-is (tail r (seq r c f y)) k (e ∙ tail-here) in
      let f1 : IsLast (seq r c f y) r w.0 = tail-is r (seq r c f y) w.0 w.1 in
      record { replica = w.0; is = w.1; number = w.2; list = some_is w.0.list xs (sym f1.has ∙ ap (seq r c f y) w.2 ∙ sym (st.rows k) ∙ has) }

  -- ---- enter

  pub enter-dead : (u : NodeId) → None ≡ number_of (first_from (row_of ch.rows) 0 (length ch.rows - 0)) → says.Refused why.Dead ≡ chain_answer d r c (chain.Enter f u y)
  unfolding chain_answer enter_at
  enter-dead u e = sym (ap (enter_at d (plain r c) f u y) (no-head e))

  -- the place behind those that the head has
  pub place-is : (u : NodeId) (k ahead : ℕ) (xs : List Pair) → Held d r c → code u < PLACES → row_of ch.rows k ≡ Some xs → ahead ≡ length (labels_from u xs) - get_or ch.taken (code u) 0 →
      taken d (plain r c) f u (Serializer y) + ahead ≡ length (labels_from u xs)
  place-is u k ahead xs all small has is =
      let was : taken d (plain r c) f u (Serializer y) ≡ length (labels_from u (hops (plain r c) f y)) = taken-is d (plain r c) f y u all.run in
      let kept : get_or ch.taken (code u) 0 ≡ length (labels_from u (hops (plain r c) f y)) = st.taken.each u small in
      let good : Good d (plain r c) r f y (seq r c f y) = all.rows f y in
      let low : length (labels_from u (hops (plain r c) f y)) ≤ length (labels_from u xs) =
      prefix-length (labels_from u (hops (plain r c) f y)) (labels_from u xs) (labels-prefix u (hops (plain r c) f y) xs (good.did k xs (sym (st.rows k) ∙ has))) in
      omega arith

  pub enter-answer : (u : NodeId) (t : TreeShape) (k ahead : ℕ) (xs : List Pair) (o : Option Label) → Held d r c → tree_of d f ≡ Some t → code u < PLACES →
      Some k ≡ number_of (first_from (row_of ch.rows) 0 (length ch.rows - 0)) → row_of ch.rows k ≡ Some xs → ahead ≡ length (labels_from u xs) - get_or ch.taken (code u) 0 →
      o ≡ slice_get (entered d (plain r c) f t u (Serializer y)) (taken d (plain r c) f u (Serializer y) + ahead) → entering o ≡ chain_answer d r c (chain.Enter f u y)
  unfolding chain_answer
  enter-answer u t k ahead xs o all planned small e has is there =
      let q : Finds (head r (seq r c f y)) k xs = the-head k xs e has in
      let at : o ≡ slice_get (entered d (plain r c) f t u (Serializer y)) (length (labels_from u q.replica.list)) =
      there ∙ ap (slice_get (entered d (plain r c) f t u (Serializer y))) (place-is u k ahead xs all small has is ∙ ap (λ (ys : List Pair). length (labels_from u ys)) (sym q.list)) in
      ap entering at ∙ sym (ap (enter_at d (plain r c) f u y) q.is ∙ head-enters d (plain r c) f y u t q.replica planned)

  -- ---- pass

  pub pass-dead : (k : ℕ) → None ≡ number_of (first_from (row_of ch.rows) 0 (length ch.rows - 0)) → says.Refused why.Dead ≡ chain_answer d r c (chain.Pass f y k)
  unfolding chain_answer pass_at
  pass-dead k e = rw (no-head e) refl

  pub pass-crashed : (k n : ℕ) → Some n ≡ number_of (first_from (row_of ch.rows) 0 (length ch.rows - 0)) → row_of ch.rows k ≡ None → says.Refused why.Crashed ≡ chain_answer d r c (chain.Pass f y k)
  unfolding chain_answer pass_at
  pass-crashed k n e gone = let w : (q : Replica) × (head r (seq r c f y) ≡ Some q) × (q.number ≡ n) = some-is (head r (seq r c f y)) n (e ∙ head-is) in rw (w.1, sym (st.rows k) ∙ gone) refl

  pub pass-last : (k n : ℕ) (xs : List Pair) → Some n ≡ number_of (first_from (row_of ch.rows) 0 (length ch.rows - 0)) → row_of ch.rows k ≡ Some xs →
      None ≡ number_of (first_from (row_of ch.rows) (k + 1) (length ch.rows - (k + 1))) → says.Refused why.Last ≡ chain_answer d r c (chain.Pass f y k)
  unfolding chain_answer pass_at
  pass-last k n xs e has none =
      let w : (q : Replica) × (head r (seq r c f y) ≡ Some q) × (q.number ≡ n) = some-is (head r (seq r c f y)) n (e ∙ head-is) in
      rw (w.1, sym (st.rows k) ∙ has, no-next k none) refl

  pub pass-answer : (k n m : ℕ) (xs ys : List Pair) → Some n ≡ number_of (first_from (row_of ch.rows) 0 (length ch.rows - 0)) → row_of ch.rows k ≡ Some xs →
      Some m ≡ number_of (first_from (row_of ch.rows) (k + 1) (length ch.rows - (k + 1))) → row_of ch.rows m ≡ Some ys → passing (slice_get xs (length ys)) ≡ chain_answer d r c (chain.Pass f y k)
  unfolding chain_answer pass_at
  pass-answer k n m xs ys e has nx there =
      let w : (q : Replica) × (head r (seq r c f y) ≡ Some q) × (q.number ≡ n) = some-is (head r (seq r c f y)) n (e ∙ head-is) in
      let q : Finds (next_after r (seq r c f y) k) m ys = the-next k m ys nx there in
      rw (w.1, sym (st.rows k) ∙ has, q.is) (ap (λ (zs : List Pair). passing (slice_get xs (length zs))) (sym q.list))

  -- ---- apply

  pub apply-dead : None ≡ number_of (tail (length ch.rows) (row_of ch.rows)) → says.Refused why.Dead ≡ chain_answer d r c (chain.Apply f y)
  unfolding chain_answer apply_at
  apply-dead e = rw (no-tail e) refl

  pub apply-empty : (k n : ℕ) (xs : List Pair) → Some k ≡ number_of (tail (length ch.rows) (row_of ch.rows)) → row_of ch.rows k ≡ Some xs → n ≡ applied c f y → slice_get xs n ≡ None → says.Refused why.Empty ≡ chain_answer d r c (chain.Apply f y)
  unfolding chain_answer
  apply-empty k n xs e has is none =
      let q : Finds (tail r (seq r c f y)) k xs = the-tail k xs e has in
      let at : slice_get q.replica.list (applied c f y) ≡ None = (λ i. slice_get (q.list i) (sym is i)) ∙ none in
      sym (ap (apply_at d f y (applied c f y)) q.is ∙ tail-applies d f y (applied c f y) q.replica ∙ ap (applying d f y) at)

  pub apply-done : (k n : ℕ) (xs : List Pair) (p : Pair) (t : TreeShape) → Some k ≡ number_of (tail (length ch.rows) (row_of ch.rows)) → row_of ch.rows k ≡ Some xs → n ≡ applied c f y → slice_get xs n ≡ Some p → tree_of d f ≡ Some t →
      says.Plain (ans.Hopped p.label (goes_to d t y p)) ≡ chain_answer d r c (chain.Apply f y)
  unfolding chain_answer
  apply-done k n xs p t e has is there planned =
      let q : Finds (tail r (seq r c f y)) k xs = the-tail k xs e has in
      let at : slice_get q.replica.list (applied c f y) ≡ Some p = (λ i. slice_get (q.list i) (sym is i)) ∙ there in
      sym (ap (apply_at d f y (applied c f y)) q.is ∙ tail-applies d f y (applied c f y) q.replica ∙ ap (applying d f y) at
      ∙ ap (λ (o : Option TreeShape). elim o [ None ↦ says.Refused why.Empty | Some tree ↦ says.Plain (ans.Hopped p.label (goes_to d tree y p)) ]) planned)

  -- ---- crash

  pub crash-gone : (k : ℕ) → row_of ch.rows k ≡ None → says.Refused why.Crashed ≡ chain_answer d r c (chain.Crash f y k)
  unfolding chain_answer
  crash-gone k gone = rw (sym (st.rows k) ∙ gone) refl

  pub crash-done : (k : ℕ) (xs : List Pair) → row_of ch.rows k ≡ Some xs → says.Crashed ≡ chain_answer d r c (chain.Crash f y k)
  unfolding chain_answer
  crash-done k xs has = rw (sym (st.rows k) ∙ has) refl

  -- ---- the place of a new tail

  -- so many pairs of the list account for what was put, and each goes on somewhere
  pub record Accounted (t : TreeShape) (xs : List Pair) : Type 0 where
    pub each : (p : Pair) → In xs p → 0 < ways d t y p
    pub within : applied c f y ≤ length xs
    pub sum : sum_by (ways d t y) (take (applied c f y) xs) ≡ ch.put

  pub accounted : (t : TreeShape) (k : ℕ) (xs : List Pair) → HasTrees d → SeatsAll d → Held d r c → tree_of d f ≡ Some t → row_of ch.rows k ≡ Some xs → Accounted t xs
  accounted t k xs trees seats all planned has =
      let living : seq r c f y k ≡ Some xs = sym (st.rows k) ∙ has in
      let good : Good d (plain r c) r f y (seq r c f y) = all.rows f y in
      let did : IsPrefix (hops (plain r c) f y) xs = good.did k xs living in
      let count : applied c f y ≡ length (hops (plain r c) f y) = all.count f y in
      let low : length (hops (plain r c) f y) ≤ length xs = prefix-length (hops (plain r c) f y) xs did in
      let front : take (applied c f y) xs ≡ hops (plain r c) f y =
      ap (λ (n : ℕ). take n xs) count ∙ ap (take (length (hops (plain r c) f y))) did.1 ∙ take-append_seam (hops (plain r c) f y) did.0 in
      record {
        each = (totals d r c trees seats all f y k t xs planned living).0;
        within = omega arith;
        sum = ap (sum_by (ways d t y)) front ∙ sym (st.put t planned);
      }
