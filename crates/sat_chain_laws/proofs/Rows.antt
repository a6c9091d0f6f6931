-- What the steps of a chain keep of its row.
use Rattle.std.proofs.Common.{◌≡◌, ◌⊎◌, ◌<◌, ◌≤◌, ℕ, zero, suc, ◌+◌, ◌-◌, Bool, true, false, ◌==◌, nat_le, List, [], ◌∷◌, ◌++◌, length, Option, Some, None, slice_get, refl, sym, ap, subst, ◌∙◌, inl, inr, if◌then◌else◌, append-nil, arith}
use Rattle.std.proofs.lemmas.Bool.Decides.{nat_tests}
use Rattle.sat_label.specs.declared.label.Label.{Label}
use Rattle.sat_label.specs.declared.node.NodeId.{NodeId}
use Rattle.sat_label.specs.Order.{node_eq}
use Rattle.sat_label.specs.Members.{In}
use Rattle.sat_label.proofs.Members.{In-parts, In-get}
use Rattle.sat_label.proofs.SameNodes.{same-node}
use Rattle.sat_chain_laws.specs.Rows.{Pair, Replica, Row, here_or, first_from, head, next_after, tail, row_with, labels_from, IsPrefix}
use Rattle.sat_chain_laws.proofs.Lists.{some_is, prefix-self, prefix-more, prefix-trans, prefix-grow, prefix-place, labels-append, labels-prefix, labels-own, labels-other}

-- ---- the first and the last living replica

-- q is the first living replica from k on, below m
pub record IsFirst (row : Row) (k m : ℕ) (q : Replica) : Type 0 where
  pub has : row q.number ≡ Some q.list
  pub from : k ≤ q.number
  pub within : q.number < m
  pub least : (j : ℕ) (xs : List Pair) → k ≤ j → j < q.number → row j ≡ Some xs → ⊥

pub le-cases : (k j : ℕ) → k ≤ j → (k ≡ j) ⊎ (k + 1 ≤ j)
le-cases k j e = go (k == j) refl
  where
    go : (b : Bool) → (k == j) ≡ b → (k ≡ j) ⊎ (k + 1 ≤ j)
    go true w = inl (grind (arith, nat_tests))
    go false w = inr (grind (arith, nat_tests))

pub first-is : (row : Row) (k n : ℕ) (q : Replica) → first_from row k n ≡ Some q → IsFirst row k (k + n) q
unfolding first_from
first-is row k zero q e = absurd (cc)
first-is row k (suc n) q e = go (first-is row (k + 1) n q) (row k) refl e
  where
    go : (first_from row (k + 1) n ≡ Some q → IsFirst row (k + 1) (k + 1 + n) q) → (o : Option (List Pair)) → row k ≡ o → here_or k o (first_from row (k + 1) n) ≡ Some q → IsFirst row k (k + suc n) q
    go rest (Some xs) w s = subst (λ (q : Replica). IsFirst row k (k + suc n) q) (some_is _ q s)
        (record { has = w; from = omega arith; within = omega arith; least = λ j ys a b k. absurd (omega arith) })
    go rest None w s =
        let f : IsFirst row (k + 1) (k + 1 + n) q = rest s in
        record {
          has = f.has;
          from = let a : k + 1 ≤ q.number = f.from in omega arith;
          within = let a : q.number < k + 1 + n = f.within in omega arith;
          least = λ j ys a b living. elim (le-cases k j a) [
            | inl same ↦ let x : row k ≡ Some ys = subst (λ (i : ℕ). row i ≡ Some ys) (sym same) living in let y : None ≡ Some ys = sym w ∙ x in cc
            | inr more ↦ f.least j ys more b living
          ];
        }

pub first-none : (row : Row) (k n : ℕ) → first_from row k n ≡ None → (j : ℕ) (xs : List Pair) → k ≤ j → j < k + n → row j ≡ Some xs → ⊥
unfolding first_from
first-none row k zero e j xs a b living = omega arith
first-none row k (suc n) e j xs a b living = go (λ s more lt. first-none row (k + 1) n s j xs more lt living) (row k) refl e
  where
    go : (first_from row (k + 1) n ≡ None → k + 1 ≤ j → j < k + 1 + n → ⊥) → (o : Option (List Pair)) → row k ≡ o → here_or k o (first_from row (k + 1) n) ≡ None → ⊥
    go rest (Some ys) w s = cc
    go rest None w s = elim (le-cases k j a) [
      | inl same ↦ let x : row k ≡ Some xs = subst (λ (i : ℕ). row i ≡ Some xs) (sym same) living in let y : None ≡ Some xs = sym w ∙ x in cc
      | inr more ↦ rest s more (omega arith)
    ]

-- q is the last living replica below n
pub record IsLast (row : Row) (n : ℕ) (q : Replica) : Type 0 where
  pub has : row q.number ≡ Some q.list
  pub within : q.number < n
  pub most : (j : ℕ) (xs : List Pair) → j < n → row j ≡ Some xs → j ≤ q.number

pub tail-is : (n : ℕ) (row : Row) (q : Replica) → tail n row ≡ Some q → IsLast row n q
unfolding tail
tail-is zero row q e = absurd (cc)
tail-is (suc n) row q e = go (tail-is n row q) (row n) refl e
  where
    go : (tail n row ≡ Some q → IsLast row n q) → (o : Option (List Pair)) → row n ≡ o → here_or n o (tail n row) ≡ Some q → IsLast row (suc n) q
    go rest (Some xs) w s = subst (λ (q : Replica). IsLast row (suc n) q) (some_is _ q s) (record { has = w; within = omega arith; most = λ j ys b k. omega arith })
    go rest None w s =
        let f : IsLast row n q = rest s in
        record {
          has = f.has;
          within = let a : q.number < n = f.within in omega arith;
          most = λ j ys b living. elim (le-cases j n (omega arith)) [
            | inl same ↦ absurd (let x : row n ≡ Some ys = subst (λ (i : ℕ). row i ≡ Some ys) same living in let y : None ≡ Some ys = sym w ∙ x in cc)
            | inr more ↦ f.most j ys (omega arith) living
          ];
        }

pub either : (j k : ℕ) → (j ≤ k) ⊎ (k + 1 ≤ j)
either j k = go (nat_le j k) refl
  where
    go : (b : Bool) → nat_le j k ≡ b → (j ≤ k) ⊎ (k + 1 ≤ j)
    go true w = inl (grind (arith, nat_tests))
    go false w = inr (grind (arith, nat_tests))

-- ---- what holds of a row

-- of a chain of r replicas, to which links bring labels, and of whose pairs these took effect
pub record RowGood (links : NodeId → List Label) (IsNeighbour : NodeId → Type 0) (hops : List Pair) (r : ℕ) (row : Row) : Type 0 where
  pub bound : (k : ℕ) (xs : List Pair) → row k ≡ Some xs → k < r
  pub begins : (j k : ℕ) (xs ys : List Pair) → j < k → row j ≡ Some xs → row k ≡ Some ys → IsPrefix ys xs
  pub did : (k : ℕ) (xs : List Pair) → row k ≡ Some xs → IsPrefix hops xs
  pub from : (k : ℕ) (xs : List Pair) (u : NodeId) → row k ≡ Some xs → IsPrefix (labels_from u xs) (links u)
  pub near : (k : ℕ) (xs : List Pair) (p : Pair) → row k ≡ Some xs → In xs p → IsNeighbour p.from

-- what a row has at a place after a change there, or elsewhere
pub put-cases : (row : Row) (j : ℕ) (x : Option (List Pair)) (k : ℕ) (ys : List Pair) → row_with row j x k ≡ Some ys → ((j ≡ k) × (x ≡ Some ys)) ⊎ (((j == k) ≡ false) × (row k ≡ Some ys))
put-cases row j x k ys e = go (j == k) refl e
  where
    go : (b : Bool) → (j == k) ≡ b → (if b then x else row k) ≡ Some ys → ((j ≡ k) × (x ≡ Some ys)) ⊎ (((j == k) ≡ false) × (row k ≡ Some ys))
    go true w s = inl (grind (arith, nat_tests), s)
    go false w s = inr (w, s)

module _ (links : NodeId → List Label) (IsNeighbour : NodeId → Type 0) (hops : List Pair) (r : ℕ) (row : Row) (good : RowGood links IsNeighbour hops r row) where
  -- a later list is how an earlier or the same one begins
  pub up-to : (j k : ℕ) (xs ys : List Pair) → j ≤ k → row j ≡ Some xs → row k ≡ Some ys → IsPrefix ys xs
  up-to j k xs ys le a b = elim (le-cases j k le) [
    | inl same ↦
        let e : Some xs ≡ Some ys = sym a ∙ subst (λ (i : ℕ). row i ≡ Some ys) (sym same) b in
        subst (λ (zs : List Pair). IsPrefix zs xs) (some_is xs ys e) (prefix-self xs)
    | inr lt ↦ good.begins j k xs ys (omega arith) a b
  ]

  -- a replica crashes
  pub row-crash : (k : ℕ) → RowGood links IsNeighbour hops r (row_with row k None)
  row-crash k = record {
    bound = λ i xs a. elim (put-cases row k None i xs a) [ inl w ↦ absurd (cc) | inr w ↦ good.bound i xs w.1 ];
    begins = λ i j xs ys lt a b. elim (put-cases row k None i xs a) [
      | inl w ↦ absurd (cc)
      | inr w ↦ elim (put-cases row k None j ys b) [ inl v ↦ absurd (cc) | inr v ↦ good.begins i j xs ys lt w.1 v.1 ]
    ];
    did = λ i xs a. elim (put-cases row k None i xs a) [ inl w ↦ absurd (cc) | inr w ↦ good.did i xs w.1 ];
    from = λ i xs u a. elim (put-cases row k None i xs a) [ inl w ↦ absurd (cc) | inr w ↦ good.from i xs u w.1 ];
    near = λ i xs p a m. elim (put-cases row k None i xs a) [ inl w ↦ absurd (cc) | inr w ↦ good.near i xs p w.1 m ];
  }

  -- replica k gains a pair, such that each earlier one has it there already
  pub row-gain : (k : ℕ) (ys : List Pair) (p : Pair) → row k ≡ Some ys →
      ((j : ℕ) (xs : List Pair) → j < k → row j ≡ Some xs → IsPrefix (ys ++ p ∷ []) xs) →
      ((u : NodeId) → IsPrefix (labels_from u (ys ++ p ∷ [])) (links u)) → IsNeighbour p.from →
      RowGood links IsNeighbour hops r (row_with row k (Some (ys ++ p ∷ [])))
  row-gain k ys p has before fits near = record {
    bound = λ i xs a. elim (put-cases row k (Some (ys ++ p ∷ [])) i xs a) [
      | inl w ↦ subst (λ (m : ℕ). m < r) w.0 (good.bound k ys has)
      | inr w ↦ good.bound i xs w.1
    ];
    begins = λ i j xs zs lt a b. elim (put-cases row k (Some (ys ++ p ∷ [])) i xs a) [
      | inl w ↦ elim (put-cases row k (Some (ys ++ p ∷ [])) j zs b) [
        | inl v ↦ absurd (let x : k ≡ i = w.0 in let y : k ≡ j = v.0 in omega arith)
        | inr v ↦
            let x : k ≡ i = w.0 in
            let q : IsPrefix zs ys = good.begins k j ys zs (omega arith) has v.1 in
            subst (λ (l : List Pair). IsPrefix zs l) (some_is (ys ++ p ∷ []) xs w.1) (prefix-trans zs ys (ys ++ p ∷ []) q (prefix-more ys (p ∷ [])))
      ]
      | inr w ↦ elim (put-cases row k (Some (ys ++ p ∷ [])) j zs b) [
        | inl v ↦ let y : k ≡ j = v.0 in subst (λ (l : List Pair). IsPrefix l xs) (some_is (ys ++ p ∷ []) zs v.1) (before i xs (omega arith) w.1)
        | inr v ↦ good.begins i j xs zs lt w.1 v.1
      ]
    ];
    did = λ i xs a. elim (put-cases row k (Some (ys ++ p ∷ [])) i xs a) [
      | inl w ↦ subst (λ (l : List Pair). IsPrefix hops l) (some_is (ys ++ p ∷ []) xs w.1) (prefix-trans hops ys (ys ++ p ∷ []) (good.did k ys has) (prefix-more ys (p ∷ [])))
      | inr w ↦ good.did i xs w.1
    ];
    from = λ i xs u a. elim (put-cases row k (Some (ys ++ p ∷ [])) i xs a) [
      | inl w ↦ subst (λ (l : List Pair). IsPrefix (labels_from u l) (links u)) (some_is (ys ++ p ∷ []) xs w.1) (fits u)
      | inr w ↦ good.from i xs u w.1
    ];
    near = λ i xs q a m. elim (put-cases row k (Some (ys ++ p ∷ [])) i xs a) [
      | inl w ↦ one q (In-parts ys (p ∷ []) q (subst (λ (l : List Pair). In l q) (sym (some_is (ys ++ p ∷ []) xs w.1)) m))
      | inr w ↦ good.near i xs q w.1 m
    ];
  }
    where
      one : (q : Pair) → In ys q ⊎ In (p ∷ []) q → IsNeighbour q.from
      one q (inl i) = good.near k ys q has i
      one q (inr (inl e)) = subst (λ (q : Pair). IsNeighbour q.from) e near
      one q (inr (inr i)) = absurd i

  -- the head takes in the label that stands behind those that it has
  enter-fits : (ys : List Pair) (u : NodeId) (l : Label) → ((v : NodeId) → IsPrefix (labels_from v ys) (links v)) → slice_get (links u) (length (labels_from u ys)) ≡ Some l →
      (v : NodeId) → IsPrefix (labels_from v (ys ++ record { from = u; label = l } ∷ [])) (links v)
  enter-fits ys u l old at v = go (node_eq u v) refl
    where
      p : Pair
      p = record { from = u; label = l }

      go : (b : Bool) → node_eq u v ≡ b → IsPrefix (labels_from v (ys ++ record { from = u; label = l } ∷ [])) (links v)
      go true w = subst (λ (v : NodeId). IsPrefix (labels_from v (ys ++ record { from = u; label = l } ∷ [])) (links v)) (same-node u v w)
          (subst (λ (ls : List Label). IsPrefix ls (links u)) (sym (labels-append u ys (record { from = u; label = l } ∷ []) ∙ ap (λ (ls : List Label). labels_from u ys ++ ls) (labels-own (record { from = u; label = l }))))
          (prefix-grow (labels_from u ys) (links u) l (old u) at))
      go false w =
          subst (λ (ls : List Label). IsPrefix ls (links v)) (sym (labels-append v ys (record { from = u; label = l } ∷ []) ∙ ap (λ (ls : List Label). labels_from v ys ++ ls) (labels-other v (record { from = u; label = l }) w) ∙ append-nil (labels_from v ys)))
          (old v)

  pub row-enter : (q : Replica) (u : NodeId) (l : Label) → head r row ≡ Some q → slice_get (links u) (length (labels_from u q.list)) ≡ Some l → IsNeighbour u →
      RowGood links IsNeighbour hops r (row_with row q.number (Some (q.list ++ record { from = u; label = l } ∷ [])))
  unfolding head
  row-enter q u l e at near =
      let f : IsFirst row 0 (0 + r) q = first-is row 0 r q e in
      row-gain q.number q.list (record { from = u; label = l }) f.has (λ j xs lt living. absurd (f.least j xs (omega arith) lt living))
      (enter-fits q.list u l (λ v. good.from q.number q.list v f.has) at) near

  -- a replica hands on the pair that the next living one does not have yet
  pub row-pass : (k : ℕ) (xs : List Pair) (n : Replica) (p : Pair) → row k ≡ Some xs → next_after r row k ≡ Some n → slice_get xs (length n.list) ≡ Some p →
      RowGood links IsNeighbour hops r (row_with row n.number (Some (n.list ++ p ∷ [])))
  unfolding next_after
  row-pass k xs n p has e at =
      let f : IsFirst row (k + 1) (k + 1 + (r - (k + 1))) n = first-is row (k + 1) (r - (k + 1)) n e in
      let b : k + 1 ≤ n.number = f.from in
      let grown : IsPrefix (n.list ++ p ∷ []) xs = prefix-grow n.list xs p (good.begins k n.number xs n.list (omega arith) has f.has) at in
      row-gain n.number n.list p f.has
      (λ j ys lt living. elim (either j k) [
        | inl before ↦ prefix-trans (n.list ++ p ∷ []) xs ys grown (up-to j k ys xs before living has)
        | inr after ↦ absurd (f.least j ys after lt living)
      ])
      (λ u. prefix-trans (labels_from u (n.list ++ p ∷ [])) (labels_from u xs) (links u) (labels-prefix u (n.list ++ p ∷ []) xs grown) (good.from k xs u has))
      (good.near k xs p has (In-get xs (length n.list) p at))

  -- the tail's next pair takes effect
  pub row-apply : (t : Replica) (p : Pair) → tail r row ≡ Some t → slice_get t.list (length hops) ≡ Some p → RowGood links IsNeighbour (hops ++ p ∷ []) r row
  row-apply t p e at =
      let f : IsLast row r t = tail-is r row t e in
      let grown : IsPrefix (hops ++ p ∷ []) t.list = prefix-grow hops t.list p (good.did t.number t.list f.has) at in
      record {
        bound = good.bound;
        begins = good.begins;
        did = λ k xs living. prefix-trans (hops ++ p ∷ []) t.list xs grown (up-to k t.number xs t.list (f.most k xs (good.bound k xs living) living) living f.has);
        from = good.from;
        near = good.near;
      }

  -- the pair that takes effect is the front of its neighbour's link
  pub row-front : (t : Replica) (p : Pair) → tail r row ≡ Some t → slice_get t.list (length hops) ≡ Some p →
      (slice_get (links p.from) (length (labels_from p.from hops)) ≡ Some p.label) × IsNeighbour p.from × (row t.number ≡ Some t.list)
  row-front t p e at =
      let f : IsLast row r t = tail-is r row t e in
      let grown : IsPrefix (hops ++ p ∷ []) t.list = prefix-grow hops t.list p (good.did t.number t.list f.has) at in
      let ls : IsPrefix (labels_from p.from (hops ++ p ∷ [])) (links p.from) =
      prefix-trans (labels_from p.from (hops ++ p ∷ [])) (labels_from p.from t.list) (links p.from) (labels-prefix p.from (hops ++ p ∷ []) t.list grown) (good.from t.number t.list p.from f.has) in
      let own : labels_from p.from (hops ++ p ∷ []) ≡ labels_from p.from hops ++ p.label ∷ [] =
      labels-append p.from hops (p ∷ []) ∙ ap (λ (l : List Label). labels_from p.from hops ++ l) (labels-own p) in (
        prefix-place (labels_from p.from hops) (links p.from) p.label (subst (λ (l : List Label). IsPrefix l (links p.from)) own ls),
        good.near t.number t.list p f.has (In-get t.list (length hops) p at),
        f.has,
      )

-- the links bring more
pub row-more : (links more : NodeId → List Label) (IsNeighbour : NodeId → Type 0) (hops : List Pair) (r : ℕ) (row : Row) → ((u : NodeId) → IsPrefix (links u) (more u)) →
    RowGood links IsNeighbour hops r row → RowGood more IsNeighbour hops r row
row-more links more IsNeighbour hops r row grows good = record {
  bound = good.bound;
  begins = good.begins;
  did = good.did;
  from = λ k xs u living. prefix-trans (labels_from u xs) (links u) (more u) (good.from k xs u living) (grows u);
  near = good.near;
}
