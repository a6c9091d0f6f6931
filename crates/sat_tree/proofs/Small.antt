-- A tree without a flaw is one, and a small tree has no flaw.
use Rattle.std.proofs.Common.{ℕ, zero, suc, add-one, ◌≡◌, ◌<◌, ◌≤◌, ◌+◌, ◌==◌, ◌&&◌, Bool, true, false, nat_lt, nat_le, List, length, Option, Some, None, refl, arith, slice_get, unwrap_or, inl, inr}
use Rattle.std.proofs.lemmas.Bool.Decides.{nat_tests}
use Rattle.std.proofs.lemmas.Bool.{cases_lt, eqb-true, eq-eqb, le-leb, lt-ltb, ltb-true, and_from}
use Rattle.std.proofs.lemmas.Option.{slice_get_within, slice_get_past}
use Rattle.sat_tree.specs.declared.fault.TreeFault.TheVariants.{TooMany, NotATree}
use Rattle.sat_label.specs.declared.limits.TheConstants.{MOST_SERIALIZERS, MOST_SITES}
use Rattle.sat_label.specs.Words.{first_failing}
use Rattle.sat_label.proofs.First.{first_none, first_start, first_more}
use Rattle.sat_tree.specs.Shape.{TreeShape}
use Rattle.sat_tree.specs.Cut.{parent_of, seat_of}
use Rattle.sat_tree.specs.Flaw.{parent_fits, seat_fits, few_serializers, tree_flaw, IsSmallTree}

parent-below : (parents : List (Option ℕ)) (z p : ℕ) → parent_of parents z ≡ Some p → parent_fits parents z ≡ true → p < z
unfolding parent_fits
parent-below parents z p is fits = let t : nat_lt p z ≡ true = rw (is, parent_fits) at fits in ltb-true p z t

parent-inner : (parents : List (Option ℕ)) (z p : ℕ) → parent_of parents z ≡ Some p → z < length parents
unfolding parent_of
parent-inner parents z p is = go (slice_get parents z) refl is
  where
    go : (o : Option (Option ℕ)) → slice_get parents z ≡ o → unwrap_or o None ≡ Some p → z < length parents
    go (Some q) at e = slice_get_within parents z q at
    go None at e = absurd (cc)

parent-hung : (parents : List (Option ℕ)) (z : ℕ) → 0 < z → parent_fits parents z ≡ true → (p : ℕ) × (parent_of parents z ≡ Some p)
unfolding parent_fits
parent-hung parents z some fits = go (parent_of parents z) refl
  where
    go : (o : Option ℕ) → parent_of parents z ≡ o → (p : ℕ) × (parent_of parents z ≡ Some p)
    go (Some p) is = (p, is)
    go None is = let t : (z == 0) ≡ true = rw (is, parent_fits) at fits in let e = eqb-true z 0 t in absurd (omega arith)

seat-in : (t : TreeShape) (i : ℕ) → 0 < length t.parents → (i < length t.seats → seat_fits t i ≡ true) → seat_of t i < length t.parents
unfolding seat_fits seat_of
seat-in t i some fits = elim (cases_lt i (length t.seats)) [
  | inl below ↦ ltb-true _ _ (fits below)
  | inr beyond ↦ rw (slice_get_past t.seats i beyond) some
]

-- what no flaw says
record NoFlaw (t : TreeShape) : Type 0 where
  some : 0 < length t.parents
  few : length t.parents ≤ MOST_SERIALIZERS
  parents : first_failing (parent_fits t.parents) (length t.parents) ≡ None
  seats : first_failing (seat_fits t) (length t.seats) ≡ None

no-flaw : (t : TreeShape) → tree_flaw t ≡ None → NoFlaw t
unfolding tree_flaw few_serializers
no-flaw t none = go (nat_lt 0 (length t.parents) && nat_le (length t.parents) MOST_SERIALIZERS) (first_failing (parent_fits t.parents) (length t.parents)) (first_failing (seat_fits t) (length t.seats)) refl refl refl none
  where
    go : (b : Bool) (p s : Option ℕ) → (nat_lt 0 (length t.parents) && nat_le (length t.parents) MOST_SERIALIZERS) ≡ b → first_failing (parent_fits t.parents) (length t.parents) ≡ p → first_failing (seat_fits t) (length t.seats) ≡ s → tree_flaw t ≡ None → NoFlaw t
    go true None None few here there e = record {
      some = grind (arith, nat_tests);
      few = grind (arith, nat_tests);
      parents = here;
      seats = there;
    }
    go true (Some z) s few here there e = absurd (let f : tree_flaw t ≡ Some (NotATree z) = rw (few, here, tree_flaw) refl in cc)
    go true None (Some i) few here there e = absurd (let f : tree_flaw t ≡ Some (NotATree (length t.parents + i)) = rw (few, here, there, tree_flaw) refl in cc)
    go false p s few here there e = absurd (let f : tree_flaw t ≡ Some (TooMany (length t.parents)) = rw (few, tree_flaw) refl in cc)

pub small_tree : (t : TreeShape) → tree_flaw t ≡ None → length t.seats ≤ MOST_SITES → IsSmallTree t
small_tree t none few =
    let fine = no-flaw t none in
    record {
      tree = record {
        down = λ z p is. parent-below t.parents z p is (first_none _ _ z fine.parents (parent-inner t.parents z p is));
        inner = λ z p is. parent-inner t.parents z p is;
        hung = λ z some below. parent-hung t.parents z some (first_none _ _ z fine.parents below);
        seats = λ i. seat-in t i fine.some (λ below. first_none _ _ i fine.seats below);
      };
      some_serializer = fine.some;
      few_serializers = fine.few;
      few_seats = few;
    }

-- ---- the other way round

none-fails : (test : ℕ → Bool) (n : ℕ) → ((k : ℕ) → k < n → test k ≡ true) → first_failing test n ≡ None
none-fails test zero passes = first_start test
none-fails test (suc n) passes = rw (← add-one) (first_more test n (none-fails test n (λ k under. passes k (omega arith))) (passes n (omega arith)))

fits-parent : (t : TreeShape) → IsSmallTree t → (z : ℕ) → z < length t.parents → parent_fits t.parents z ≡ true
unfolding parent_fits
fits-parent t small z within = go (parent_of t.parents z) refl
  where
    go : (o : Option ℕ) → parent_of t.parents z ≡ o → (elim (parent_of t.parents z) [ None ↦ z == 0 | Some p ↦ nat_lt p z ]) ≡ true
    go (Some p) is = rw is (lt-ltb p z (small.tree.down z p is))
    go None is = elim (cases_lt 0 z) [
      | inl some ↦ let hung = small.tree.hung z some within in absurd (let e = hung.1 in cc)
      | inr root ↦ rw is (eq-eqb z 0 (omega arith))
    ]

pub no_flaw : (t : TreeShape) → IsSmallTree t → tree_flaw t ≡ None
unfolding tree_flaw few_serializers seat_fits
no_flaw t small =
    let count = and_from _ _ (lt-ltb _ _ small.some_serializer) (le-leb _ _ small.few_serializers) in
    let parents = none-fails (parent_fits t.parents) (length t.parents) (fits-parent t small) in
    let seats = none-fails (seat_fits t) (length t.seats) (λ i within. lt-ltb _ _ (small.tree.seats i)) in
    rw (count, parents, seats, tree_flaw) refl
