-- The best of the turns.
use Rattle.std.proofs.Common.{ℕ, suc, ◌≡◌, ◌<◌, ◌≤◌, ◌+◌, ◌==◌, nat_lt, ◌⊎◌, inl, inr, Bool, true, false, List, [], ◌∷◌, length, get_or, refl, arith, ap, ◌∙◌, sym}
use Rattle.std.proofs.Math.Nat.{eq-or-lt_of_le}
use Rattle.std.proofs.lemmas.Bool.{eqb-true, eqb-false, ltb-true, ltb-false}
use Rattle.sat_plan.specs.declared.terms.Term.{Term}
use Rattle.sat_plan.specs.declared.terms.Choice.{Choice}
use Rattle.sat_plan.specs.Sums.{IsLeast}
use Rattle.sat_plan.specs.Drafts.{terms_cost, turn_of, better}
use Rattle.sat_plan.proofs.Loops.{NoWorse, IsBestOf}
use Rattle.sat_plan.proofs.Legs.{get_or_default}
use Rattle.sat_plan.proofs.Turns.{TurnsAt, least_turn}

-- the better of two is no worse than either
record IsBetter (a b c : Choice) : Type 0 where
  one : (c ≡ a) ⊎ (c ≡ b)
  first : (c.cost < a.cost) ⊎ ((c.cost ≤ a.cost) × (c.delay ≤ a.delay))
  second : (c.cost < b.cost) ⊎ ((c.cost ≤ b.cost) × (c.delay ≤ b.delay))

is_better : (a b : Choice) → IsBetter a b (better a b)
is_better a b = go (nat_lt b.cost a.cost) (b.cost == a.cost) (nat_lt b.delay a.delay) refl refl refl
  where
    go : (x y z : Bool) → nat_lt b.cost a.cost ≡ x → (b.cost == a.cost) ≡ y → nat_lt b.delay a.delay ≡ z → IsBetter a b (better a b)
    go true y z cheaper even lower = rw cheaper (record { one = inr refl; first = inl (ltb-true b.cost a.cost cheaper); second = inr (omega arith, omega arith) })
    go false true true cheaper even lower =
        let e = eqb-true b.cost a.cost even in let l = ltb-true b.delay a.delay lower in
        rw (cheaper, even, lower) (record { one = inr refl; first = inr (omega arith, omega arith); second = inr (omega arith, omega arith) })
    go false true false cheaper even lower =
        let e = eqb-true b.cost a.cost even in let l = ltb-false b.delay a.delay lower in
        rw (cheaper, even, lower) (record { one = inl refl; first = inr (omega arith, omega arith); second = inr (omega arith, omega arith) })
    go false false z cheaper even lower =
        let m = ltb-false b.cost a.cost cheaper in let n = eqb-false b.cost a.cost even in
        rw (cheaper, even) (record { one = inl refl; first = inr (omega arith, omega arith); second = inl (omega arith) })

keeps : (terms : List Term) (a c : Choice) (delay : ℕ) → (c.cost < a.cost) ⊎ ((c.cost ≤ a.cost) × (c.delay ≤ a.delay)) → NoWorse terms a delay → NoWorse terms c delay
keeps terms a c delay (inl less) (inl strict) = inl (omega arith)
keeps terms a c delay (inl less) (inr even) = let m = even.0 in inl (omega arith)
keeps terms a c delay (inr most) (inl strict) = let m = most.0 in inl (omega arith)
keeps terms a c delay (inr most) (inr even) = let m = most.0 in let n = most.1 in let p = even.0 in let q = even.1 in inr (omega arith, omega arith)

pub best_start : (terms : List Term) (cost : ℕ) → cost ≡ terms_cost terms 0 → IsBestOf terms 0 (record { delay = 0; cost = cost })
best_start terms cost is = record {
  costs = is;
  few = omega arith;
  none = inr (omega arith, omega arith);
  turns = λ k t under. absurd (omega arith);
}

pub best_next : (terms : List Term) (n : ℕ) (best other : Choice) → IsBestOf terms n best → other.cost ≡ terms_cost terms other.delay → other.delay ≤ 100000 → ((t : Term) → turn_of (get_or terms n t) ≡ other.delay) → IsBestOf terms (n + 1) (better best other)
best_next terms n best other front costs few turn = record {
  costs = elim joined.one [ inl same ↦ rw same front.costs | inr same ↦ rw same costs ];
  few = elim joined.one [ inl same ↦ rw same front.few | inr same ↦ rw same few ];
  none = keeps terms best (better best other) 0 joined.first front.none;
  turns = λ k t under. by_place k t (eq-or-lt_of_le (let m : k ≤ n = omega arith in m));
}
  where
    joined : IsBetter best other (better best other)
    joined = is_better best other

    own : NoWorse terms other other.delay
    own = inr (omega arith, omega arith)

    by_place : (k : ℕ) (t : Term) → (k ≡ n) ⊎ (k < n) → NoWorse terms (better best other) (turn_of (get_or terms k t))
    by_place k t (inl same) = rw (same, turn t) (keeps terms other (better best other) other.delay joined.second own)
    by_place k t (inr under) = keeps terms best (better best other) (turn_of (get_or terms k t)) joined.first (front.turns k t under)

turn_place : (terms : List Term) (delay : ℕ) → TurnsAt terms delay → (k : ℕ) × (k < length terms) × ((t : Term) → turn_of (get_or terms k t) ≡ delay)
turn_place [] delay never = absurd never
turn_place (x ∷ xs) delay (inl here) = (0, omega arith, λ t. here)
turn_place (x ∷ xs) delay (inr there) = let found = turn_place xs delay there in let within = found.1 in (suc found.0, omega arith, found.2)

pub best_is_least : (terms : List Term) (n : ℕ) (best : Choice) → IsBestOf terms n best → n ≡ length terms → IsLeast (terms_cost terms) best.delay
best_is_least terms n best is whole = least_turn terms best.delay (λ turn which. elim which [
  | inl zero_turn ↦ rw (zero_turn, ← is.costs) is.none
  | inr there ↦ let found = turn_place terms turn there in let within = found.1 in
      rw (← is.costs) (by_turn turn found.0 (omega arith) (found.2))
])
  where
    by_turn : (turn k : ℕ) → k < n → ((t : Term) → turn_of (get_or terms k t) ≡ turn) → NoWorse terms best turn
    by_turn turn k under at = let none : Term = record { weight = 0; rest = 0; optimal = 0; crosses = false } in rw (← at none) (is.turns k none under)

pub best_step : (terms : List Term) (n : ℕ) (best other joined : Choice) (x : Term) → IsBestOf terms n best → n < length terms → other.delay ≡ turn_of (get_or terms n x) → other.cost ≡ terms_cost terms other.delay → other.delay ≤ 100000 → joined ≡ better best other → IsBestOf terms (n + 1) joined
best_step terms n best other joined x front within turn costs few is =
    rw is (best_next terms n best other front costs few (λ t. ap turn_of (get_or_default terms n t x within) ∙ sym turn))
