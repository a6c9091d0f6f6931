-- The least delay of an edge: the mismatch is linear between the delays at which some pair's latency is the best one, so the least of
-- these and 0 is the least of all whole numbers.
use Rattle.std.proofs.Common.{ℕ, zero, suc, ◌≡◌, ◌<◌, ◌≤◌, ◌+◌, ◌-◌, ◌*◌, ◌==◌, ◌⊎◌, inl, inr, Bool, true, false, List, [], ◌∷◌, if◌then◌else◌, refl, arith, ap}
use Rattle.std.proofs.Math.Nat.{mul-add}
use Rattle.std.proofs.lemmas.Bool.Decides.{nat_tests}
use Rattle.std.proofs.lemmas.Bool.{cases_lt}
use Rattle.std.proofs.lemmas.List.Sums.{sum_by-cons}
use Rattle.sat_plan.specs.Sums.{gap, IsLeast}
use Rattle.sat_plan.specs.declared.terms.Term.{Term}
use Rattle.sat_plan.specs.Drafts.{term_cost, terms_cost, turn_of}

-- away from its turn a distance is linear
straight : (a o d : ℕ) → (o - a ≡ suc d → ⊥) → gap (a + d) o + gap (a + suc (suc d)) o ≡ 2 * gap (a + suc d) o
straight a o d apart = omega arith

weighed : (w x y z : ℕ) → x + z ≡ 2 * y → w * x + w * z ≡ 2 * (w * y)
weighed w x y z e =
    let twice : x + z ≡ y + y = omega arith in
    omega (arith, mul-add w x z, mul-add w y y, ap (λ n. w * n) twice)

term_straight : (t : Term) (d : ℕ) → (turn_of t ≡ suc d → ⊥) → term_cost d t + term_cost (suc (suc d)) t ≡ 2 * term_cost (suc d) t
unfolding term_cost
term_straight t d apart = go t.crosses refl apart
  where
    go : (b : Bool) → t.crosses ≡ b → ((if t.crosses then t.optimal - t.rest else 0) ≡ suc d → ⊥) → t.weight * gap (t.rest + (if t.crosses then d else 0)) t.optimal + t.weight * gap (t.rest + (if t.crosses then suc (suc d) else 0)) t.optimal ≡ 2 * (t.weight * gap (t.rest + (if t.crosses then suc d else 0)) t.optimal)
    go true is other = rw is (weighed t.weight _ _ _ (straight t.rest t.optimal d (rw is at other)))
    go false is other = rw is (omega arith)

-- one of the terms turns at a delay
abbrev pub TurnsAt : List Term → ℕ → Type 0
TurnsAt [] d = ⊥
TurnsAt (t ∷ ts) d = (turn_of t ≡ d) ⊎ TurnsAt ts d

turns : (terms : List Term) (d : ℕ) → TurnsAt terms d ⊎ (TurnsAt terms d → ⊥)
turns [] d = inr (λ never. never)
turns (t ∷ ts) d = go (turn_of t == d) refl (turns ts d)
  where
    go : (b : Bool) → (turn_of t == d) ≡ b → TurnsAt ts d ⊎ (TurnsAt ts d → ⊥) → TurnsAt (t ∷ ts) d ⊎ (TurnsAt (t ∷ ts) d → ⊥)
    go true is rest = inl (inl (grind (arith, nat_tests)))
    go false is (inl there) = inl (inr there)
    go false is (inr nowhere) = inr (λ somewhere. elim somewhere [ inl here ↦ absurd (grind (arith, nat_tests)) | inr there ↦ nowhere there ])

cost-cons : (t : Term) (ts : List Term) (d : ℕ) → terms_cost (t ∷ ts) d ≡ term_cost d t + terms_cost ts d
unfolding terms_cost
cost-cons t ts d = sum_by-cons (term_cost d) t ts

terms_straight : (terms : List Term) (d : ℕ) → (TurnsAt terms (suc d) → ⊥) → terms_cost terms d + terms_cost terms (suc (suc d)) ≡ 2 * terms_cost terms (suc d)
unfolding terms_cost
terms_straight [] d nowhere = refl
terms_straight (t ∷ ts) d nowhere =
    omega (arith, cost-cons t ts d, cost-cons t ts (suc d), cost-cons t ts (suc (suc d)), term_straight t d (λ here. nowhere (inl here)), terms_straight ts d (λ there. nowhere (inr there)))

-- a turn, or 0, that is no worse than a delay
record HasBetterTurn (terms : List Term) (d : ℕ) : Type 0 where
  turn : ℕ
  turns : (turn ≡ 0) ⊎ TurnsAt terms turn
  better : (terms_cost terms turn < terms_cost terms d) ⊎ ((terms_cost terms turn ≤ terms_cost terms d) × (turn ≤ d))

itself : (terms : List Term) (d : ℕ) → (d ≡ 0) ⊎ TurnsAt terms d → HasBetterTurn terms d
itself terms d is = record { turn = d; turns = is; better = inr (omega arith, omega arith) }

lower : (terms : List Term) (d e : ℕ) → terms_cost terms e < terms_cost terms d → HasBetterTurn terms e → HasBetterTurn terms d
lower terms d e less found = record {
  turn = found.turn;
  turns = found.turns;
  better = elim found.better [ inl strict ↦ inl (omega arith) | inr even ↦ inl (let most = even.0 in omega arith) ];
}

before : (terms : List Term) (d e : ℕ) → terms_cost terms e ≤ terms_cost terms d → e ≤ d → HasBetterTurn terms e → HasBetterTurn terms d
before terms d e most below found = record {
  turn = found.turn;
  turns = found.turns;
  better = elim found.better [ inl strict ↦ inl (omega arith) | inr even ↦ inr (let a = even.0 in omega arith, let b = even.1 in omega arith) ];
}

-- by induction on the cost, and then on the delay
by_delay : (most : ℕ) (terms : List Term) → ((e : ℕ) → terms_cost terms e < most → HasBetterTurn terms e) → (d : ℕ) → terms_cost terms d ≤ most → HasBetterTurn terms d
by_delay most terms cheaper zero within = itself terms zero (inl refl)
by_delay most terms cheaper (suc d) within = go (turns terms (suc d)) (cases_lt (terms_cost terms (suc d)) (terms_cost terms d)) (λ fits. by_delay most terms cheaper d fits)
  where
    go : TurnsAt terms (suc d) ⊎ (TurnsAt terms (suc d) → ⊥) → (terms_cost terms (suc d) < terms_cost terms d) ⊎ (terms_cost terms d ≤ terms_cost terms (suc d)) → (terms_cost terms d ≤ most → HasBetterTurn terms d) → HasBetterTurn terms (suc d)
    go (inl here) falls earlier = itself terms (suc d) (inr here)
    go (inr nowhere) (inr rises) earlier = before terms (suc d) d rises (omega arith) (earlier (omega arith))
    go (inr nowhere) (inl falls) earlier =
        let flat = terms_straight terms d nowhere in
        let less : terms_cost terms (suc (suc d)) < terms_cost terms (suc d) = omega arith in
        lower terms (suc d) (suc (suc d)) less (cheaper (suc (suc d)) (omega arith))

by_cost : (most : ℕ) (terms : List Term) (d : ℕ) → terms_cost terms d ≤ most → HasBetterTurn terms d
by_cost zero terms d within = by_delay zero terms (λ e none. absurd (omega arith)) d within
by_cost (suc most) terms d within = by_delay (suc most) terms (λ e less. by_cost most terms e (omega arith)) d within

-- where a delay is no worse than 0 and than each turn, it is no worse than any other
pub least_turn : (terms : List Term) (best : ℕ) → ((turn : ℕ) → (turn ≡ 0) ⊎ TurnsAt terms turn → (terms_cost terms best < terms_cost terms turn) ⊎ ((terms_cost terms best ≤ terms_cost terms turn) × (best ≤ turn))) → IsLeast (terms_cost terms) best
least_turn terms best known = record {
  best = λ d. (compared d).0;
  lowest = λ d below. (compared d).1 below;
}
  where
    join : (d : ℕ) (found : HasBetterTurn terms d) → (terms_cost terms best < terms_cost terms found.turn) ⊎ ((terms_cost terms best ≤ terms_cost terms found.turn) × (best ≤ found.turn)) → (terms_cost terms best ≤ terms_cost terms d) × (d < best → terms_cost terms best < terms_cost terms d)
    join d found than = elim found.better [
      | inl strict ↦ elim than [ inl a ↦ (omega arith, λ below. omega arith) | inr a ↦ let m = a.0 in (omega arith, λ below. omega arith) ]
      | inr even ↦ let n = even.0 in let under = even.1 in elim than [ inl a ↦ (omega arith, λ below. omega arith) | inr a ↦ let m = a.0 in let l = a.1 in (omega arith, λ below. omega arith) ]
    ]

    compared : (d : ℕ) → (terms_cost terms best ≤ terms_cost terms d) × (d < best → terms_cost terms best < terms_cost terms d)
    compared d = let found : HasBetterTurn terms d = by_cost (terms_cost terms d) terms d (omega arith) in join d found (known found.turn found.turns)

-- some turn, or 0, is no worse than a delay
pub better_turn : (terms : List Term) (d : ℕ) → (turn : ℕ) × ((turn ≡ 0) ⊎ TurnsAt terms turn) × (terms_cost terms turn ≤ terms_cost terms d)
better_turn terms d =
    let found : HasBetterTurn terms d = by_cost (terms_cost terms d) terms d (omega arith) in
    (found.turn, found.turns, elim found.better [ inl strict ↦ omega arith | inr even ↦ even.0 ])
