-- Promises only rise, each label is above its gear's promise, and above what its maker carried.
use Rattle.std.specs.Prelude.{◌≡◌, ◌⊎◌, ◌<◌, ◌≤◌, ℕ, zero, suc, ◌+◌, ◌%◌, Bool, true, false, ◌&&◌, List, ◌∷◌, Some, None, refl, ◌==◌, max, if◌then◌else◌}
use Rattle.std.proofs.Common.{arith, inl, inr}
use Rattle.std.proofs.lemmas.Bool.Decides.{nat_tests}
use Rattle.sat_act.specs.declared.act.Act.{Act}
use Rattle.sat_act.specs.declared.answer.Answer.{Answer}
use Rattle.sat_act.specs.declared.entry.Entry.{Entry}
use Rattle.sat_act.specs.Deployed.{Deployed}
use Rattle.sat_act.specs.Parts.{promise, carried}
use Rattle.sat_act.specs.Answers.{greatest_promise, base}
use Rattle.sat_act.specs.Runs.{IsRun}
use Rattle.sat_label.specs.Grouped.{least_item, list_of}
use Rattle.sat_laws.proofs.Steps.{Step, ticked, clocked, wrote, moved}
use Rattle.sat_laws.proofs.Runs.{step_of, entry}

pub split_le : (i m : ℕ) → i ≤ m → (i ≡ m) ⊎ (i < m)
split_le i m h = grind arith

max_case : (P : ℕ → ℕ → ℕ) (m n i g A B : ℕ) → i ≤ m → g ≤ n → (g < n → P i g ≤ A) → (i < m → P i g ≤ B) → P i g ≤ max (max (P m n) A) B
max_case P m n i g A B a b p q =
    elim (split_le i m a) [
      | inl e ↦ elim (split_le g n b) [
        | inl k ↦ let w : P i g ≡ P m n = cc in omega arith
        | inr k ↦ let w : P i g ≤ A = p k in omega arith
      ]
      | inr k ↦ let w : P i g ≤ B = q k in omega arith
    ]

le_one : {x y : ℕ} → x ≤ y → x ≤ y + 1
le_one h = omega arith

-- the greatest promise is above each
pub greatest_promise-above : (h : List Entry) (m n i g : ℕ) → i < m → g < n → promise h i g ≤ greatest_promise h m n
unfolding greatest_promise
greatest_promise-above h zero n i g a b = absurd (omega arith)
greatest_promise-above h (suc m) zero i g a b = absurd (omega arith)
greatest_promise-above h (suc m) (suc n) i g a b =
    max_case (promise h) m n i g (greatest_promise h (suc m) n) (greatest_promise h m (suc n)) (omega arith) (omega arith)
    (λ k. greatest_promise-above h (suc m) n i g a k) (λ k. greatest_promise-above h m (suc n) i g k b)

rises : (b : Bool) (x y : ℕ) → (b ≡ true → y ≤ x) → y ≤ elim (if b then Some x else None) [ None ↦ y | Some z ↦ z ]
rises true x y f = f refl
rises false x y f = omega arith

pub both_equal : (s k i g : ℕ) → ((s == i) && (k == g)) ≡ true → (s ≡ i) × (k ≡ g)
both_equal s k i g e = grind (arith, nat_tests)

same_gear : (F : ℕ → ℕ → ℕ) (s k i g : ℕ) → ((s == i) && (k == g)) ≡ true → F i g ≡ F s k
same_gear F s k i g e = let p : (s ≡ i) × (k ≡ g) = both_equal s k i g e in cc

below_stamp : (F : ℕ → ℕ → ℕ) (s k i g t : ℕ) → ((s == i) && (k == g)) ≡ true → F i g ≤ max (F s k) t
below_stamp F s k i g t e = let w : F i g ≡ F s k = same_gear F s k i g e in omega arith

-- a promise doesn't fall
promise-step : (d : Deployed) (h : List Entry) (i g : ℕ) (a : Act) (r : Answer) (n : Bool) → i < d.sites → g < d.gears →
    Step d h a r → promise h i g ≤ promise (entry a r n ∷ h) i g
unfolding promise base
promise-step d h i g a r n x y (ticked {i = s} {g = k} {t = t}) = rises _ _ _ (below_stamp (promise h) s k i g t)
promise-step d h i g a r n x y clocked = greatest_promise-above h d.sites d.gears i g x y
promise-step d h i g a r n x y (wrote {w = w} {i = s} z p q b) =
    rises _ _ _ (λ e. le_one (below_stamp (promise h) s (least_item (list_of w.items) % d.gears) i g (carried h w.client).ts e))
promise-step d h i g a r n x y (moved {c = c} {i = s} p q b) = rises _ _ _ (λ e. le_one (below_stamp (promise h) s 0 i g (carried h c).ts e))
promise-step d h i g a r n x y _ = omega arith

pub promise-rises : (d : Deployed) (h : List Entry) (e : Entry) (i g : ℕ) → i < d.sites → g < d.gears → IsRun d (e ∷ h) → promise h i g ≤ promise (e ∷ h) i g
promise-rises d h e i g x y run = promise-step d h i g e.act e.answer e.inner x y (step_of d h e run)
