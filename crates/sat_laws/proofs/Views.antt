-- Views, emission epochs and falls.
use Rattle.std.specs.Prelude.{◌≡◌, ◌≤◌, ℕ, ◌+◌, Bool, true, false, List, [], ◌∷◌, ◌++◌, Some, None, refl, ◌==◌, if◌then◌else◌, length}
use Rattle.std.proofs.Common.{sym, subst, arith, ap, ◌∙◌, length-append}
use Rattle.std.proofs.lemmas.Bool.{eqb-false, eqb-true}
use Rattle.sat_label.specs.declared.label.Label.{Label}
use Rattle.sat_act.specs.declared.act.Act.{Act}
use Rattle.sat_act.specs.declared.act.Act.TheVariants as act
use Rattle.sat_act.specs.declared.answer.Answer.{Answer}
use Rattle.sat_act.specs.declared.answer.Answer.TheVariants as ans
use Rattle.sat_act.specs.declared.entry.Entry.{Entry}
use Rattle.sat_act.specs.Deployed.{Deployed}
use Rattle.sat_act.specs.Histories.{listed}
use Rattle.sat_act.specs.Parts.{sent_entry, view, view_entry, emission, closed_epoch_of_entry, fallen}
use Rattle.sat_act.specs.Answers.{may_advance}
use Rattle.sat_act.specs.Runs.{IsRun}
use Rattle.sat_laws.proofs.Steps.{Step, emitted, pulsed, closed, fell, advanced}
use Rattle.sat_laws.proofs.Runs.{step_of, before_of, entry}

abbrev pub add_if : Bool → ℕ → ℕ
add_if b n = if b then n + 1 else n

pub count-if : (b : Bool) (xs : List ℕ) (y : ℕ) → 1 + length (xs ++ elim (if b then Some y else None) [ None ↦ [] | Some x ↦ x ∷ [] ]) ≡ add_if b (1 + length xs)
count-if true xs y = omega (arith, length-append xs (y ∷ []))
count-if false xs y = omega (arith, length-append xs [])

pub count-none : (xs : List ℕ) → 1 + length (xs ++ []) ≡ 1 + length xs
count-none xs = omega (arith, length-append xs [])

-- what an entry does to a site's view, emission and fall
pub data Turning (d : Deployed) (h : List Entry) (x : Entry) (j : ℕ) : Type 0 where
  stays : view (x ∷ h) j ≡ view h j → emission (x ∷ h) j ≡ emission h j → fallen (x ∷ h) j ≡ fallen h j → Turning d h x j
  closes : view (x ∷ h) j ≡ view h j → emission (x ∷ h) j ≡ emission h j + 1 → fallen (x ∷ h) j ≡ fallen h j → (emission h j ≡ view h j + 1 → ⊥) → Turning d h x j
  falls : view (x ∷ h) j ≡ view h j → emission (x ∷ h) j ≡ emission h j → (emission h j ≡ view h j → ⊥) → Turning d h x j
  advances : view (x ∷ h) j ≡ view h j + 1 → emission (x ∷ h) j ≡ emission h j → fallen (x ∷ h) j ≡ false → (emission h j ≡ view h j → ⊥) → x.act ≡ act.Advance j → may_advance d h j ≡ true → Turning d h x j

flag-if : (b y z : Bool) → elim (if b then Some y else None) [ None ↦ z | Some w ↦ w ] ≡ (if b then y else z)
flag-if true y z = refl
flag-if false y z = refl

abbrev pick_flag : Bool → Bool → Bool → Bool
pick_flag b y z = if b then y else z

close-turn : (d : Deployed) (h : List Entry) (x : Entry) (j k : ℕ) (b : Bool) → (k == j) ≡ b → view (x ∷ h) j ≡ view h j → emission (x ∷ h) j ≡ add_if b (emission h j) → fallen (x ∷ h) j ≡ fallen h j → (emission h k == view h k + 1) ≡ false → Turning d h x j
close-turn d h x j k true e v m f q = closes v m f (subst (λ (i : ℕ). emission h i ≡ view h i + 1 → ⊥) (eqb-true k j e) (eqb-false (emission h k) (view h k + 1) q))
close-turn d h x j k false e v m f q = stays v m f

fall-turn : (d : Deployed) (h : List Entry) (x : Entry) (j k : ℕ) (b : Bool) → (k == j) ≡ b → view (x ∷ h) j ≡ view h j → emission (x ∷ h) j ≡ emission h j → fallen (x ∷ h) j ≡ pick_flag b true (fallen h j) → (emission h k == view h k) ≡ false → Turning d h x j
fall-turn d h x j k true e v m f q = falls v m (subst (λ (i : ℕ). emission h i ≡ view h i → ⊥) (eqb-true k j e) (eqb-false (emission h k) (view h k) q))
fall-turn d h x j k false e v m f q = stays v m f

advance-turn : (d : Deployed) (h : List Entry) (x : Entry) (j k : ℕ) (b : Bool) → (k == j) ≡ b → view (x ∷ h) j ≡ add_if b (view h j) → emission (x ∷ h) j ≡ emission h j → fallen (x ∷ h) j ≡ pick_flag b false (fallen h j) → (emission h k == view h k) ≡ false → x.act ≡ act.Advance k → may_advance d h k ≡ true → Turning d h x j
advance-turn d h x j k true e v m f q a w = advances v m f (subst (λ (i : ℕ). emission h i ≡ view h i → ⊥) (eqb-true k j e) (eqb-false (emission h k) (view h k) q)) (a ∙ ap (λ (i : ℕ). act.Advance i) (eqb-true k j e)) (subst (λ (i : ℕ). may_advance d h i ≡ true) (eqb-true k j e) w)
advance-turn d h x j k false e v m f q a w = stays v m f

turning : (d : Deployed) (h : List Entry) (j : ℕ) (a : Act) (r : Answer) (n : Bool) → Step d h a r → Turning d h (entry a r n) j
unfolding view emission fallen
turning d h j a r n (closed {i = k} p q) =
    close-turn d h (entry a r n) j k (k == j) refl (count-none (listed (view_entry j) h)) (count-if (k == j) (listed (closed_epoch_of_entry j) h) (emission h k)) refl q
turning d h j a r n (fell {j = k} p q) =
    fall-turn d h (entry a r n) j k (k == j) refl (count-none (listed (view_entry j) h)) (count-none (listed (closed_epoch_of_entry j) h)) (flag-if (k == j) true (fallen h j)) q
turning d h j a r n (advanced {j = k} p q) =
    advance-turn d h (entry a r n) j k (k == j) refl (count-if (k == j) (listed (view_entry j) h) (view h k + 1)) (count-none (listed (closed_epoch_of_entry j) h)) (flag-if (k == j) false (fallen h j)) p refl q
turning d h j a r n _ = stays (count-none (listed (view_entry j) h)) (count-none (listed (closed_epoch_of_entry j) h)) refl

pub turning-of : (d : Deployed) (h : List Entry) (x : Entry) (j : ℕ) → IsRun d (x ∷ h) → Turning d h x j
turning-of d h x j run = turning d h j x.act x.answer x.inner (step_of d h x run)

-- a site's emission is its view's epoch or the next, and the next where it has fallen
pub record IsAbreast (h : List Entry) (j : ℕ) : Type 0 where
  pub low : view h j ≤ emission h j
  pub high : emission h j ≤ view h j + 1
  pub fell : fallen h j ≡ true → emission h j ≡ view h j + 1

abreast-start : (j : ℕ) → IsAbreast [] j
unfolding view emission fallen
abreast-start j = record { low = omega arith; high = omega arith; fell = λ e. absurd (cc) }

abreast-step : (d : Deployed) (h : List Entry) (x : Entry) (j : ℕ) → Turning d h x j → IsAbreast h j → IsAbreast (x ∷ h) j
abreast-step d h x j (stays v m f) k =
    let lo : view h j ≤ emission h j = k.low in
    let hi : emission h j ≤ view h j + 1 = k.high in
    record { low = omega arith; high = omega arith; fell = λ e. m ∙ k.fell (sym f ∙ e) ∙ ap (λ (n : ℕ). n + 1) (sym v) }
abreast-step d h x j (closes v m f q) k =
    let lo : view h j ≤ emission h j = k.low in
    let hi : emission h j ≤ view h j + 1 = k.high in
    let eq : emission h j ≡ view h j = grind arith in
    record { low = omega arith; high = omega arith; fell = λ e. omega arith }
abreast-step d h x j (falls v m q) k =
    let lo : view h j ≤ emission h j = k.low in
    let hi : emission h j ≤ view h j + 1 = k.high in
    let eq : emission h j ≡ view h j + 1 = grind arith in
    record { low = omega arith; high = omega arith; fell = λ e. omega arith }
abreast-step d h x j (advances v m f q a _) k =
    let lo : view h j ≤ emission h j = k.low in
    let hi : emission h j ≤ view h j + 1 = k.high in
    let eq : emission h j ≡ view h j + 1 = grind arith in
    record { low = omega arith; high = omega arith; fell = λ e. absurd (cc) }

pub abreast : (d : Deployed) (h : List Entry) (j : ℕ) → IsRun d h → IsAbreast h j
abreast d [] j run = abreast-start j
abreast d (x ∷ h) j run = abreast-step d h x j (turning-of d h x j run) (abreast d h j (before_of d h x run))

view-step : (d : Deployed) (h : List Entry) (x : Entry) (j : ℕ) → Turning d h x j → view h j ≤ view (x ∷ h) j
view-step d h x j (stays v m f) = omega arith
view-step d h x j (closes v m f q) = omega arith
view-step d h x j (falls v m q) = omega arith
view-step d h x j (advances v m f q a _) = omega arith

pub view-rises : (d : Deployed) (h : List Entry) (x : Entry) (j : ℕ) → IsRun d (x ∷ h) → view h j ≤ view (x ∷ h) j
view-rises d h x j run = view-step d h x j (turning-of d h x j run)

pub advance-view : (h : List Entry) (k j w : ℕ) (n : Bool) → (k == j) ≡ true → view (entry (act.Advance k) (ans.View w) n ∷ h) j ≡ view h j + 1
unfolding view
advance-view h k j w n e = count-if (k == j) (listed (view_entry j) h) w ∙ ap (λ (b : Bool). add_if b (1 + length (listed (view_entry j) h))) e

-- an entry that sends a label turns no view
pub sends-view : (d : Deployed) (h : List Entry) (i j : ℕ) (l : Label) (a : Act) (r : Answer) (n : Bool) → Step d h a r → sent_entry i h (entry a r n) ≡ Some l → view (entry a r n ∷ h) j ≡ view h j
unfolding view
sends-view d h i j l a r n (emitted q) e = count-none (listed (view_entry j) h)
sends-view d h i j l a r n (pulsed q p) e = count-none (listed (view_entry j) h)
sends-view d h i j l a r n (closed q p) e = count-none (listed (view_entry j) h)
sends-view d h i j l a r n _ e = absurd (cc)
