-- The least of labels that rise, and of some numbers.
use Rattle.std.specs.Prelude.{◌≡◌, ◌<◌, ◌≤◌, ℕ, zero, suc, Bool, true, false, List, [], ◌∷◌, length, get_or, Some, None, nat_le, min, fold, if◌then◌else◌, refl}
use Rattle.std.proofs.Common.{arith, ap, ◌∙◌, inl, inr}
use Rattle.std.proofs.lemmas.Bool.Decides.{nat_tests}
use Rattle.sat_label.specs.declared.label.Label.{Label}
use Rattle.sat_label.specs.Order.{label_lt}
use Rattle.sat_label.specs.Members.{In}
use Rattle.sat_bulk.specs.Drains.{Rises}
use Rattle.sat_label.proofs.Least.{lesser-assoc, least-none}
use Rattle.sat_sink.specs.Pending.{is_up_to, least}
use Rattle.sat_label.specs.Least.{least_label, lesser}
use Rattle.sat_label.proofs.Orders.{labels-lt, lt-ts}

-- ---- the front of a list that rises

-- one that is below all others is the lesser
least-behind : (p : Label → Bool) (x : Label) (ls : List Label) → ((m : Label) → In ls m → label_lt x m ≡ true) → lesser (Some x) (least_label p ls) ≡ Some x
unfolding least_label
least-behind p x [] f = refl
least-behind p x (l ∷ ls) f = go (p l) (least-behind p x ls (λ m i. f m (inr i)))
  where
    go : (b : Bool) → lesser (Some x) (least_label p ls) ≡ Some x → lesser (Some x) (if b then lesser (Some l) (least_label p ls) else least_label p ls) ≡ Some x
    go true e = lesser-assoc (Some x) (Some l) (least_label p ls) ∙ (ap (λ (b : Bool). lesser (if b then Some x else Some l) (least_label p ls)) (f l (inl refl)) ∙ e)
    go false e = e

later : (t : ℕ) (l m : Label) → nat_le l.point.ts t ≡ false → l.point.ts ≤ m.point.ts → nat_le m.point.ts t ≡ false
later t l m e h = grind (arith, nat_tests)

-- of a list that rises the front is the least, if it passes
pub least-front : (t : ℕ) (l : Label) (ls : List Label) → Rises (l ∷ ls) → least_label (is_up_to t) (l ∷ ls) ≡ (if nat_le l.point.ts t then Some l else None)
unfolding least_label
least-front t l ls r = go (nat_le l.point.ts t) refl
  where
    go : (b : Bool) → nat_le l.point.ts t ≡ b → (if b then lesser (Some l) (least_label (is_up_to t) ls) else least_label (is_up_to t) ls) ≡ (if b then Some l else None)
    go true e = least-behind (is_up_to t) l ls (λ m i. labels-lt l m (r.0 m i))
    go false e = least-none (is_up_to t) ls (λ m i. later t l m e (lt-ts l.point m.point (r.0 m i)))

-- ---- the least of numbers

fold-below : (a : ℕ) (ps : List ℕ) → fold min a ps ≤ a
fold-below a [] = omega arith
fold-below a (p ∷ ps) = let k : fold min (min a p) ps ≤ min a p = fold-below (min a p) ps in omega arith

fold-each : (a : ℕ) (ps : List ℕ) (g : ℕ) → g < length ps → fold min a ps ≤ get_or ps g 0
fold-each a [] g h = absurd (omega arith)
fold-each a (p ∷ ps) zero h = let k : fold min (min a p) ps ≤ min a p = fold-below (min a p) ps in omega arith
fold-each a (p ∷ ps) (suc g) h = fold-each (min a p) ps g (omega arith)

-- no number is below the least
pub least-each : (ps : List ℕ) (g : ℕ) → g < length ps → least ps ≤ get_or ps g 0
least-each [] g h = absurd (omega arith)
least-each (p ∷ ps) zero h = fold-below p ps
least-each (p ∷ ps) (suc g) h = fold-each p ps g (omega arith)

fold-above : (n a : ℕ) (ps : List ℕ) → n ≤ a → ((g : ℕ) → g < length ps → n ≤ get_or ps g 0) → n ≤ fold min a ps
fold-above n a [] h f = h
fold-above n a (p ∷ ps) h f =
    let k : n ≤ p = f 0 (omega arith) in
    fold-above n (min a p) ps (omega arith) (λ g w. f (suc g) (omega arith))

-- a number up to each is up to the least
pub least-above : (n : ℕ) (ps : List ℕ) → 0 < length ps → ((g : ℕ) → g < length ps → n ≤ get_or ps g 0) → n ≤ least ps
least-above n [] h f = absurd (omega arith)
least-above n (p ∷ ps) h f = fold-above n p ps (f 0 (omega arith)) (λ g w. f (suc g) (omega arith))
