-- Whether all gears pass a test.
use Rattle.std.specs.Prelude.{◌≡◌, ◌⊎◌, ◌<◌, ◌≤◌, ℕ, zero, suc, ◌+◌, ◌&&◌, Bool, true, false, List, [], ◌∷◌, ◌++◌, length, get_or, refl}
use Rattle.std.specs.List.{list_all}
use Rattle.std.proofs.Common.{sym, subst, ap, arith, inl, inr, ◌∙◌}
use Rattle.std.proofs.lemmas.Bool.{and_from, and_left, and_right, cases_lt, le-leb, leb-true, lt-leb}
use Rattle.sat_label.specs.Words.{below}
use Rattle.std.proofs.Math.ListN.{get_or-eq_default}
use Rattle.sat_beat.specs.declared.Beat.{Beat}
use Rattle.sat_beat.specs.Beats.{is_reached, are_reached, is_complete, NoneFell}

all-append : {X : Type 0} (test : X → Bool) (xs ys : List X) → list_all test (xs ++ ys) ≡ (list_all test xs && list_all test ys)
all-append test [] ys = refl
all-append test (x ∷ xs) ys = ap (λ (b : Bool). test x && b) (all-append test xs ys) ∙ assoc (test x) (list_all test xs) (list_all test ys)
  where
    assoc : (a b c : Bool) → (a && (b && c)) ≡ ((a && b) && c)
    assoc true b c = refl
    assoc false b c = refl

-- none of no gears is short
pub none_yet : (test : ℕ → Bool) → list_all test (below 0) ≡ true
none_yet test = refl

-- one gear more
pub one_more : (test : ℕ → Bool) (n : ℕ) → list_all test (below n) ≡ true → test n ≡ true → list_all test (below (n + 1)) ≡ true
one_more test n e k =
    let s : n + 1 ≡ suc n = omega arith in
    subst (λ (m : ℕ). list_all test (below m) ≡ true) (sym s) (all-append test (below n) (n ∷ []) ∙ and_from _ _ e (and_from _ _ k refl))

-- where a gear is short they don't all pass
one_short : (test : ℕ → Bool) (n m : ℕ) → test n ≡ false → n < m → list_all test (below m) ≡ false
one_short test n zero e b = absurd (omega arith)
one_short test n (suc m) e b = all-append test (below m) (m ∷ []) ∙ elim (last n m (omega arith)) [
  | inl w ↦ and_right (list_all test (below m)) (test m && true) (and_left (test m) true (subst (λ (k : ℕ). test k ≡ false) w e))
  | inr w ↦ and_left (list_all test (below m)) (test m && true) (one_short test n m e w)
]
  where
    last : (i k : ℕ) → i ≤ k → (i ≡ k) ⊎ (i < k)
    last i k h = grind arith

-- where the front of a gear is below its count, the counts are not reached
pub reached_short : (counts fronts : List ℕ) (g : ℕ) → g < length counts → get_or fronts g 0 < get_or counts g 0 → are_reached counts fronts ≡ false
reached_short counts fronts g b e = one_short (is_reached counts fronts) g (length counts) (lt-leb _ _ e) b

le-trans : (x y z : ℕ) → x ≤ y → y ≤ z → x ≤ z
le-trans x y z p q = omega arith

all-below : (test : ℕ → Bool) (n g : ℕ) → list_all test (below n) ≡ true → g < n → test g ≡ true
all-below test n g e b = go (test g) refl
  where
    go : (c : Bool) → test g ≡ c → c ≡ true
    go true w = refl
    go false w = sym (one_short test g n w b) ∙ e

-- reached counts are at or below the fronts, at every place
pub reached-up : (counts fronts : List ℕ) (g : ℕ) → are_reached counts fronts ≡ true → get_or counts g 0 ≤ get_or fronts g 0
reached-up counts fronts g e = elim (cases_lt g (length counts)) [
  | inl b ↦ leb-true (get_or counts g 0) (get_or fronts g 0) (all-below (is_reached counts fronts) (length counts) g e b)
  | inr b ↦ let z : get_or counts g 0 ≡ 0 = get_or-eq_default counts 0 b in omega arith
]

all-up : (test : ℕ → Bool) (n : ℕ) → ((g : ℕ) → test g ≡ true) → list_all test (below n) ≡ true
all-up test zero each = refl
all-up test (suc n) each = all-append test (below n) (n ∷ []) ∙ and_from _ _ (all-up test n each) (and_from _ _ (each n) refl)

pub up-reached : (counts fronts : List ℕ) → ((g : ℕ) → get_or counts g 0 ≤ get_or fronts g 0) → are_reached counts fronts ≡ true
up-reached counts fronts each = all-up (is_reached counts fronts) (length counts) (λ g. le-leb (get_or counts g 0) (get_or fronts g 0) (each g))

-- counts that are at or below reached ones are reached
pub reached-trans : (a b c : List ℕ) → are_reached a b ≡ true → are_reached b c ≡ true → are_reached a c ≡ true
reached-trans a b c e f = up-reached a c (λ g. le-trans (get_or a g 0) (get_or b g 0) (get_or c g 0) (reached-up a b g e) (reached-up b c g f))

-- a complete beat stays so, where no front falls
pub stays-complete : (was fronts : List ℕ) (beat : Beat) → NoneFell was fronts → is_complete was beat ≡ true → is_complete fronts beat ≡ true
stays-complete was fronts beat none e = up-reached beat.counts fronts (λ g. le-trans (get_or beat.counts g 0) (get_or was g 0) (get_or fronts g 0) (reached-up beat.counts was g e) (none g))
