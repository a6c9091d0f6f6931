-- The points up to which sites are known, one site after another.
use Rattle.std.specs.Prelude.{ℕ, zero, suc, ◌≡◌, ◌⊎◌, ◌<◌, ◌+◌, Bool, true, false, nat_lt, List, [], ◌∷◌, ◌++◌, length, map, get_or, set, Option, if◌then◌else◌, refl}
use Rattle.std.proofs.Common.{arith, ap, sym, ◌∙◌, subst, inl, inr}
use Rattle.std.proofs.lemmas.List.{get_or-map, get_or-set_same, get_or-set_other, get_or_default, length-map, length-set, length-append, map-append, same_lists, get_or_append_left, get_or_push}
use Rattle.std.proofs.lemmas.Bool.{cases_eq, lt-ltb}
use Rattle.std.proofs.lemmas.Bool.Decides.{nat_tests}
use Rattle.std.proofs.Math.Nat.{eq-or-lt_of_le}
use Rattle.sat_label.specs.declared.point.Point.{Point}
use Rattle.sat_label.specs.Words.{below}
use Rattle.sat_model.specs.Next.{raised}
use Rattle.sat_proxy.specs.Proxy.{first_point}
use Rattle.sat_proxy.specs.Helps.{known_to, raised_first, raised_to}

one : (n : ℕ) → n + 1 ≡ suc n
one n = omega arith

pub below_more : {X : Type 0} (f : ℕ → X) (n : ℕ) → map f (below n) ++ f n ∷ [] ≡ map f (below (n + 1))
below_more f n = sym (ap (λ (m : ℕ). map f (below m)) (one n) ∙ map-append f (below n) (n ∷ []))

pub length-below : (n : ℕ) → length (below n) ≡ n
length-below zero = refl
length-below (suc n) = length-append (below n) (n ∷ []) ∙ (let e : length (below n) ≡ n = length-below n in omega arith)

pub get-below : (n k : ℕ) → k < n → get_or (below n) k 0 ≡ k
get-below zero k lt = absurd (omega arith)
get-below (suc n) k lt = elim (eq-or-lt_of_le (omega arith)) [
  | inl same ↦ get_or_push (below n) n 0 k (let e : length (below n) ≡ n = length-below n in omega arith) ∙ (let s : k ≡ n = same in sym s)
  | inr less ↦ get_or_append_left (below n) (n ∷ []) 0 k (let e : length (below n) ≡ n = length-below n in let s : k < n = less in omega arith) ∙ get-below n k less
]

-- what a list of all numbers has at a place
pub get-map-below : {X : Type 0} (f : ℕ → X) (n k : ℕ) (d : X) → k < n → get_or (map f (below n)) k d ≡ f k
get-map-below f n k d lt = get_or-map f (below n) k 0 d (let e : length (below n) ≡ n = length-below n in omega arith) ∙ ap f (get-below n k lt)

pub length-map-below : {X : Type 0} (f : ℕ → X) (n : ℕ) → length (map f (below n)) ≡ n
length-map-below f n = length-map (below n) f ∙ length-below n

-- a list is the list of what it has
pub is-map-below : {X : Type 0} (f : ℕ → X) (xs : List X) (n : ℕ) → length xs ≡ n → ((k : ℕ) (d : X) → k < n → get_or xs k d ≡ f k) → xs ≡ map f (below n)
is-map-below f xs n len at = same_lists xs (map f (below n)) (len ∙ sym (length-map-below f n)) (λ k d lt. let low : k < n = subst (λ (m : ℕ). k < m) len lt in at k d low ∙ sym (get-map-below f n k d low))

not-below-zero : (k : ℕ) → nat_lt k 0 ≡ false
not-below-zero k = grind (arith, nat_tests)

-- before the first site
pub raised_start : (last : List Point) (cut : ℕ → Option Point) (n : ℕ) → n ≡ length last → last ≡ map (raised_first last cut 0) (below n)
raised_start last cut n e = is-map-below (raised_first last cut 0) last n (sym e) (λ k d lt. get_or_default last k d (first_point k) (subst (λ (m : ℕ). k < m) e lt) ∙ sym (ap (λ (b : Bool). if b then raised_to last cut k else known_to last k) (not-below-zero k)))

next-below : (k n : ℕ) → (k ≡ n → ⊥) → nat_lt k n ≡ nat_lt k (n + 1)
next-below k n f = go (nat_lt k n) refl (nat_lt k (n + 1)) refl
  where
    go : (b : Bool) → nat_lt k n ≡ b → (c : Bool) → nat_lt k (n + 1) ≡ c → b ≡ c
    go true e true g = refl
    go false e false g = refl
    go true e false g = absurd (no-one k n e g)
      where
        no-one : (k n : ℕ) → nat_lt k n ≡ true → nat_lt k (n + 1) ≡ false → ⊥
        no-one k n e g = grind (arith, nat_tests)
    go false e true g = absurd (f (only k n e g))
      where
        only : (k n : ℕ) → nat_lt k n ≡ false → nat_lt k (n + 1) ≡ true → k ≡ n
        only k n e g = grind (arith, nat_tests)

here-not : (n : ℕ) → nat_lt n n ≡ false
here-not n = grind (arith, nat_tests)

here-next : (n : ℕ) → nat_lt n (n + 1) ≡ true
here-next n = grind (arith, nat_tests)

-- one site more
pub raised_more : (last : List Point) (cut : ℕ → Option Point) (n m : ℕ) → n < m → set (map (raised_first last cut n) (below m)) n (raised (known_to last n) (cut n)) ≡ map (raised_first last cut (n + 1)) (below m)
raised_more last cut n m lt =
    is-map-below (raised_first last cut (n + 1)) (set old n new) m (length-set old n new ∙ length-map-below (raised_first last cut n) m) (λ k d low. go k d low (cases_eq k n))
  where
    old : List Point
    old = map (raised_first last cut n) (below m)

    new : Point
    new = raised (known_to last n) (cut n)

    go : (k : ℕ) (d : Point) → k < m → (k ≡ n) ⊎ (k ≡ n → ⊥) → get_or (set old n new) k d ≡ raised_first last cut (n + 1) k
    go k d low (inl e) =
        subst (λ (j : ℕ). get_or (set old n new) j d ≡ raised_first last cut (n + 1) j) (sym e)
        (get_or-set_same old n new d (subst (λ (j : ℕ). n < j) (sym (length-map-below (raised_first last cut n) m)) lt) ∙ sym (ap (λ (b : Bool). if b then raised_to last cut n else known_to last n) (here-next n)))
    go k d low (inr f) =
        get_or-set_other old n k new d f ∙ (get-map-below (raised_first last cut n) m k d low ∙ ap (λ (b : Bool). if b then raised_to last cut k else known_to last k) (next-below k n f))

-- what stands at the next site is what stood there
pub raised_here : (last : List Point) (cut : ℕ → Option Point) (n m : ℕ) (d : Point) → n < m → get_or (map (raised_first last cut n) (below m)) n d ≡ known_to last n
raised_here last cut n m d lt = get-map-below (raised_first last cut n) m n d lt ∙ ap (λ (b : Bool). if b then raised_to last cut n else known_to last n) (here-not n)

-- all sites
pub raised_all : (last : List Point) (cut : ℕ → Option Point) (m : ℕ) → map (raised_first last cut m) (below m) ≡ map (raised_to last cut) (below m)
raised_all last cut m = is-map-below (raised_to last cut) (map (raised_first last cut m) (below m)) m (length-map-below (raised_first last cut m) m) (λ k d lt. get-map-below (raised_first last cut m) m k d lt ∙ ap (λ (b : Bool). if b then raised_to last cut k else known_to last k) (lt-ltb k m lt))

pub raised_next : (old last : List Point) (cut : ℕ → Option Point) (n m : ℕ) → last ≡ map (raised_first old cut n) (below m) → n < m → set last n (raised (known_to last n) (cut n)) ≡ map (raised_first old cut (n + 1)) (below m)
raised_next old last cut n m e lt =
    let here : known_to last n ≡ known_to old n = ap (λ (xs : List Point). get_or xs n (first_point n)) e ∙ raised_here old cut n m (first_point n) lt in
    ap (λ (xs : List Point). set xs n (raised (known_to last n) (cut n))) e ∙ (ap (λ (p : Point). set (map (raised_first old cut n) (below m)) n (raised p (cut n))) here ∙ raised_more old cut n m lt)
