-- Sums and counts over lists.
use Rattle.std.specs.Prelude.{◌≡◌, ◌⊎◌, ◌<◌, ◌≤◌, ℕ, zero, suc, ◌*◌, Bool, true, false, List, [], ◌∷◌, ◌++◌, length, filter, refl, cond}
use Rattle.std.proofs.Common.{sym, subst, arith, inl, inr, ap, ◌∙◌}
use Rattle.std.proofs.Math.Nat.{mul-suc}
use Rattle.sat_label.specs.Words.{below}
use Rattle.sat_act.specs.Settling.{total, joined}
use Rattle.sat_label.specs.Members.{In}
use Rattle.sat_label.proofs.Members.{In-parts, In-left, In-right}

pub total-le : {X : Type 0} (f g : X → ℕ) (xs : List X) → ((x : X) → In xs x → f x ≤ g x) → total f xs ≤ total g xs
unfolding total
total-le f g [] w = omega arith
total-le f g (x ∷ xs) w =
    let a : f x ≤ g x = w x (inl refl) in
    let b : total f xs ≤ total g xs = total-le f g xs (λ y i. w y (inr i)) in
    omega arith

pub total-lt : {X : Type 0} (f g : X → ℕ) (xs : List X) (y : X) → ((x : X) → In xs x → f x ≤ g x) → In xs y → f y < g y → total f xs < total g xs
unfolding total
total-lt f g [] y w i lt = absurd i
total-lt f g (x ∷ xs) y w (inl e) lt =
    let a : f x < g x = subst (λ (z : _). f z < g z) (sym e) lt in
    let b : total f xs ≤ total g xs = total-le f g xs (λ y i. w y (inr i)) in
    omega arith
total-lt f g (x ∷ xs) y w (inr i) lt =
    let a : f x ≤ g x = w x (inl refl) in
    let b : total f xs < total g xs = total-lt f g xs y (λ y i. w y (inr i)) i lt in
    omega arith

-- a sum of parts that are each at most c
pub total-bound : {X : Type 0} (c : ℕ) (f : X → ℕ) (xs : List X) → ((x : X) → In xs x → f x ≤ c) → total f xs ≤ c * length xs
unfolding total
total-bound c f [] w = omega arith
total-bound c f (x ∷ xs) w =
    let a : f x ≤ c = w x (inl refl) in
    let b : total f xs ≤ c * length xs = total-bound c f xs (λ y i. w y (inr i)) in
    rw mul-suc (omega arith)

-- ---- counts

cond-le : {X : Type 0} (x : X) (xs ys : List X) (b c : Bool) → (b ≡ true → c ≡ true) → length xs ≤ length ys → length (cond b (x ∷ xs) xs) ≤ length (cond c (x ∷ ys) ys)
cond-le x xs ys true true w l = omega arith
cond-le x xs ys false true w l = omega arith
cond-le x xs ys false false w l = l
cond-le x xs ys true false w l = absurd (let z : false ≡ true = w refl in cc)

cond-lt : {X : Type 0} (x : X) (xs ys : List X) (b c : Bool) → (b ≡ true → c ≡ true) → length xs < length ys → length (cond b (x ∷ xs) xs) < length (cond c (x ∷ ys) ys)
cond-lt x xs ys true true w l = omega arith
cond-lt x xs ys false true w l = omega arith
cond-lt x xs ys false false w l = l
cond-lt x xs ys true false w l = absurd (let z : false ≡ true = w refl in cc)

cond-new : {X : Type 0} (x : X) (xs ys : List X) (b c : Bool) → b ≡ false → c ≡ true → length xs ≤ length ys → length (cond b (x ∷ xs) xs) < length (cond c (x ∷ ys) ys)
cond-new x xs ys false true e f l = omega arith
cond-new x xs ys true c e f l = absurd (cc)
cond-new x xs ys false false e f l = absurd (cc)

pub filter-le : {X : Type 0} (p q : X → Bool) (xs : List X) → ((x : X) → p x ≡ true → q x ≡ true) → length (filter p xs) ≤ length (filter q xs)
filter-le p q [] w = omega arith
filter-le p q (x ∷ xs) w = cond-le x (filter p xs) (filter q xs) (p x) (q x) (w x) (filter-le p q xs w)

pub filter-lt : {X : Type 0} (p q : X → Bool) (xs : List X) (y : X) → ((x : X) → p x ≡ true → q x ≡ true) → In xs y → p y ≡ false → q y ≡ true → length (filter p xs) < length (filter q xs)
filter-lt p q [] y w i e f = absurd i
filter-lt p q (x ∷ xs) y w (inl k) e f = cond-new x (filter p xs) (filter q xs) (p x) (q x) (ap p k ∙ e) (ap q k ∙ f) (filter-le p q xs w)
filter-lt p q (x ∷ xs) y w (inr i) e f = cond-lt x (filter p xs) (filter q xs) (p x) (q x) (w x) (filter-lt p q xs y w i e f)

cond-most : {X : Type 0} (x : X) (xs : List X) (b : Bool) (n : ℕ) → length xs ≤ n → length (cond b (x ∷ xs) xs) ≤ suc n
cond-most x xs true n l = omega arith
cond-most x xs false n l = omega arith

cond-none : {X : Type 0} (x : X) (xs : List X) (b : Bool) (n : ℕ) → b ≡ false → length xs ≤ n → length (cond b (x ∷ xs) xs) < suc n
cond-none x xs true n e l = absurd (cc)
cond-none x xs false n e l = omega arith

cond-less : {X : Type 0} (x : X) (xs : List X) (b : Bool) (n : ℕ) → length xs < n → length (cond b (x ∷ xs) xs) < suc n
cond-less x xs true n l = omega arith
cond-less x xs false n l = omega arith

pub filter-most : {X : Type 0} (p : X → Bool) (xs : List X) → length (filter p xs) ≤ length xs
filter-most p [] = omega arith
filter-most p (x ∷ xs) = cond-most x (filter p xs) (p x) (length xs) (filter-most p xs)

-- one that does not pass is not counted
pub filter-less : {X : Type 0} (p : X → Bool) (xs : List X) (y : X) → In xs y → p y ≡ false → length (filter p xs) < length xs
filter-less p [] y i e = absurd i
filter-less p (x ∷ xs) y (inl k) e = cond-none x (filter p xs) (p x) (length xs) (ap p k ∙ e) (filter-most p xs)
filter-less p (x ∷ xs) y (inr i) e = cond-less x (filter p xs) (p x) (length xs) (filter-less p xs y i e)

-- ---- numbers below n, and joined lists

pub In-below : (n k : ℕ) → k < n → In (below n) k
In-below zero k l = absurd (omega arith)
In-below (suc n) k l = go (λ w. In-below n k w) (last_or_not k n l)
  where
    last_or_not : (k n : ℕ) → k < suc n → (k < n) ⊎ (n ≡ k)
    last_or_not k n l = grind arith

    go : (k < n → In (below n) k) → (k < n) ⊎ (n ≡ k) → In (below n ++ n ∷ []) k
    go old (inl w) = In-left (below n) (n ∷ []) k (old w)
    go old (inr w) = In-right (below n) (n ∷ []) k (inl w)

pub below-In : (n k : ℕ) → In (below n) k → k < n
below-In zero k i = absurd i
below-In (suc n) k i = go (λ w. below-In n k w) (In-parts (below n) (n ∷ []) k i)
  where
    go : (In (below n) k → k < n) → In (below n) k ⊎ In (n ∷ []) k → k < suc n
    go old (inl w) = let a : k < n = old w in omega arith
    go old (inr (inl w)) = omega arith
    go old (inr (inr w)) = absurd w

pub In-joined : {X Y : Type 0} (f : X → List Y) (xs : List X) (y : Y) → In (joined f xs) y → (x : X) × In xs x × In (f x) y
In-joined f [] y i = absurd i
In-joined f (x ∷ xs) y i =
    elim (In-parts (f x) (joined f xs) y i) [
      | inl w ↦ (x, inl refl, w)
      | inr w ↦ let r : (x : _) × In xs x × In (f x) y = In-joined f xs y w in (r.0, inr r.1, r.2)
    ]

pub into-joined : {X Y : Type 0} (f : X → List Y) (xs : List X) (x : X) (y : Y) → In xs x → In (f x) y → In (joined f xs) y
into-joined f [] x y i k = absurd i
into-joined f (z ∷ xs) x y (inl e) k = In-left (f z) (joined f xs) y (subst (λ (v : _). In (f v) y) (sym e) k)
into-joined f (z ∷ xs) x y (inr i) k = In-right (f z) (joined f xs) y (into-joined f xs x y i k)
