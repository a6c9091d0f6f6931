-- The order of notes.
use Rattle.std.proofs.Common.{◌≡◌, ◌⊎◌, ℕ, ◌+◌, Bool, true, false, ◌&&◌, ◌||◌, ◌==◌, nat_lt, List, [], ◌∷◌, ◌++◌, refl, sym, ap, ◌∙◌, subst, arith, inl, inr}
use Rattle.std.proofs.lemmas.Bool.Decides.{nat_tests}
use Rattle.sat_label.specs.Members.{In}
use Rattle.sat_stitch.specs.Places.{Session, Client, Operator}
use Rattle.sat_session.specs.Owned.{Owned}
use Rattle.sat_parts_notes.specs.Filing.{rank_of, comes_before, Ascending, IsUnderSame}

abbrev before : ℕ → ℕ → ℕ → ℕ → Bool
before a p b q = nat_lt a b || ((a == b) && nat_lt p q)

not-self : (a b p q : ℕ) → a ≡ b → p ≡ q → before a p b q ≡ true → ⊥
not-self a b p q e w lt = grind (arith, nat_tests)

neither : (a p b q : ℕ) → before a p b q ≡ false → before b q a p ≡ false → (a ≡ b) × (p ≡ q)
neither a p b q e f = (grind (arith, nat_tests), grind (arith, nat_tests))

-- b is not before a, and b is before c
pass-left : (a p b q c r : ℕ) → before b q a p ≡ false → before b q c r ≡ true → before a p c r ≡ true
pass-left a p b q c r e lt = grind (arith, nat_tests)

-- a is before b, and c is not before b
pass-right : (a p b q c r : ℕ) → before a p b q ≡ true → before c r b q ≡ false → before a p c r ≡ true
pass-right a p b q c r lt e = grind (arith, nat_tests)

pub not-through : (a p b q c r : ℕ) → before b q a p ≡ false → before c r b q ≡ false → before c r a p ≡ false
not-through a p b q c r e f = grind (arith, nat_tests)

same-client : (b c : ℕ) → b + 1 ≡ c + 1 → b ≡ c
same-client b c e = omega arith

no-client : (c : ℕ) → c + 1 ≡ 0 → ⊥
no-client c e = omega arith

one-rank : (s t : Session) → rank_of s ≡ rank_of t → s ≡ t
one-rank Operator Operator e = refl
one-rank (Client b) (Client c) e = ap Client (same-client b c e)
one-rank Operator (Client c) e = absurd (no-client c (sym e))
one-rank (Client b) Operator e = absurd (no-client b e)

-- where neither of two comes before the other, they are under the same number of the same session
pub under-same : (a b : Owned) → comes_before a b ≡ false → comes_before b a ≡ false → IsUnderSame a b
under-same a b e f =
    let w : (rank_of a.0 ≡ rank_of b.0) × (a.1.lamport ≡ b.1.lamport) = neither (rank_of a.0) a.1.lamport (rank_of b.0) b.1.lamport e f in
    (one-rank a.0 b.0 w.0, w.1)

pub not-before-same : (a b : Owned) → IsUnderSame a b → comes_before a b ≡ true → ⊥
not-before-same a b same lt = not-self (rank_of a.0) (rank_of b.0) a.1.lamport b.1.lamport (ap rank_of same.0) same.1 lt

pub before-from-left : (a b c : Owned) → comes_before b a ≡ false → comes_before b c ≡ true → comes_before a c ≡ true
before-from-left a b c e lt = pass-left (rank_of a.0) a.1.lamport (rank_of b.0) b.1.lamport (rank_of c.0) c.1.lamport e lt

pub before-from-right : (a b c : Owned) → comes_before a b ≡ true → comes_before c b ≡ false → comes_before a c ≡ true
before-from-right a b c lt e = pass-right (rank_of a.0) a.1.lamport (rank_of b.0) b.1.lamport (rank_of c.0) c.1.lamport lt e

-- ---- lists in order

in-back : (xs ys : List Owned) (y : Owned) → In ys y → In (xs ++ ys) y
in-back [] ys y i = i
in-back (x ∷ xs) ys y i = inr (in-back xs ys y i)

pub ascending-across : (xs ys : List Owned) → Ascending (xs ++ ys) → (x y : Owned) → In xs x → In ys y → comes_before y x ≡ false
ascending-across [] ys a x y i j = absurd i
ascending-across (z ∷ xs) ys a x y (inl e) j = subst (λ (w : Owned). comes_before y w ≡ false) e (a.1 y (in-back xs ys y j))
ascending-across (z ∷ xs) ys a x y (inr i) j = ascending-across xs ys a.0 x y i j
