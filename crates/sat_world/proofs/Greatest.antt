-- The greatest promise, row by row and all at once.
use Rattle.std.specs.Prelude.{◌≡◌, ◌⊎◌, ◌<◌, ◌≤◌, ℕ, zero, suc}
use Rattle.std.proofs.Common.{arith, inl, inr}
use Rattle.sat_model.specs.World.{greatest_row}
use Rattle.sat_world.specs.Clocks.{greatest_of}

before-or : (i n : ℕ) → i < suc n → (i < n) ⊎ (i ≡ n)
before-or i n lt = grind arith

of-bound : (f : ℕ → ℕ) (n i : ℕ) → i < n → f i ≤ greatest_of f n
unfolding greatest_of
of-bound f zero i lt = absurd (omega arith)
of-bound f (suc n) i lt = elim (before-or i n lt) [
  | inl less ↦ let e : f i ≤ greatest_of f n = of-bound f n i less in omega (arith, e)
  | inr same ↦ let e : f i ≡ f n = Rattle.std.proofs.Common.ap f same in omega (arith, e)
]

of-least : (f : ℕ → ℕ) (n b : ℕ) → ((i : ℕ) → i < n → f i ≤ b) → greatest_of f n ≤ b
unfolding greatest_of
of-least f zero b all = omega arith
of-least f (suc n) b all = let e : greatest_of f n ≤ b = of-least f n b (λ i lt. all i (omega arith)) in let g : f n ≤ b = all n (omega arith) in omega (arith, e, g)

row-bound : (p : ℕ → ℕ → ℕ) (m n i g : ℕ) → i < m → g < n → p i g ≤ greatest_row p m n
unfolding greatest_row
row-bound p zero n i g lt low = absurd (omega arith)
row-bound p (suc m) zero i g lt low = absurd (omega arith)
row-bound p (suc m) (suc n) i g lt low = elim (before-or g n low) [
  | inl less ↦ let e : p i g ≤ greatest_row p (suc m) n = row-bound p (suc m) n i g lt less in omega (arith, e)
  | inr same ↦ elim (before-or i m lt) [
    | inl under ↦ let e : p i g ≤ greatest_row p m (suc n) = row-bound p m (suc n) i g under low in omega (arith, e)
    | inr here ↦ let e : p i g ≡ p m n = (λ k. p (here k) (same k)) in omega (arith, e)
  ]
]

row-least : (p : ℕ → ℕ → ℕ) (m n b : ℕ) → ((i g : ℕ) → i < m → g < n → p i g ≤ b) → greatest_row p m n ≤ b
unfolding greatest_row
row-least p m zero b all = omega arith
row-least p zero (suc n) b all = omega arith
row-least p (suc m) (suc n) b all =
    let e : greatest_row p (suc m) n ≤ b = row-least p (suc m) n b (λ i g lt low. all i g lt (omega arith)) in
    let f : greatest_row p m (suc n) ≤ b = row-least p m (suc n) b (λ i g lt low. all i g (omega arith) low) in
    let h : p m n ≤ b = all m n (omega arith) (omega arith) in omega (arith, e, f, h)

same-bound : (a b : ℕ) → a ≤ b → b ≤ a → a ≡ b
same-bound a b e f = omega arith

through : (a b c : ℕ) → a ≤ b → b ≤ c → a ≤ c
through a b c e f = omega arith

pub greatest-is : (p : ℕ → ℕ → ℕ) (m n : ℕ) → greatest_of (λ i. greatest_of (λ g. p i g) n) m ≡ greatest_row p m n
greatest-is p m n =
    same-bound (greatest_of (λ i. greatest_of (λ g. p i g) n) m) (greatest_row p m n)
    (of-least (λ i. greatest_of (λ g. p i g) n) m (greatest_row p m n) (λ i lt. of-least (λ g. p i g) n (greatest_row p m n) (λ g low. row-bound p m n i g lt low)))
    (row-least p m n (greatest_of (λ i. greatest_of (λ g. p i g) n) m) (λ i g lt low. through (p i g) (greatest_of (λ g. p i g) n) (greatest_of (λ i. greatest_of (λ g. p i g) n) m) (of-bound (λ g. p i g) n g low) (of-bound (λ i. greatest_of (λ g. p i g) n) m i lt)))
