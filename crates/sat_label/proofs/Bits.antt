-- One bit of a set of sites.
use Rattle.std.proofs.Common.{ℕ, zero, suc, ◌≢◌, ◌≡◌, ◌<◌, ◌≤◌, ◌+◌, ◌-◌, ◌*◌, ◌/◌, ◌%◌, ◌^◌, ◌==◌, ◌&&◌, ◌||◌, ◌↔◌, Bool, true, false, not, nat_eq, nat_lt, IsTrue, refl, min, max, bit_and, bit_or, arith, ap, sym, subst, ◌∙◌, inl, inr}
use Rattle.std.specs.Int.{bit_at, trailing_zeros}
use Rattle.std.proofs.Common.{w64}
use Rattle.std.proofs.Math.Pow.{pow-lt, pow_pos}
use Rattle.std.proofs.lemmas.Nat.{and_le_l, le-div, shr-shr}
use Rattle.std.proofs.lemmas.Nat.Bits.{bit_at_and, bit_at_or, bit_at_not, bit_at-lt, bit_at-pow_same, bit_at-pow_other, bit_at_above, bit_at-zero, bit_at-trailing_zeros}
use Rattle.std.proofs.lemmas.Bool.Decides.{nat_tests}
use Rattle.std.proofs.lemmas.Bool.{and_parts, cases_lt, ltb-true}
use Rattle.std.proofs.Math.Nat.{div-eq_of_lt, div-lt_iff_lt-mul, div-one, eq-or-lt_of_le, mod-eq_of_lt}
use Rattle.sat_label.specs.Words.{are_sites, bit}

bit-pow : (s k : ℕ) → bit (2 ^ s) k ≡ (k == s)
bit-pow s k = grind (arith, nat_tests, bit_at-pow_same s, bit_at-pow_other s k)

of-max : (a b : ℕ) → a < 2 → b < 2 → (max a b == 1) ≡ ((a == 1) || (b == 1))
of-max a b p q = grind (arith, nat_tests)

of-min : (a b : ℕ) → a < 2 → b < 2 → (min a b == 1) ≡ ((a == 1) && (b == 1))
of-min a b p q = grind (arith, nat_tests)

of-less : (a b : ℕ) → a < 2 → b < 2 → (min a (1 - b) == 1) ≡ ((a == 1) && not (b == 1))
of-less a b p q = grind (arith, nat_tests)

pub bit-or : (a b k : ℕ) → bit (bit_or a b) k ≡ (bit a k || bit b k)
bit-or a b k = ap (λ n. n == 1) (bit_at_or a b k) ∙ of-max _ _ (bit_at-lt a k) (bit_at-lt b k)

pub bit-and : (a b k : ℕ) → bit (bit_and a b) k ≡ (bit a k && bit b k)
bit-and a b k = ap (λ n. n == 1) (bit_at_and a b k) ∙ of-min _ _ (bit_at-lt a k) (bit_at-lt b k)

-- a set has no site from 64 on
pub bit-above : (a k : ℕ) → a < 2 ^ 64 → 64 ≤ k → bit a k ≡ false
bit-above a k fits high = ap (λ n. n == 1) (bit_at_above a 64 k fits high)

small-pow : (s : ℕ) → s < 64 → 1 * 2 ^ s % 2 ^ 64 ≡ 2 ^ s
small-pow s few =
    let e : 1 * 2 ^ s ≡ 2 ^ s = omega arith in
    rw e (mod-eq_of_lt (pow-lt few))

-- no test of a site from 64 on is true
pub bit-beyond : (a k : ℕ) → a < 2 ^ 64 → 64 ≤ k → nat_lt k 64 ≡ bit a k
bit-beyond a k fits high = rw (bit-above a k fits high) (grind (arith, nat_tests))

pub bit-one : (s k : ℕ) → s < 64 → bit (1 * 2 ^ s % 2 ^ 64) k ≡ (k == s)
bit-one s k few = ap (λ n. bit n k) (small-pow s few) ∙ bit-pow s k

less-low : (a b k : ℕ) → b < 2 ^ 64 → k < 64 → bit (bit_and a (2 ^ 64 - 1 - b)) k ≡ (bit a k && not (bit b k))
less-low a b k fits low =
    ap (λ n. n == 1) (bit_at_and a (2 ^ 64 - 1 - b) k) ∙ (ap (λ n. min (bit_at a k) n == 1) (bit_at_not w64 b k fits low) ∙ of-less _ _ (bit_at-lt a k) (bit_at-lt b k))

less-high : (a b k : ℕ) → a < 2 ^ 64 → 64 ≤ k → bit (bit_and a (2 ^ 64 - 1 - b)) k ≡ (bit a k && not (bit b k))
less-high a b k fits high =
    let e = bit-above (bit_and a (2 ^ 64 - 1 - b)) k (omega (arith, and_le_l a (2 ^ 64 - 1 - b))) high in
    rw (e, bit-above a k fits high) refl

pub bit-less : (a b k : ℕ) → a < 2 ^ 64 → b < 2 ^ 64 → bit (bit_and a (2 ^ 64 - 1 - b)) k ≡ (bit a k && not (bit b k))
bit-less a b k low high = elim (cases_lt k 64) [ inl under ↦ less-low a b k high under | inr above ↦ less-high a b k low above ]

both-true : (a b : Bool) → (a && b) ≡ true → (a ≡ true) × (b ≡ true)
both-true true true e = (refl, refl)
both-true true false e = absurd (cc)
both-true false b e = absurd (cc)

meets-here : (a b : ℕ) → a < 2 ^ 64 → 0 < bit_and a b → (k : ℕ) × (bit a k ≡ true) × (bit b k ≡ true)
meets-here a b fits some =
    let low : bit_and a b < 2 ^ 64 = omega (arith, and_le_l a b) in
    let k = trailing_zeros w64 (bit_and a b) in
    let at = bit_at-trailing_zeros w64 (bit_and a b) some low in
    let is : bit (bit_and a b) k ≡ true = ap (λ n. n == 1) at.1 in
    let both = both-true (bit a k) (bit b k) (sym (bit-and a b k) ∙ is) in
    (k, both.0, both.1)

bit-none : (n k : ℕ) → n ≡ 0 → bit n k ≡ true → ⊥
bit-none n k e is = absurd (let z : bit n k ≡ false = ap (λ m. bit m k) e ∙ ap (λ m. m == 1) (bit_at-zero k) in cc)

pub meets-is : (a b : ℕ) → a < 2 ^ 64 → IsTrue (not (nat_eq (bit_and a b) 0)) ↔ ((k : ℕ) × (bit a k ≡ true) × (bit b k ≡ true))
meets-is a b fits = (
  λ t. meets-here a b fits (grind (arith, nat_tests)),
  λ w.
      let is : bit (bit_and a b) w.0 ≡ true = bit-and a b w.0 ∙ rw (w.1, w.2) refl in
      let some : bit_and a b ≢ 0 = λ e. bit-none _ _ e is in
      grind (arith, nat_tests),
)

-- a number that is not 0 has a bit
pub bit-some : (n : ℕ) → 0 < n → n < 2 ^ 64 → (k : ℕ) × (bit n k ≡ true)
bit-some n some fits = (trailing_zeros w64 n, ap (λ m. m == 1) ((bit_at-trailing_zeros w64 n some fits).1))

-- a number below a power of two has no bit from there on
pub bit-within : (n w k : ℕ) → n < 2 ^ w → bit n k ≡ true → k < w
bit-within n w k fits has = elim (cases_lt k w) [
  | inl below ↦ below
  | inr beyond ↦ absurd (let z : bit n k ≡ false = ap (λ m. m == 1) (bit_at_above n w k fits beyond) in cc)
]

-- ---- all sites below a number

-- a bit of the upper part of a number is one of the number
upper-bit : (n w k : ℕ) → bit (n / 2 ^ w) k ≡ bit n (w + k)
upper-bit n w k = ap (λ m. m % 2 == 1) (shr-shr n w k)

full-low : (k : ℕ) → k < 64 → bit 18446744073709551615 k ≡ true
full-low k low =
    let is : bit_at 18446744073709551615 k ≡ 1 = omega (arith, bit_at_not w64 0 k (omega arith) low, bit_at-zero k) in
    ap (λ n. n == 1) is

pub all-sites : (sites k : ℕ) → sites ≢ 0 → sites ≤ 64 → bit (18446744073709551615 / 2 ^ (64 - sites)) k ≡ nat_lt k sites
all-sites sites k some few = upper-bit 18446744073709551615 (64 - sites) k ∙ elim (cases_lt (64 - sites + k) 64) [
  | inl under ↦ full-low (64 - sites + k) under ∙ inside under
  | inr above ↦ bit-above 18446744073709551615 (64 - sites + k) (omega arith) above ∙ outside above
]
  where
    inside : 64 - sites + k < 64 → true ≡ nat_lt k sites
    inside under = grind (arith, nat_tests)

    outside : 64 ≤ 64 - sites + k → false ≡ nat_lt k sites
    outside above = grind (arith, nat_tests)

-- ---- a set of some sites below a number

tests : (bits p q : ℕ) → bits ≢ 0 → (bits < p → q ≡ 0) → (q < 1 → bits < p) → nat_eq q 0 ≡ (not (bits == 0) && nat_lt bits p)
tests bits p q some f g = grind (arith, nat_tests)

-- no bit stands past the shift
pub shifted : (bits sites : ℕ) → bits ≢ 0 → nat_eq (bits / 2 ^ sites) 0 ≡ are_sites sites bits
shifted bits sites some =
    tests bits (2 ^ sites) (bits / 2 ^ sites) some (λ h. div-eq_of_lt h) (λ h. let w : bits < 1 * 2 ^ sites = (div-lt_iff_lt-mul (pow_pos sites)).0 h in omega arith)

few-bits : (sites bits : ℕ) → bits < 2 ^ sites → sites ≤ 64 → bits < 2 ^ 64
few-bits sites bits fits few = elim (eq-or-lt_of_le few) [
  | inl same ↦ subst (λ (n : ℕ). bits < 2 ^ n) same fits
  | inr less ↦ omega (arith, pow-lt {i = sites} {j = 64} less)
]

positive : (n : ℕ) → not (n == 0) ≡ true → 0 < n
positive n e = grind (arith, nat_tests)

-- it has a site
pub sites-some : (sites bits : ℕ) → are_sites sites bits ≡ true → sites ≤ 64 → (k : ℕ) × (bit bits k ≡ true)
sites-some sites bits are few =
    let both = and_parts _ _ are in
    bit-some bits (positive bits both.0) (few-bits sites bits (ltb-true _ _ both.1) few)

-- all its sites are below the number
pub sites-below : (sites bits k : ℕ) → are_sites sites bits ≡ true → bit bits k ≡ true → k < sites
sites-below sites bits k are has = bit-within bits sites k (ltb-true _ _ ((and_parts _ _ are).1)) has

even-half : (n : ℕ) → (n % 2 == 1) ≡ false → 0 < n → 0 < n / 2
even-half n e pos = grind (arith, nat_tests)

half-less : (f n : ℕ) → n ≤ suc f → n / 2 ≤ f
half-less f n le = omega arith

some-bit : (f n : ℕ) → n ≤ f → 0 < n → (k : ℕ) × (bit n k ≡ true)
some-bit zero n le pos = absurd (omega arith)
some-bit (suc f) n le pos = go (n % 2 == 1) refl (λ half. some-bit f (n / 2) (half-less f n le) half)
  where
    go : (b : Bool) → (n % 2 == 1) ≡ b → (0 < n / 2 → (k : ℕ) × (bit (n / 2) k ≡ true)) → (k : ℕ) × (bit n k ≡ true)
    go true e rest = (0, ap (λ (m : ℕ). m % 2 == 1) (div-one n) ∙ e)
    go false e rest = let w = rest (even-half n e pos) in (1 + w.0, sym (upper-bit n 1 w.0) ∙ w.1)

-- a number all of whose bits are below a place is below that power of two
low-bits : (n w : ℕ) → ((k : ℕ) → bit n k ≡ true → k < w) → n < 2 ^ w
low-bits n w f = go (nat_lt n (2 ^ w)) refl
  where
    less : nat_lt n (2 ^ w) ≡ true → n < 2 ^ w
    less e = grind (arith, nat_tests)

    past : nat_lt n (2 ^ w) ≡ false → 1 * 2 ^ w ≤ n
    past e = grind (arith, nat_tests)

    high : 1 ≤ n / 2 ^ w → ⊥
    high pos = (let h = some-bit (n / 2 ^ w) (n / 2 ^ w) (omega arith) (omega arith) in let k : w + h.0 < w = f (w + h.0) (sym (upper-bit n w h.0) ∙ h.1) in omega arith)

    go : (b : Bool) → nat_lt n (2 ^ w) ≡ b → n < 2 ^ w
    go true e = less e
    go false e = absurd (high (le-div 1 n (2 ^ w) (pow_pos w) (past e)))

-- and the other way round
pub sites-are : (sites bits : ℕ) → (k : ℕ) × (bit bits k ≡ true) → ((k : ℕ) → bit bits k ≡ true → k < sites) → are_sites sites bits ≡ true
sites-are sites bits some below =
    both bits (2 ^ sites) (λ e. bit-none bits some.0 e some.1) (low-bits bits sites below)
  where
    both : (n m : ℕ) → n ≢ 0 → n < m → (not (n == 0) && nat_lt n m) ≡ true
    both n m e f = grind (arith, nat_tests)
