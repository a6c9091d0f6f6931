-- Sets of sites as bits, and the lists that name them.
use Rattle.std.proofs.Common.{◌≡◌, ℕ, ◌<◌, ◌^◌, Bool, false, ◌||◌, eqb, List, [], ◌∷◌, ◌++◌, ap, ◌∙◌, arith}
use Rattle.std.specs.List.{list_any}
use Rattle.std.proofs.lemmas.List.Folds.{list_any-append}
use Rattle.std.specs.Int.{bit_at}
use Rattle.std.proofs.lemmas.Nat.Bits.{same_from_bits, bit_at-lt, bit_at-zero}
use Rattle.std.proofs.lemmas.Bool.Decides.{nat_tests}
use Rattle.sat_label.specs.Words.{bit}
use Rattle.std.proofs.lemmas.Nat.Bits.{bit_at-pow_same, bit_at-pow_other}
use Rattle.sat_label.proofs.Bits.{bit-or}
use Rattle.sat_label.proofs.Truth.{or-false}
use Rattle.sat_script.specs.Words.{set_of}

pub bit_pow : (s k : ℕ) → bit (2 ^ s) k ≡ eqb k s
bit_pow s k = grind (arith, nat_tests, bit_at-pow_same s, bit_at-pow_other s k)

same_bit : (a b : ℕ) → a < 2 → b < 2 → eqb a 1 ≡ eqb b 1 → a ≡ b
same_bit a b p q h = grind (arith, nat_tests)

-- sets with the same sites are one
pub same_set : (a b : ℕ) → ((k : ℕ) → bit a k ≡ bit b k) → a ≡ b
same_set a b h = same_from_bits a b (λ k. same_bit (bit_at a k) (bit_at b k) (bit_at-lt a k) (bit_at-lt b k) (h k))

pub bit_zero : (k : ℕ) → bit 0 k ≡ false
bit_zero k = ap (λ n. eqb n 1) (bit_at-zero k)

-- whether a number is one of some
abbrev pub among : List ℕ → ℕ → Bool
among xs k = list_any (eqb k) xs

pub among_push : (xs : List ℕ) (x k : ℕ) → among (xs ++ x ∷ []) k ≡ (among xs k || eqb k x)
among_push xs x k = list_any-append (eqb k) xs (x ∷ []) ∙ ap (λ b. among xs k || b) (or-false (eqb k x))

pub bit_set_of : (xs : List ℕ) (k : ℕ) → bit (set_of xs) k ≡ among xs k
bit_set_of [] k = bit_zero k
bit_set_of (x ∷ xs) k = bit-or (2 ^ x) (set_of xs) k ∙ ap (λ b. b || bit (set_of xs) k) (bit_pow x k) ∙ ap (λ b. eqb k x || b) (bit_set_of xs k)
