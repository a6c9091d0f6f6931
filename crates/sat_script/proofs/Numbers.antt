-- A step of reading digits into a number that stops at the greatest u64.
use Rattle.std.proofs.Common.{◌≡◌, ℕ, ◌+◌, ◌-◌, ◌*◌, ◌^◌, ◌<◌, ◌≤◌, Bool, true, false, cond, List, [], ◌∷◌, length, get_or, take, min, Some, None, ap, refl, arith}
use Rattle.std.proofs.lemmas.Bool.Decides.{nat_tests}
use Rattle.std.proofs.lemmas.Int.Digits.{digits_value_more}
use Rattle.std.proofs.lemmas.Str.{digit_value_digit}
use Rattle.std.specs.Char.{digit_value, is_ascii_digit}
use Rattle.sat_script.specs.Words.{is_number, value_of}

pub value_step : (bs : List ℕ) (i v m w b : ℕ) → i < length bs → 48 ≤ b → b ≤ 57 → b ≡ get_or bs i 0 → v ≡ min (value_of (take i bs)) (2 ^ 64 - 1) → m ≡ min (v * 10) (2 ^ 64 - 1) → w ≡ min (m + (b - 48)) (2 ^ 64 - 1)
    → w ≡ min (value_of (take (i + 1) bs)) (2 ^ 64 - 1)
value_step bs i v m w b inside low high is ev em ew =
    let d : digit_value b + 48 ≡ b = digit_value_digit b (low, high) in
    let more = digits_value_more 10 bs i inside in
    rw (more, ← is) (omega (arith, d))

-- a word of one byte is a number where the byte is a digit
pub one_digit : (word : List ℕ) → length word ≡ 1 → cond (is_number word) (Some (min (value_of word) (2 ^ 64 - 1))) None ≡ cond (is_ascii_digit (get_or word 0 0)) (Some (get_or word 0 0 - 48)) None
one_digit [] h = absurd (omega arith)
one_digit (b ∷ []) h = go (is_ascii_digit b) refl
  where
    low : is_ascii_digit b ≡ true → (48 ≤ b) × (b ≤ 57)
    low e = (grind (arith, nat_tests), grind (arith, nat_tests))

    go : (t : Bool) → is_ascii_digit b ≡ t → cond (is_number (b ∷ [])) (Some (min (value_of (b ∷ [])) (2 ^ 64 - 1))) None ≡ cond (is_ascii_digit b) (Some (b - 48)) None
    go true e = let r = low e in let d : digit_value b + 48 ≡ b = digit_value_digit b r in rw e (ap (λ (n : ℕ). Some n) (omega (arith, d, r.0, r.1)))
    go false e = rw e refl
one_digit (b ∷ c ∷ word) h = absurd (omega arith)
