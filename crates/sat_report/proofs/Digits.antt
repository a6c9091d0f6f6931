-- How many digits a number has.
use Rattle.std.proofs.Common.{◌≡◌, ℕ, ◌+◌, ◌^◌, ◌<◌, ◌≤◌, List, ◌∷◌, ◌++◌, length, sym, ap, ◌∙◌, arith}
use Rattle.std.specs.Fmt.{decimal}
use Rattle.std.proofs.lemmas.Fmt.{length-decimal-le, decimal_digit, decimal_nonempty}

pub short_part : (n m : ℕ) → n ≡ m → m < 2 ^ 16 → length (decimal n) ≤ 5
short_part n m e small = length-decimal-le 5 n (omega arith) (omega (arith, e)) (omega (arith, e))

pub some_part : (n m : ℕ) → n ≡ m → m < 2 ^ 16 → 1 ≤ length (decimal n)
some_part n m e small = decimal_nonempty n (omega (arith, e, small))

pub short_number : (n : ℕ) → n < 2 ^ 64 → length (decimal n) ≤ 20
short_number n fits = length-decimal-le 20 n (omega arith) (omega (arith, fits)) fits

-- a number of one digit
pub one_digit : (n : ℕ) (text rest : List ℕ) → n < 10 → text ≡ (48 + n) ∷ rest → text ≡ decimal n ++ rest
one_digit n text rest small is = is ∙ ap (λ digits. digits ++ rest) (sym (decimal_digit n small))
