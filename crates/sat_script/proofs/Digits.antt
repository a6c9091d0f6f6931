-- Numbers and their digits.
use Rattle.std.proofs.Common.{◌≡◌, ℕ, zero, suc, ◌<◌, ◌≤◌, ◌^◌, true, not, ◌&&◌, ◌||◌, eqb, ltb, leb, List, [], ◌∷◌, length, map, get_or, Some, sym, ap, ◌∙◌, refl, subst, arith}
use Rattle.std.specs.List.{list_all, slice_get}
use Rattle.std.specs.Str.{all_ascii_digits}
use Rattle.std.specs.Str.Parse.{digits_value}
use Rattle.std.specs.Char.{is_ascii_digit}
use Rattle.std.specs.Fmt.{decimal}
use Rattle.std.proofs.lemmas.Bool.{and_from, and_parts, leb-true, ltb-true}
use Rattle.std.proofs.lemmas.Bool.Decides.{nat_tests}
use Rattle.std.proofs.lemmas.Fmt.{decimal-digits_value, digits_decimal, digits_value-decimal, decimal_nonempty, first_decimal, decimal_digit, length-decimal-le}
use Rattle.std.proofs.lemmas.Str.Parse.{IsNumeralModel, numerals_by_value, tells_all_ascii_digits}
use Rattle.std.proofs.lemmas.List.Sums.{AllPass-from_list_all}
use Rattle.std.proofs.lemmas.Option.{get_or_from_slice_get, slice_get_within}
use Rattle.sat_label.specs.Text.{is_between}
use Rattle.sat_script.specs.Words.{is_number, value_of, number_below, number_to, number_up_to}
use Rattle.sat_script.proofs.Choices.{tested}

pub own : IsNumeralModel (λ ds. all_ascii_digits ds ≡ true) (digits_value 10)
own = numerals_by_value _ tells_all_ascii_digits

no_zero : (text : List ℕ) → (eqb (length text) 1 || not (eqb (get_or text 0 0) 48)) ≡ true → get_or text 0 0 ≡ 48 → length text ≡ 1
no_zero text h z = grind (arith, nat_tests)

pub number_is : (text : List ℕ) → is_number text ≡ true → value_of text < 2 ^ 64 → text ≡ decimal (value_of text)
number_is text h small =
    let some = and_parts (ltb 0 (length text)) (all_ascii_digits text && (eqb (length text) 1 || not (eqb (get_or text 0 0) 48))) h in
    let digits = and_parts (all_ascii_digits text) (eqb (length text) 1 || not (eqb (get_or text 0 0) 48)) some.1 in
    sym (decimal-digits_value own text digits.0 (ltb-true 0 (length text) some.0) (no_zero text digits.1) small)

decimal_first : (n : ℕ) → n < 2 ^ 64 → (eqb (length (decimal n)) 1 || not (eqb (get_or (decimal n) 0 0) 48)) ≡ true
decimal_first zero small = rw (decimal_digit 0 (omega arith)) refl
decimal_first (suc n) small = let first = first_decimal (suc n) (omega arith) small in grind (arith, nat_tests)

pub decimal_number : (n : ℕ) → n < 2 ^ 64 → is_number (decimal n) ≡ true
decimal_number n small =
    let some = decimal_nonempty n small in
    and_from (ltb 0 (length (decimal n))) (all_ascii_digits (decimal n) && (eqb (length (decimal n)) 1 || not (eqb (get_or (decimal n) 0 0) 48))) (grind (arith, nat_tests))
    (and_from (all_ascii_digits (decimal n)) (eqb (length (decimal n)) 1 || not (eqb (get_or (decimal n) 0 0) 48)) (digits_decimal own n small) (decimal_first n small))

pub decimal_value : (n : ℕ) → n < 2 ^ 64 → value_of (decimal n) ≡ n
decimal_value n small = digits_value-decimal own n small

all_between : (xs : List ℕ) → all_ascii_digits xs ≡ true → list_all (is_between 48 57) xs ≡ true
all_between [] h = refl
all_between (x ∷ xs) h = let b = and_parts (is_ascii_digit x) (all_ascii_digits xs) h in and_from (is_between 48 57 x) (list_all (is_between 48 57) xs) (digit x b.0) (all_between xs b.1)
  where
    digit : (x : ℕ) → is_ascii_digit x ≡ true → is_between 48 57 x ≡ true
    digit x h = grind (arith, nat_tests)

pub decimal_between : (n : ℕ) → n < 2 ^ 64 → list_all (is_between 48 57) (decimal n) ≡ true
decimal_between n small = all_between (decimal n) (digits_decimal own n small)

pub decimal_length : (n : ℕ) → n < 2 ^ 16 → length (decimal n) ≤ 5
decimal_length n small = length-decimal-le 5 n (omega arith) (omega arith) (omega arith)

pub decimal_short : (n : ℕ) → n < 2 ^ 64 → length (decimal n) ≤ 20
decimal_short n small = length-decimal-le 20 n (omega arith) (omega arith) (omega arith)

-- ---- numbers below a limit

pub below_is : (limit : ℕ) (word : List ℕ) (n : ℕ) → limit ≤ 2 ^ 16 → number_below limit word ≡ Some n → (n < limit) × (word ≡ decimal n)
unfolding number_below
below_is limit word n few h =
    let t = tested (is_number word && ltb (value_of word) limit) (value_of word) n h in
    let b = and_parts (is_number word) (ltb (value_of word) limit) t.0 in
    let less = ltb-true (value_of word) limit b.1 in
    let same = t.1 in
    (omega arith, number_is word b.0 (omega arith) ∙ ap decimal same)

pub below_reads : (limit n : ℕ) → n < limit → limit ≤ 2 ^ 16 → number_below limit (decimal n) ≡ Some n
unfolding number_below
below_reads limit n less few =
    let number = decimal_number n (omega arith) in
    let value = decimal_value n (omega arith) in
    let test : ltb n limit ≡ true = grind (arith, nat_tests) in
    rw (number, value, test) refl

pub to_is : (limit : ℕ) (word : List ℕ) (n : ℕ) → limit < 2 ^ 16 → number_to limit word ≡ Some n → (1 ≤ n) × (n ≤ limit) × (word ≡ decimal n)
unfolding number_to
to_is limit word n few h =
    let t = tested (is_number word && (ltb 0 (value_of word) && leb (value_of word) limit)) (value_of word) n h in
    let b = and_parts (is_number word) (ltb 0 (value_of word) && leb (value_of word) limit) t.0 in
    let r = and_parts (ltb 0 (value_of word)) (leb (value_of word) limit) b.1 in
    let some = ltb-true 0 (value_of word) r.0 in
    let less = leb-true (value_of word) limit r.1 in
    let same = t.1 in
    (omega arith, omega arith, number_is word b.0 (omega arith) ∙ ap decimal same)

pub to_reads : (limit n : ℕ) → 1 ≤ n → n ≤ limit → limit < 2 ^ 16 → number_to limit (decimal n) ≡ Some n
unfolding number_to
to_reads limit n some less few =
    let number = decimal_number n (omega arith) in
    let value = decimal_value n (omega arith) in
    let above : ltb 0 n ≡ true = grind (arith, nat_tests) in
    let test : leb n limit ≡ true = grind (arith, nat_tests) in
    rw (number, value, above, test) refl

pub up_to_is : (limit : ℕ) (word : List ℕ) (n : ℕ) → limit < 2 ^ 64 → number_up_to limit word ≡ Some n → (n ≤ limit) × (word ≡ decimal n)
unfolding number_up_to
up_to_is limit word n few h =
    let t = tested (is_number word && leb (value_of word) limit) (value_of word) n h in
    let b = and_parts (is_number word) (leb (value_of word) limit) t.0 in
    let less = leb-true (value_of word) limit b.1 in
    let same = t.1 in
    (omega arith, number_is word b.0 (omega arith) ∙ ap decimal same)

pub up_to_reads : (limit n : ℕ) → n ≤ limit → limit < 2 ^ 64 → number_up_to limit (decimal n) ≡ Some n
unfolding number_up_to
up_to_reads limit n less few =
    let number = decimal_number n (omega arith) in
    let value = decimal_value n (omega arith) in
    let test : leb n limit ≡ true = grind (arith, nat_tests) in
    rw (number, value, test) refl

-- ---- lists of small numbers

abbrev pub AreSmall : List ℕ → Type 0
AreSmall ns = (k n : ℕ) → slice_get ns k ≡ Some n → n < 2 ^ 16

pub values_back : (ns : List ℕ) → AreSmall ns → map value_of (map decimal ns) ≡ ns
values_back [] h = refl
values_back (n ∷ ns) h =
    let less = h 0 n refl in
    ap (λ (v : ℕ). v ∷ map value_of (map decimal ns)) (decimal_value n (omega arith)) ∙ ap (λ (vs : List ℕ). n ∷ vs) (values_back ns (λ k m at. h (suc k) m at))

pub numbers_back : (ns : List ℕ) → AreSmall ns → list_all is_number (map decimal ns) ≡ true
numbers_back [] h = refl
numbers_back (n ∷ ns) h =
    let less = h 0 n refl in
    and_from (is_number (decimal n)) (list_all is_number (map decimal ns)) (decimal_number n (omega arith)) (numbers_back ns (λ k m at. h (suc k) m at))

pub all_small : (ns : List ℕ) → list_all (λ n. ltb n 64) ns ≡ true → AreSmall ns
all_small ns h k n at =
    let inside = AllPass-from_list_all (λ m. ltb m 64) ns h k 0 (slice_get_within ns k n at) in
    let less = ltb-true n 64 (subst (λ m. ltb m 64 ≡ true) (get_or_from_slice_get ns k n 0 at) inside) in
    omega arith
