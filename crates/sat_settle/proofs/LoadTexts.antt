-- A letter and a number are a name, and a value.
use Rattle.std.proofs.Common.{ℕ, ◌≡◌, ◌<◌, ◌≤◌, ◌+◌, ◌-◌, ◌^◌, ◌++◌, Bool, true, nat_le, nat_lt, List, [], ◌∷◌, length, take, drop, slice_set, codes, refl, ap, ◌∙◌, arith}
use Rattle.std.specs.List.{list_all}
use Rattle.std.specs.Fmt.{decimal}
use Rattle.std.proofs.lemmas.Bool.{and_from, and_parts, le-leb}
use Rattle.std.proofs.lemmas.Bool.Decides.{nat_tests}
use Rattle.std.proofs.lemmas.Fmt.{length-decimal-le}
use Rattle.std.proofs.lemmas.List.{append-nil, drop-set, length-drop, length-set, take_all}
use Rattle.sat_label.specs.Text.{is_between, is_name, is_name_byte, is_value}
use Rattle.sat_script.proofs.Digits.{decimal_between, decimal_short}

weaker : (p q : ℕ → Bool) (xs : List ℕ) → ((x : ℕ) → p x ≡ true → q x ≡ true) → list_all p xs ≡ true → list_all q xs ≡ true
weaker p q [] from all = refl
weaker p q (x ∷ xs) from all = let both = and_parts (p x) (list_all p xs) all in and_from (q x) (list_all q xs) (from x both.0) (weaker p q xs from both.1)

digit_in_name : (byte : ℕ) → is_between 48 57 byte ≡ true → is_name_byte byte ≡ true
digit_in_name byte is = rw is refl

digit_in_value : (byte : ℕ) → is_between 48 57 byte ≡ true → is_between 33 126 byte ≡ true
digit_in_value byte is = grind (arith, nat_tests)

named : (letter k : ℕ) → is_name_byte letter ≡ true → k < 2 ^ 64 → is_name (letter ∷ decimal k) ≡ true
named letter k fits small =
    let few = decimal_short k small in
    let short : nat_le (length (letter ∷ decimal k)) 32 ≡ true = le-leb _ _ (omega arith) in
    let digits = weaker (is_between 48 57) is_name_byte (decimal k) digit_in_name (decimal_between k small) in
    and_from (nat_lt 0 (length (letter ∷ decimal k))) _ (grind (arith, nat_tests)) (and_from _ _ short (and_from _ _ fits digits))

valued : (letter k : ℕ) → is_between 33 126 letter ≡ true → k < 2 ^ 64 → is_value (letter ∷ decimal k) ≡ true
valued letter k fits small =
    let few = decimal_short k small in
    let short : nat_le (length (letter ∷ decimal k)) 256 ≡ true = le-leb _ _ (omega arith) in
    let digits = weaker (is_between 48 57) (is_between 33 126) (decimal k) digit_in_value (decimal_between k small) in
    and_from (nat_lt 0 (length (letter ∷ decimal k))) _ (grind (arith, nat_tests)) (and_from _ _ short (and_from _ _ fits digits))

pub item_name : (k : ℕ) → k < 2 ^ 64 → is_name (codes "x" ++ decimal k) ≡ true
item_name k small = named 120 k refl small

pub client_name : (k : ℕ) → k < 2 ^ 64 → is_name (codes "c" ++ decimal k) ≡ true
client_name k small = named 99 k refl small

pub value_text : (k : ℕ) → k < 2 ^ 64 → is_value (codes "v" ++ decimal k) ≡ true
value_text k small = valued 118 k refl small

-- ---- as they are written

pub few_digits : (n m : ℕ) → n ≡ m → m < 2 ^ 32 → length (decimal n) ≤ 10
few_digits n m e small = length-decimal-le 10 n (omega arith) (omega (arith, e)) (omega (arith, e))

pub digits_behind : (text : List ℕ) (start letter n m : ℕ) (rest : List ℕ) → 1 ≤ start → start ≤ length text → n ≡ m → rest ≡ [] → drop start text ≡ decimal n ++ rest
    → drop (start - 1) (slice_set text (start - 1) letter) ≡ letter ∷ decimal m
digits_behind text start letter n m rest some within same none written =
    let back : start - 1 + 1 ≡ start = omega (arith, some) in
    drop-set text (start - 1) letter (omega (arith, some, within)) ∙ ap (λ at. letter ∷ drop at text) back ∙ ap (λ digits. letter ∷ digits) written
    ∙ ap (λ (rest : List ℕ). letter ∷ (decimal n ++ rest)) none ∙ ap (λ (digits : List ℕ). letter ∷ digits) (append-nil (decimal n)) ∙ ap (λ number. letter ∷ decimal number) same

-- all of a text from a place on
pub all_behind : (text : List ℕ) (at letter : ℕ) → length text ≡ 11 → take (11 - at) (drop at (slice_set text at letter)) ≡ drop at (slice_set text at letter)
all_behind text at letter long = take_all (11 - at) (drop at (slice_set text at letter)) (omega (arith, long, length-drop at (slice_set text at letter), length-set text at letter))
