-- Numbers of any length: of two, the shorter is below the other, and of two as long the one that is first by its bytes.
use Rattle.std.proofs.Common.{◌≡◌, ℕ, suc, ◌+◌, ◌*◌, ◌<◌, ◌≤◌, ◌^◌, inl, inr, Bool, true, false, not, ◌&&◌, ◌||◌, cond, eqb, ltb, List, [], ◌∷◌, length, get_or, sym, ap, ◌∙◌, refl, arith}
use Rattle.std.specs.Str.{all_ascii_digits}
use Rattle.std.specs.Str.Parse.{digits_value_after}
use Rattle.std.specs.Char.{digit_value, is_ascii_digit}
use Rattle.std.specs.Cmp.Lexicographic.{slice_cmp}
use Rattle.std.proofs.Common.{Less, Equal, Greater}
use Rattle.std.specs.Ordering.{nat_cmp, is_lt, ordering_then}
use Rattle.std.proofs.lemmas.Str.{digit_value_digit}
use Rattle.std.proofs.lemmas.Str.Parse.{digits_value_short}
use Rattle.std.proofs.lemmas.Bool.{and_parts, cases_lt, lt-ltb}
use Rattle.std.proofs.lemmas.Bool.Decides.{nat_tests}
use Rattle.std.proofs.Math.Nat.{le_trans, pow-suc}
use Rattle.sat_script.proofs.Digits.{own}
use Rattle.sat_script.specs.Words.{is_number, value_of}

-- the digits that follow n
abbrev after : ℕ → List ℕ → ℕ
after n ds = digits_value_after 10 n ds

digit_small : (c : ℕ) → is_ascii_digit c ≡ true → (48 ≤ c) × (c ≤ 57) × (digit_value c + 48 ≡ c)
digit_small c h =
    let low : 48 ≤ c = grind (arith, nat_tests) in
    let high : c ≤ 57 = grind (arith, nat_tests) in
    (low, high, digit_value_digit c (low, high))

-- a lower front stays lower
lower : (n m : ℕ) (xs ys : List ℕ) → length xs ≡ length ys → all_ascii_digits xs ≡ true → n < m → after n xs < after m ys
lower n m [] [] same digits less = less
lower n m [] (y ∷ ys) same digits less = absurd (omega arith)
lower n m (x ∷ xs) [] same digits less = absurd (omega arith)
lower n m (x ∷ xs) (y ∷ ys) same digits less =
    let b = and_parts (is_ascii_digit x) (all_ascii_digits xs) digits in
    let d = digit_small x b.0 in
    lower (n * 10 + digit_value x) (m * 10 + digit_value y) xs ys (omega arith) b.1 (omega (arith, d.2))

more_is : (a b : ℕ) → b ≤ a → ltb a b ≡ false
more_is a b h = grind (arith, nat_tests)

same_length : (n : ℕ) (xs ys : List ℕ) → length xs ≡ length ys → all_ascii_digits xs ≡ true → all_ascii_digits ys ≡ true → is_lt (slice_cmp nat_cmp xs ys) ≡ ltb (after n xs) (after n ys)
same_length n [] [] same p q = sym (more_is n n (omega arith))
same_length n [] (y ∷ ys) same p q = absurd (omega arith)
same_length n (x ∷ xs) [] same p q = absurd (omega arith)
same_length n (x ∷ xs) (y ∷ ys) same p q = go (ltb x y) (eqb x y) refl refl (same_length (n * 10 + digit_value x) xs ys (omega arith) b.1 c.1)
  where
    b : (is_ascii_digit x ≡ true) × (all_ascii_digits xs ≡ true)
    b = and_parts (is_ascii_digit x) (all_ascii_digits xs) p

    c : (is_ascii_digit y ≡ true) × (all_ascii_digits ys ≡ true)
    c = and_parts (is_ascii_digit y) (all_ascii_digits ys) q

    go : (t u : Bool) → ltb x y ≡ t → eqb x y ≡ u → is_lt (slice_cmp nat_cmp xs ys) ≡ ltb (after (n * 10 + digit_value x) xs) (after (n * 10 + digit_value x) ys)
        → is_lt (ordering_then (cond t Less (cond u Equal Greater)) (slice_cmp nat_cmp xs ys)) ≡ ltb (after (n * 10 + digit_value x) xs) (after (n * 10 + digit_value y) ys)
    go true u e f h =
        let d = digit_small x b.0 in
        let k = digit_small y c.0 in
        let less : x < y = grind (arith, nat_tests) in
        sym (lt-ltb _ _ (lower (n * 10 + digit_value x) (n * 10 + digit_value y) xs ys (omega arith) b.1 (omega (arith, d.2, k.2))))
    go false true e f h = let equal : x ≡ y = grind (arith, nat_tests) in h ∙ ap (λ z. ltb (after (n * 10 + digit_value x) xs) (after (n * 10 + digit_value z) ys)) equal
    go false false e f h =
        let d = digit_small x b.0 in
        let k = digit_small y c.0 in
        let less : y < x = grind (arith, nat_tests) in
        let under = lower (n * 10 + digit_value y) (n * 10 + digit_value x) ys xs (omega arith) c.1 (omega (arith, d.2, k.2)) in
        sym (more_is _ _ (omega arith))

power : (k : ℕ) → 10 ^ suc k ≡ 10 ^ k * 10
power k = pow-suc 10 k

times_up : (n d p q : ℕ) → q ≡ p * 10 → n * q ≤ (n * 10 + d) * p
times_up n d p q e = rw e (grind arith)

-- digits after n are at least n with as many zeros
at_least : (n : ℕ) (ds : List ℕ) → n * 10 ^ length ds ≤ after n ds
at_least n [] = omega arith
at_least n (c ∷ cs) =
    let more = at_least (n * 10 + digit_value c) cs in
    let up = times_up n (digit_value c) (10 ^ length cs) (10 ^ suc (length cs)) (power (length cs)) in
    le_trans up more

digits_of : (word : List ℕ) → is_number word ≡ true → all_ascii_digits word ≡ true
digits_of word h =
    let some = and_parts (ltb 0 (length word)) (all_ascii_digits word && (eqb (length word) 1 || not (eqb (get_or word 0 0) 48))) h in
    (and_parts (all_ascii_digits word) (eqb (length word) 1 || not (eqb (get_or word 0 0) 48)) some.1).0

first_some : (b : ℕ) (bs : List ℕ) → is_number (b ∷ bs) ≡ true → 0 < length bs → 1 ≤ digit_value b
first_some b bs h some =
    let parts = and_parts (all_ascii_digits (b ∷ bs)) (eqb (length (b ∷ bs)) 1 || not (eqb b 48)) (and_parts (ltb 0 (length (b ∷ bs))) (all_ascii_digits (b ∷ bs) && (eqb (length (b ∷ bs)) 1 || not (eqb b 48))) h).1 in
    let d = digit_small b (and_parts (is_ascii_digit b) (all_ascii_digits bs) parts.0).0 in
    let other : not (eqb b 48) ≡ true = grind (arith, nat_tests) in
    let apart : 48 < b = grind (arith, nat_tests) in
    omega (arith, d.2)

times_one : (d p : ℕ) → 1 ≤ d → p ≤ (0 * 10 + d) * p
times_one d p some = grind (arith, some)

long_value : (b : ℕ) (bs : List ℕ) → is_number (b ∷ bs) ≡ true → 0 < length bs → 10 ^ length bs ≤ value_of (b ∷ bs)
long_value b bs h some = le_trans (times_one (digit_value b) (10 ^ length bs) (first_some b bs h some)) (at_least (0 * 10 + digit_value b) bs)

-- a shorter number is below a longer one
pub shorter : (a b : List ℕ) → is_number a ≡ true → is_number b ≡ true → length a < length b → value_of a < value_of b
shorter a [] p q less = absurd (omega arith)
shorter [] (c ∷ cs) p q less = absurd (cc)
shorter (x ∷ xs) (c ∷ cs) p q less =
    let small = digits_value_short own (x ∷ xs) (length cs) (digits_of (x ∷ xs) p) (omega arith) in
    let big = long_value c cs q (omega arith) in
    omega arith

pub as_long : (a b : List ℕ) → is_number a ≡ true → is_number b ≡ true → length a ≡ length b → is_lt (slice_cmp nat_cmp a b) ≡ ltb (value_of a) (value_of b)
as_long a b p q same = same_length 0 a b same (digits_of a p) (digits_of b q)

pub by_length : (a b : List ℕ) → is_number a ≡ true → is_number b ≡ true → eqb (length a) (length b) ≡ false → ltb (length a) (length b) ≡ ltb (value_of a) (value_of b)
by_length a b p q other = elim (cases_lt (length a) (length b)) [
  | inl less ↦ lt-ltb (length a) (length b) less ∙ sym (lt-ltb (value_of a) (value_of b) (shorter a b p q less))
  | inr most ↦
      let less : length b < length a = grind (arith, nat_tests) in
      let under = shorter b a q p less in
      more_is (length a) (length b) most ∙ sym (more_is (value_of a) (value_of b) (omega arith))
]
