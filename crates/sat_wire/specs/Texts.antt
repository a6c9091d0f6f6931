-- Bytes with their count before them, and the values of items.
use Rattle.std.proofs.Common.{◌≡◌, ℕ, suc, ◌+◌, ◌<◌, ◌≤◌, Bool, true, false, ◌&&◌, List, [], ◌∷◌, ◌++◌, length, take}
use Rattle.std.proofs.Common.{drop, Ok, Err, refl, sym, ◌∙◌, ap, arith, append_assoc, length-append, take-append-drop}
use Rattle.std.specs.Prelude.{nat_le, nat_lt, if◌then◌else◌}
use Rattle.std.specs.List.{list_all}
use Rattle.std.specs.Int.{w16, to_be_bytes}
use Rattle.std.proofs.lemmas.Bool.Decides.{nat_tests}
use Rattle.std.proofs.lemmas.List.{take_at, drop_at, length-take-le}
use Rattle.sat_label.specs.Text.{is_between, is_value}
use Rattle.sat_wire.specs.declared.fault.Cause.TheVariants as cause
use Rattle.sat_wire.specs.declared.fault.Stop.{Stop}
use Rattle.sat_wire.specs.Code.{Read, Code, AreBytes, IsExact, all_fit, byte, number16, checked, ended, bytes_at, text}
use Rattle.sat_wire.specs.Exact.{taken_bytes, rest_bytes, went_on, goes_on, part_stops, and_both, and_is, passed}
use Rattle.sat_wire.specs.Exact.{ends_inside, exact16, exact_checked}

-- ---- bytes

all_bytes : (xs : List ℕ) → AreBytes xs → all_fit byte xs ≡ true
all_bytes [] small = refl
all_bytes (x ∷ xs) small = let first : x < 256 = small 0 in
    and_is (nat_lt x 256) (all_fit byte xs) (grind (arith, nat_tests, first)) (all_bytes xs (λ i. small (suc i)))

bytes_again : (xs rest : List ℕ) → bytes_at (length xs) (xs ++ rest) ≡ Ok (xs, rest)
bytes_again xs rest =
    let whole = length-append xs rest in
    let long : nat_lt (length (xs ++ rest)) (length xs) ≡ false = grind (arith, nat_tests, whole) in
    ap (λ (b : Bool). let o : Read (List ℕ) =
    (if b then ended else Ok (take (length xs) (xs ++ rest), drop (length xs) (xs ++ rest))) in o) long
    ∙ ap (λ (l : List ℕ). let o : Read (List ℕ) =
    Ok (l, drop (length xs) (xs ++ rest)) in o) (take_at xs rest (length xs) refl)
    ∙ ap (λ (l : List ℕ). let o : Read (List ℕ) = Ok (xs, l) in o) (drop_at xs rest (length xs) refl)

-- what was taken of some bytes
record Taken (n : ℕ) (bytes rest xs : List ℕ) : Type 0 where
  many : length xs ≡ n
  split : bytes ≡ xs ++ rest
  fit : all_fit byte xs ≡ true

bytes_only : (n : ℕ) (bytes rest xs : List ℕ) → AreBytes bytes → bytes_at n bytes ≡ Ok (xs, rest)
    → Taken n bytes rest xs
bytes_only n bytes rest xs small is =
    let p =
    passed {A = List ℕ × List ℕ} (nat_lt (length bytes) n) ended (take n bytes, drop n bytes) (xs, rest) _ refl is in
    let enough : n ≤ length bytes = grind (arith, nat_tests, p.0) in
    let first : take n bytes ≡ xs = ap (λ (q : List ℕ × List ℕ). q.0) p.1 in
    let after : drop n bytes ≡ rest = ap (λ (q : List ℕ × List ℕ). q.1) p.1 in
    record {
      many = ap length (sym first) ∙ length-take-le n bytes enough;
      split = sym (take-append-drop n bytes) ∙ (λ i. first i ++ after i);
      fit = ap (all_fit byte) (sym first) ∙ all_bytes (take n bytes) (taken_bytes n bytes small);
    }

text_again : (xs rest : List ℕ) → text.fits xs ≡ true → text.read (text.spell xs ++ rest) ≡ Ok (xs, rest)
text_again xs rest fits =
    let two = and_both (nat_lt (length xs) 65536) (all_fit byte xs) fits in
    ap text.read (append_assoc (to_be_bytes w16 (length xs)) xs rest)
    ∙ goes_on (number16.read (to_be_bytes w16 (length xs) ++ (xs ++ rest))) (length xs, xs ++ rest)
    (λ n. bytes_at n.0 n.1) (exact16.again (length xs) (xs ++ rest) two.0)
    ∙ bytes_again xs rest

text_only : (bytes rest xs : List ℕ) → AreBytes bytes → text.read bytes ≡ Ok (xs, rest)
    → (bytes ≡ text.spell xs ++ rest) × (text.fits xs ≡ true)
text_only bytes rest xs small is =
    let n = went_on (number16.read bytes) (λ n. bytes_at n.0 n.1) (xs, rest) is in
    let front = exact16.only bytes n.0.1 n.0.0 small n.1 in
    let taken = bytes_only n.0.0 n.0.1 rest xs (rest_bytes (to_be_bytes w16 n.0.0) n.0.1 bytes front.0 small) n.2 in (
      front.0 ∙ ap (λ (l : List ℕ). to_be_bytes w16 n.0.0 ++ l) taken.split
          ∙ ap (λ (k : ℕ). to_be_bytes w16 k ++ (xs ++ rest)) (sym taken.many)
          ∙ sym (append_assoc (to_be_bytes w16 (length xs)) xs rest),
      and_is (nat_lt (length xs) 65536) (all_fit byte xs) (ap number16.fits taken.many ∙ front.1) taken.fit,
    )

text_short : (xs : List ℕ) → text.fits xs ≡ true → length (to_be_bytes w16 (length xs) ++ xs) ≤ 2 + 65535
text_short xs fits =
    let two = and_both (nat_lt (length xs) 65536) (all_fit byte xs) fits in
    let few : length xs < 65536 = grind (arith, nat_tests, two.0) in
    omega (arith, length-append (to_be_bytes w16 (length xs)) xs, exact16.short (length xs) two.0, few)

text_inside : (bytes : List ℕ) (stop : Stop) → AreBytes bytes → text.read bytes ≡ Err stop → stop.left ≤ length bytes
text_inside bytes stop small is =
    part_stops (number16.read bytes) (λ n. bytes_at n.0 n.1) stop (length bytes) is (exact16.inside bytes stop small)
    (λ n read next. ends_inside (nat_lt (length n.1) n.0) _ stop (length bytes) next)

pub exact_text : IsExact text
exact_text = record { again = text_again; only = text_only; short = text_short; inside = text_inside }

-- ---- values

-- 1 to 256 bytes from 33 to 126, with their count in two bytes before them
abbrev pub value : Code (List ℕ)
value = record { spell = text.spell; read = (checked is_value cause.Value text).read; fits = is_value; most = 258 }

test_both : (a b : Bool) → (a && b) ≡ true → (a ≡ true) × (b ≡ true)
test_both true b is = (refl, is)
test_both false b is = cc

visible : (xs : List ℕ) → list_all (is_between 33 126) xs ≡ true → all_fit byte xs ≡ true
visible [] is = refl
visible (x ∷ xs) is =
    let two = test_both (is_between 33 126 x) (list_all (is_between 33 126) xs) is in
    let range = test_both (nat_le 33 x) (nat_le x 126) two.0 in
    let top = range.1 in
    and_is (nat_lt x 256) (all_fit byte xs) (grind (arith, nat_tests, top)) (visible xs two.1)

pub value_few : (xs : List ℕ) → is_value xs ≡ true → length xs ≤ 256
value_few xs is =
    let parts = test_both (nat_lt 0 (length xs)) (nat_le (length xs) 256 && list_all (is_between 33 126) xs) is in
    let few = (test_both (nat_le (length xs) 256) (list_all (is_between 33 126) xs) parts.1).0 in
    grind (arith, nat_tests, few)

-- a value is a text
pub value_fits : (xs : List ℕ) → is_value xs ≡ true → text.fits xs ≡ true
value_fits xs is =
    let few = value_few xs is in
    let parts = test_both (nat_lt 0 (length xs)) (nat_le (length xs) 256 && list_all (is_between 33 126) xs) is in
    and_is (nat_lt (length xs) 65536) (all_fit byte xs) (grind (arith, nat_tests, few))
    (visible xs (test_both (nat_le (length xs) 256) (list_all (is_between 33 126) xs) parts.1).1)

pub value_short : (xs : List ℕ) → is_value xs ≡ true → length (text.spell xs) ≤ 258
value_short xs is = omega (arith, length-append (to_be_bytes w16 (length xs)) xs, value_few xs is)

pub exact_value : IsExact value
exact_value =
    let code : IsExact (checked is_value cause.Value text) = exact_checked is_value cause.Value text exact_text in
    record {
      again = λ x rest fits. code.again x rest (and_is (text.fits x) (is_value x) (value_fits x fits) fits);
      only = λ bytes rest x small is. let p =
          code.only bytes rest x small is in (p.0, (and_both (text.fits x) (is_value x) p.1).1);
      short = value_short;
      inside = code.inside;
    }
