-- Each code is exact where its parts are.
use Rattle.std.proofs.Common.{◌≡◌, ℕ, zero, suc, ◌+◌, ◌*◌, ◌<◌, ◌≤◌, ◌^◌, Bool, true, false, List, [], ◌∷◌, ◌++◌}
use Rattle.std.proofs.Common.{length, take, drop, Option, Some, None, Ok, Err, refl, sym, ◌∙◌, ap, subst, arith, inl}
use Rattle.std.proofs.Common.{inr, append_assoc, length-append, take-append-drop}
use native.Mathlib.Nat.{mul-le-mul_right, suc-mul}
use Rattle.std.specs.Prelude.{slice_index, nat_lt, if◌then◌else◌}
use Rattle.std.specs.declared.result.Result.{Result}
use Rattle.std.specs.List.{flat_map}
use Rattle.std.specs.Int.{w16, w64, to_be_bytes, from_be_bytes}
use Rattle.std.proofs.lemmas.Nat.{be_bytes_2, be_bytes_8, from_be_bytes-to_be_bytes_2, from_be_bytes-to_be_bytes_8}
use Rattle.std.proofs.lemmas.Bool.{cases_lt}
use Rattle.std.proofs.lemmas.Bool.Decides.{nat_tests}
use Rattle.std.proofs.lemmas.List.{drop_at, get_or-take, get_or-drop, get_or_past, length-take, length-take-le}
use Rattle.sat_wire.specs.declared.fault.Cause.{Cause}
use Rattle.sat_wire.specs.declared.fault.Stop.{Stop}
use Rattle.sat_wire.specs.Code.{Read, Code, AreBytes, IsExact, and_then, both_fit, all_fit, byte_at, byte, number16}
use Rattle.sat_wire.specs.Code.{number64, nothing, both, mapped, checked, made, stopped, ended, spelled_if, fits_if}
use Rattle.sat_wire.specs.Code.{read_if, optional, read_members, counted}

pub taken_bytes : (n : ℕ) (bytes : List ℕ) → AreBytes bytes → AreBytes (take n bytes)
taken_bytes n bytes small i = elim (cases_lt i n) [
  | inl below ↦ rw (get_or-take n bytes i 0 below) (small i)
  | inr past ↦ let none : slice_index (take n bytes) i ≡ 0 =
      get_or_past (take n bytes) i 0 (omega (arith, length-take n bytes)) in omega (arith, none)
]

-- what stands behind a front of bytes is bytes
pub rest_bytes : (front rest bytes : List ℕ) → bytes ≡ front ++ rest → AreBytes bytes → AreBytes rest
rest_bytes front rest bytes is small i =
    let there : slice_index (drop (length front) bytes) i ≡ slice_index rest i =
    ap (λ (l : List ℕ). slice_index l i) (ap (drop (length front)) is ∙ drop_at front rest (length front) refl) in
    rw (← there, get_or-drop (length front) bytes i 0) (small (length front + i))

-- what stands behind a front is no longer than the whole
pub rest_short : (front rest bytes : List ℕ) → bytes ≡ front ++ rest → length rest ≤ length bytes
rest_short front rest bytes is = let whole : length bytes ≡ length (front ++ rest) =
    ap length is in omega (arith, whole, length-append front rest)

-- what was gone on with
pub went_on : {A B : Type 0} (o : Result A Stop) (go_on : A → Result B Stop) (y : B) → and_then o go_on ≡ Ok y
    → (x : A) × (o ≡ Ok x) × (go_on x ≡ Ok y)
went_on (Err stop) go_on y is = cc
went_on (Ok x) go_on y is = (x, refl, is)

pub goes_on : {A B : Type 0} (o : Result A Stop) (x : A) (go_on : A → Result B Stop) → o ≡ Ok x
    → and_then o go_on ≡ go_on x
goes_on {A} {B} o x go_on is = ap (λ (p : Result A Stop). and_then p go_on) is

-- where a reading of parts stops, one of the parts does
pub part_stops : {A B : Type 0} (o : Result A Stop) (go_on : A → Result B Stop) (stop : Stop) (most : ℕ)
    → and_then o go_on ≡ Err stop
    → (o ≡ Err stop → stop.left ≤ most) → ((x : A) → o ≡ Ok x → go_on x ≡ Err stop → stop.left ≤ most)
    → stop.left ≤ most
part_stops (Err other) go_on stop most is first next = first (cc)
part_stops (Ok x) go_on stop most is first next = next x refl is

pub and_both : (a b : Bool) → both_fit a b ≡ true → (a ≡ true) × (b ≡ true)
and_both true b is = (refl, is)
and_both false b is = cc

pub and_is : (a b : Bool) → a ≡ true → b ≡ true → both_fit a b ≡ true
and_is true b p q = q
and_is false b p q = cc

-- a test was passed
pub passed : {A : Type 0} (b : Bool) (o : Result A Stop) (x y : A) (stop : Stop) → o ≡ Err stop
    → (if b then o else Ok x) ≡ Ok y → (b ≡ false) × (x ≡ y)
passed true o x y stop none is = cc
passed false o x y stop none is = (refl, cc)

pub stop_is : {A : Type 0} (a b : Stop) → (let o : Result A Stop = Err a in o) ≡ Err b → a ≡ b
stop_is a b is = cc

-- ---- numbers

byte_only : (bytes rest : List ℕ) (x : ℕ) → AreBytes bytes → byte_at bytes ≡ Ok (x, rest)
    → (bytes ≡ x ∷ rest) × (nat_lt x 256 ≡ true)
byte_only [] rest x small is = cc
byte_only (b ∷ more) rest x small is =
    let same : (let p : ℕ × List ℕ = (b, more) in p) ≡ (x, rest) = cc in
    let first : b ≡ x = ap (λ (p : ℕ × List ℕ). p.0) same in
    let after : more ≡ rest = ap (λ (p : ℕ × List ℕ). p.1) same in
    let below : b < 256 = small 0 in
    ((λ i. first i ∷ after i), grind (arith, nat_tests, first, below))

-- a reading that ended had no byte left
pub none_left : {A : Type 0} (stop : Stop) (n : ℕ) → (let o : Result A Stop = ended in o) ≡ Err stop → stop.left ≤ n
none_left stop n is = let left : 0 ≡ stop.left = ap (λ (s : Stop). s.left) (stop_is _ stop is) in omega (arith, left)

byte_inside : (bytes : List ℕ) (stop : Stop) → AreBytes bytes → byte_at bytes ≡ Err stop → stop.left ≤ length bytes
byte_inside [] stop small is = none_left stop 0 is
byte_inside (b ∷ more) stop small is = cc

pub exact_byte : IsExact byte
exact_byte =
    record { again = λ x rest fits. refl; only = byte_only; short = λ x fits. omega arith; inside = byte_inside }

-- a reading that ends where there are too few bytes stops at the end
pub ends_inside : {A : Type 0} (b : Bool) (x : A) (stop : Stop) (n : ℕ) → (if b then ended else Ok x) ≡ Err stop
    → stop.left ≤ n
ends_inside true x stop n is = none_left stop n is
ends_inside false x stop n is = cc

again16 : (n : ℕ) (rest : List ℕ) → number16.fits n ≡ true → number16.read (to_be_bytes w16 n ++ rest) ≡ Ok (n, rest)
again16 n rest fits =
    let short : n < 2 ^ 16 = grind (arith, nat_tests, fits) in
    let long : nat_lt (length (to_be_bytes w16 n ++ rest)) 2 ≡ false = grind (arith, nat_tests) in
    ap (λ (b : Bool). let x : Read ℕ =
    (if b then ended else Ok (from_be_bytes w16 (to_be_bytes w16 n), rest)) in x) long
    ∙ ap (λ (k : ℕ). let x : Read ℕ = Ok (k, rest) in x) (from_be_bytes-to_be_bytes_2 n short)

only16 : (bytes rest : List ℕ) (n : ℕ) → AreBytes bytes → number16.read bytes ≡ Ok (n, rest)
    → (bytes ≡ to_be_bytes w16 n ++ rest) × (number16.fits n ≡ true)
only16 bytes rest n small is =
    let p =
    passed {A = ℕ × List ℕ} (nat_lt (length bytes) 2) ended (from_be_bytes w16 (take 2 bytes), drop 2 bytes) (n, rest)
    _ refl is in
    let enough : 2 ≤ length bytes = grind (arith, nat_tests, p.0) in
    let value : n ≡ from_be_bytes w16 (take 2 bytes) = ap (λ (q : ℕ × List ℕ). q.0) (sym p.1) in
    let after : drop 2 bytes ≡ rest = ap (λ (q : ℕ × List ℕ). q.1) p.1 in
    let taken = taken_bytes 2 bytes small in
    let spelled : to_be_bytes w16 n ≡ take 2 bytes =
    be_bytes_2 (take 2 bytes) n (length-take-le 2 bytes enough) taken value in
    let below : n < 65536 = omega (arith, value, taken 0, taken 1) in (
      sym (take-append-drop 2 bytes) ∙ ap (λ (l : List ℕ). l ++ drop 2 bytes) (sym spelled)
          ∙ ap (λ (l : List ℕ). to_be_bytes w16 n ++ l) after,
      grind (arith, nat_tests, below),
    )

pub exact16 : IsExact number16
exact16 =
    record {
      again = again16;
      only = only16;
      short = λ x fits. omega arith;
      inside = λ bytes stop small is. ends_inside (nat_lt (length bytes) 2) _ stop (length bytes) is;
    }

again64 : (n : ℕ) (rest : List ℕ) → number64.fits n ≡ true → number64.read (to_be_bytes w64 n ++ rest) ≡ Ok (n, rest)
again64 n rest fits =
    let short : n < 2 ^ 64 = grind (arith, nat_tests, fits) in
    let long : nat_lt (length (to_be_bytes w64 n ++ rest)) 8 ≡ false = grind (arith, nat_tests) in
    ap (λ (b : Bool). let x : Read ℕ =
    (if b then ended else Ok (from_be_bytes w64 (to_be_bytes w64 n), rest)) in x) long
    ∙ ap (λ (k : ℕ). let x : Read ℕ = Ok (k, rest) in x) (from_be_bytes-to_be_bytes_8 n short)

only64 : (bytes rest : List ℕ) (n : ℕ) → AreBytes bytes → number64.read bytes ≡ Ok (n, rest)
    → (bytes ≡ to_be_bytes w64 n ++ rest) × (number64.fits n ≡ true)
only64 bytes rest n small is =
    let p =
    passed {A = ℕ × List ℕ} (nat_lt (length bytes) 8) ended (from_be_bytes w64 (take 8 bytes), drop 8 bytes) (n, rest)
    _ refl is in
    let enough : 8 ≤ length bytes = grind (arith, nat_tests, p.0) in
    let value : n ≡ from_be_bytes w64 (take 8 bytes) = ap (λ (q : ℕ × List ℕ). q.0) (sym p.1) in
    let after : drop 8 bytes ≡ rest = ap (λ (q : ℕ × List ℕ). q.1) p.1 in
    let taken = taken_bytes 8 bytes small in
    let spelled : to_be_bytes w64 n ≡ take 8 bytes =
    be_bytes_8 (take 8 bytes) n (length-take-le 8 bytes enough) taken value in
    let below : n < 18446744073709551616 =
    omega (arith, value, taken 0, taken 1, taken 2, taken 3, taken 4, taken 5, taken 6, taken 7) in (
      sym (take-append-drop 8 bytes) ∙ ap (λ (l : List ℕ). l ++ drop 8 bytes) (sym spelled)
          ∙ ap (λ (l : List ℕ). to_be_bytes w64 n ++ l) after,
      grind (arith, nat_tests, below),
    )

pub exact64 : IsExact number64
exact64 =
    record {
      again = again64;
      only = only64;
      short = λ x fits. omega arith;
      inside = λ bytes stop small is. ends_inside (nat_lt (length bytes) 8) _ stop (length bytes) is;
    }

-- the greatest numbers
pub byte_high : (n : ℕ) → byte.fits n ≡ true → n ≤ 255
byte_high n fits = grind (arith, nat_tests, fits)

pub high16 : (n : ℕ) → number16.fits n ≡ true → n ≤ 65535
high16 n fits = grind (arith, nat_tests, fits)

-- ---- values of parts

pub exact_nothing : IsExact nothing
exact_nothing = record {
  again = λ x rest fits. refl;
  only =
      λ bytes rest x small is. (
        ap (λ (z : Unit {0} × List ℕ). z.1) (let same : (let z : Unit {0} × List ℕ = (tt, bytes) in z)
            ≡ (x, rest) = cc in same),
        refl,
      );
  short = λ x fits. omega arith;
  inside = λ bytes stop small is. cc;
}

module _ {A B : Type 0} (first : Code A) (second : Code B) (p : IsExact first) (q : IsExact second) where
  both_again : (pair : A × B) (rest : List ℕ) → (both first second).fits pair ≡ true
      → (both first second).read ((both first second).spell pair ++ rest) ≡ Ok (pair, rest)
  both_again pair rest fits =
      let two = and_both (first.fits pair.0) (second.fits pair.1) fits in
      ap (both first second).read (append_assoc (first.spell pair.0) (second.spell pair.1) rest)
      ∙ goes_on (first.read (first.spell pair.0 ++ (second.spell pair.1 ++ rest))) (pair.0, second.spell pair.1 ++ rest)
      (λ x. and_then (second.read x.1) (λ y. Ok ((x.0, y.0), y.1)))
      (p.again pair.0 (second.spell pair.1 ++ rest) two.0)
      ∙ goes_on (second.read (second.spell pair.1 ++ rest)) (pair.1, rest) (λ y. Ok ((pair.0, y.0), y.1))
      (q.again pair.1 rest two.1)

  both_only : (bytes rest : List ℕ) (pair : A × B) → AreBytes bytes → (both first second).read bytes ≡ Ok (pair, rest)
      → (bytes ≡ (both first second).spell pair ++ rest) × ((both first second).fits pair ≡ true)
  both_only bytes rest pair small is =
      let x =
      went_on (first.read bytes) (λ x. and_then (second.read x.1) (λ y. Ok ((x.0, y.0), y.1))) (pair, rest) is in
      let y = went_on (second.read x.0.1) (λ y. Ok ((x.0.0, y.0), y.1)) (pair, rest) x.2 in
      let front = p.only bytes x.0.1 x.0.0 small x.1 in
      let back = q.only x.0.1 y.0.1 y.0.0 (rest_bytes (first.spell x.0.0) x.0.1 bytes front.0 small) y.1 in
      let same : (let z : (A × B) × List ℕ = ((x.0.0, y.0.0), y.0.1) in z) ≡ (pair, rest) = cc (y.2) in
      subst (λ (z : (A × B) × List ℕ). (bytes ≡ (first.spell z.0.0 ++ second.spell z.0.1) ++ z.1)
      × (both_fit (first.fits z.0.0) (second.fits z.0.1) ≡ true)) same (
        front.0 ∙ ap (λ (l : List ℕ). first.spell x.0.0 ++ l) back.0
            ∙ sym (append_assoc (first.spell x.0.0) (second.spell y.0.0) y.0.1),
        and_is (first.fits x.0.0) (second.fits y.0.0) front.1 back.1,
      )

  both_short : (pair : A × B) → (both first second).fits pair ≡ true
      → length (first.spell pair.0 ++ second.spell pair.1) ≤ first.most + second.most
  both_short pair fits =
      let two = and_both (first.fits pair.0) (second.fits pair.1) fits in
      omega
      (arith, length-append (first.spell pair.0) (second.spell pair.1), p.short pair.0 two.0, q.short pair.1 two.1)

  both_inside : (bytes : List ℕ) (stop : Stop) → AreBytes bytes → (both first second).read bytes ≡ Err stop
      → stop.left ≤ length bytes
  both_inside bytes stop small is =
      part_stops (first.read bytes) (λ x. and_then (second.read x.1) (λ y. Ok ((x.0, y.0), y.1))) stop (length bytes) is
      (p.inside bytes stop small)
      (λ x read next.
      let front = p.only bytes x.1 x.0 small read in
      part_stops (second.read x.1) (λ y. Ok ((x.0, y.0), y.1)) stop (length bytes) next
      (λ at. let inner = q.inside x.1 stop (rest_bytes (first.spell x.0) x.1 bytes front.0 small) at in
      omega (arith, inner, rest_short (first.spell x.0) x.1 bytes front.0))
      (λ y read wrong. cc))

  pub exact_both : IsExact (both first second)
  exact_both = record { again = both_again; only = both_only; short = both_short; inside = both_inside }

module _ {A B : Type 0} (to : A → B) where
  -- what was made was made of something that was read
  pub made_of : (o : Read A) (y : B) (rest : List ℕ) → made to o ≡ Ok (y, rest)
      → (x : A) × (o ≡ Ok (x, rest)) × (y ≡ to x)
  made_of o y rest is =
      let x = went_on o (λ x. Ok (to x.0, x.1)) (y, rest) is in
      let same : (let z : B × List ℕ = (to x.0.0, x.0.1) in z) ≡ (y, rest) = cc (x.2) in (
        x.0.0,
        x.1 ∙ ap (λ (l : List ℕ). let r : Read A = Ok (x.0.0, l) in r) (ap (λ (z : B × List ℕ). z.1) same),
        ap (λ (z : B × List ℕ). z.0) (sym same),
      )

  -- where that stops, the reading does
  pub made_stops : (o : Read A) (stop : Stop) → made to o ≡ Err stop → o ≡ Err stop
  made_stops (Err other) stop is = cc
  made_stops (Ok x) stop is = cc

  pub made_goes : (o : Read A) (x : A) (rest : List ℕ) → o ≡ Ok (x, rest) → made to o ≡ Ok (to x, rest)
  made_goes o x rest is = goes_on o (x, rest) (λ x. Ok (to x.0, x.1)) is

  module _ (from : B → A) (there : (y : B) → to (from y) ≡ y) (back : (x : A) → from (to x) ≡ x) (code : Code A)
      (p : IsExact code) where
    mapped_only : (bytes rest : List ℕ) (y : B) → AreBytes bytes → (mapped to from code).read bytes ≡ Ok (y, rest)
        → (bytes ≡ code.spell (from y) ++ rest) × (code.fits (from y) ≡ true)
    mapped_only bytes rest y small is =
        let x = made_of (code.read bytes) y rest is in
        let front = p.only bytes rest x.0 small x.1 in
        let there : from y ≡ x.0 = ap from x.2 ∙ back x.0 in
        (front.0 ∙ ap (λ (a : A). code.spell a ++ rest) (sym there), ap code.fits there ∙ front.1)

    pub exact_mapped : IsExact (mapped to from code)
    exact_mapped = record {
      again =
          λ y rest fits. made_goes (code.read (code.spell (from y) ++ rest)) (from y) rest (p.again (from y) rest fits)
          ∙ ap (λ (z : B). let o : Read B = Ok (z, rest) in o) (there y);
      only = mapped_only;
      short = λ y fits. p.short (from y) fits;
      inside = λ bytes stop small is. p.inside bytes stop small (made_stops (code.read bytes) stop is);
    }

module _ {A : Type 0} (test : A → Bool) (why : Cause) (code : Code A) (p : IsExact code) where
  -- where a test is passed
  tested : (b : Bool) (x y : A × List ℕ) (n : ℕ) → (if b then Ok x else stopped why n) ≡ Ok y → (b ≡ true) × (x ≡ y)
  tested true x y n is = (refl, cc)
  tested false x y n is = cc

  test_stops : (b : Bool) (x : A × List ℕ) (stop : Stop) (n : ℕ) → (if b then Ok x else stopped why n) ≡ Err stop
      → stop.left ≤ n
  test_stops true x stop n is = cc
  test_stops false x stop n is = let left : n ≡ stop.left =
      ap (λ (s : Stop). s.left) (stop_is _ stop is) in omega (arith, left)

  checked_again : (x : A) (rest : List ℕ) → both_fit (code.fits x) (test x) ≡ true
      → (checked test why code).read (code.spell x ++ rest) ≡ Ok (x, rest)
  checked_again x rest fits =
      let two = and_both (code.fits x) (test x) fits in
      let n = length (code.spell x ++ rest) in
      goes_on (code.read (code.spell x ++ rest)) (x, rest) (λ y. if test y.0 then Ok y else stopped why n)
      (p.again x rest two.0)
      ∙ ap (λ (b : Bool). let o : Read A = (if b then Ok (x, rest) else stopped why n) in o) two.1

  checked_only : (bytes rest : List ℕ) (x : A) → AreBytes bytes → (checked test why code).read bytes ≡ Ok (x, rest)
      → (bytes ≡ code.spell x ++ rest) × (both_fit (code.fits x) (test x) ≡ true)
  checked_only bytes rest x small is =
      let y = went_on (code.read bytes) (λ y. if test y.0 then Ok y else stopped why (length bytes)) (x, rest) is in
      let good = tested (test y.0.0) y.0 (x, rest) (length bytes) y.2 in
      let front = p.only bytes y.0.1 y.0.0 small y.1 in
      subst (λ (z : A × List ℕ). (bytes ≡ code.spell z.0 ++ z.1) × (both_fit (code.fits z.0) (test z.0) ≡ true)) good.1
      (front.0, and_is (code.fits y.0.0) (test y.0.0) front.1 good.0)

  pub exact_checked : IsExact (checked test why code)
  exact_checked = record {
    again = checked_again;
    only = checked_only;
    short = λ x fits. p.short x (and_both (code.fits x) (test x) fits).0;
    inside =
        λ bytes stop small is. part_stops (code.read bytes) (λ y. if test y.0 then Ok y else stopped why (length bytes))
        stop (length bytes) is (p.inside bytes stop small)
        (λ y read at. test_stops (test y.0) y stop (length bytes) at);
  }

module _ {A : Type 0} (code : Code A) (p : IsExact code) where
  if_again : (o : Option A) (rest : List ℕ) → fits_if code o ≡ true
      → read_if code (spelled_if code o ++ rest) ≡ Ok (o, rest)
  if_again None rest fits = refl
  if_again (Some x) rest fits = made_goes Some (code.read (code.spell x ++ rest)) x rest (p.again x rest fits)

  if_only : (bytes rest : List ℕ) (o : Option A) → AreBytes bytes → read_if code bytes ≡ Ok (o, rest)
      → (bytes ≡ spelled_if code o ++ rest) × (fits_if code o ≡ true)
  if_only [] rest o small is = cc
  if_only (zero ∷ more) rest o small is =
      let same : (let z : Option A × List ℕ = (None, more) in z) ≡ (o, rest) = cc in
      subst (λ (z : Option A × List ℕ). (0 ∷ more ≡ spelled_if code z.0 ++ z.1) × (fits_if code z.0 ≡ true)) same
      (refl, refl)
  if_only (suc zero ∷ more) rest o small is =
      let x = made_of Some (code.read more) o rest is in
      let front = p.only more rest x.0 (λ i. small (suc i)) x.1 in
      subst (λ (z : Option A). (1 ∷ more ≡ spelled_if code z ++ rest) × (fits_if code z ≡ true)) (sym x.2)
      (ap (λ (l : List ℕ). 1 ∷ l) front.0, front.1)
  if_only (suc (suc n) ∷ more) rest o small is = cc

  if_short : (o : Option A) → fits_if code o ≡ true → length (spelled_if code o) ≤ 1 + code.most
  if_short None fits = omega arith
  if_short (Some x) fits = omega (arith, p.short x fits)

  if_inside : (bytes : List ℕ) (stop : Stop) → AreBytes bytes → read_if code bytes ≡ Err stop → stop.left ≤ length bytes
  if_inside [] stop small is = none_left stop 0 is
  if_inside (zero ∷ more) stop small is = cc
  if_inside (suc zero ∷ more) stop small is =
      omega (arith, p.inside more stop (λ i. small (suc i)) (made_stops Some (code.read more) stop is))
  if_inside (suc (suc n) ∷ more) stop small is = let left : suc (length more) ≡ stop.left =
      ap (λ (s : Stop). s.left) (stop_is _ stop is) in omega (arith, left)

  pub exact_optional : IsExact (optional code)
  exact_optional = record { again = if_again; only = if_only; short = if_short; inside = if_inside }

  -- ---- lists

  members_again : (xs : List A) (rest : List ℕ) → all_fit code xs ≡ true
      → read_members code (length xs) (flat_map code.spell xs ++ rest) ≡ Ok (xs, rest)
  members_again [] rest fits = refl
  members_again (x ∷ xs) rest fits =
      let two = and_both (code.fits x) (all_fit code xs) fits in
      let more = flat_map code.spell xs ++ rest in
      ap (read_members code (suc (length xs))) (append_assoc (code.spell x) (flat_map code.spell xs) rest)
      ∙ goes_on (code.read (code.spell x ++ more)) (x, more)
      (λ y. and_then (read_members code (length xs) y.1) (λ ys. Ok (y.0 ∷ ys.0, ys.1))) (p.again x more two.0)
      ∙ goes_on (read_members code (length xs) more) (xs, rest) (λ ys. Ok (x ∷ ys.0, ys.1))
      (members_again xs rest two.1)

  pub record Members (n : ℕ) (bytes rest : List ℕ) (xs : List A) : Type 0 where
    pub many : length xs ≡ n
    pub split : bytes ≡ flat_map code.spell xs ++ rest
    pub fit : all_fit code xs ≡ true

  members_only : (n : ℕ) (bytes rest : List ℕ) (xs : List A) → AreBytes bytes
      → read_members code n bytes ≡ Ok (xs, rest) → Members n bytes rest xs
  members_only zero bytes rest xs small is =
      let same : (let z : List A × List ℕ = ([], bytes) in z) ≡ (xs, rest) = cc in
      subst (λ (z : List A × List ℕ). Members 0 bytes z.1 z.0) same (record { many = refl; split = refl; fit = refl })
  members_only (suc n) bytes rest xs small is =
      let x =
      went_on (code.read bytes) (λ y. and_then (read_members code n y.1) (λ ys. Ok (y.0 ∷ ys.0, ys.1))) (xs, rest) is in
      let ys = went_on (read_members code n x.0.1) (λ ys. Ok (x.0.0 ∷ ys.0, ys.1)) (xs, rest) x.2 in
      let front = p.only bytes x.0.1 x.0.0 small x.1 in
      let others = members_only n x.0.1 ys.0.1 ys.0.0 (rest_bytes (code.spell x.0.0) x.0.1 bytes front.0 small) ys.1 in
      let same : (let z : List A × List ℕ = (x.0.0 ∷ ys.0.0, ys.0.1) in z) ≡ (xs, rest) = cc (ys.2) in
      subst (λ (z : List A × List ℕ). Members (suc n) bytes z.1 z.0) same (record {
        many = ap (λ (k : ℕ). suc k) others.many;
        split = front.0 ∙ ap (λ (l : List ℕ). code.spell x.0.0 ++ l) others.split
            ∙ sym (append_assoc (code.spell x.0.0) (flat_map code.spell ys.0.0) ys.0.1);
        fit = and_is (code.fits x.0.0) (all_fit code ys.0.0) front.1 others.fit;
      })

  pub members_short : (xs : List A) → all_fit code xs ≡ true → length (flat_map code.spell xs) ≤ length xs * code.most
  members_short [] fits = omega arith
  members_short (x ∷ xs) fits =
      let two = and_both (code.fits x) (all_fit code xs) fits in
      let first = p.short x two.0 in
      let others = members_short xs two.1 in
      let step = suc-mul (length xs) code.most in
      let whole : length (code.spell x ++ flat_map code.spell xs) ≤ suc (length xs) * code.most =
      omega (arith, length-append (code.spell x) (flat_map code.spell xs), first, others, step) in
      whole

  members_inside : (n : ℕ) (bytes : List ℕ) (stop : Stop) → AreBytes bytes → read_members code n bytes ≡ Err stop
      → stop.left ≤ length bytes
  members_inside zero bytes stop small is = cc
  members_inside (suc n) bytes stop small is =
      part_stops (code.read bytes) (λ y. and_then (read_members code n y.1) (λ ys. Ok (y.0 ∷ ys.0, ys.1))) stop
      (length bytes) is
      (p.inside bytes stop small)
      (λ x read next.
      let front = p.only bytes x.1 x.0 small read in
      part_stops (read_members code n x.1) (λ ys. Ok (x.0 ∷ ys.0, ys.1)) stop (length bytes) next
      (λ at. let inner = members_inside n x.1 stop (rest_bytes (code.spell x.0) x.1 bytes front.0 small) at in
      omega (arith, inner, rest_short (code.spell x.0) x.1 bytes front.0))
      (λ ys read wrong. cc))

  module _ (count : Code ℕ) (top : ℕ) (q : IsExact count) (high : (n : ℕ) → count.fits n ≡ true → n ≤ top) where
    counted_again : (xs : List A) (rest : List ℕ) → (counted count top code).fits xs ≡ true
        → (counted count top code).read ((counted count top code).spell xs ++ rest) ≡ Ok (xs, rest)
    counted_again xs rest fits =
        let two = and_both (count.fits (length xs)) (all_fit code xs) fits in
        let more = flat_map code.spell xs ++ rest in
        ap (counted count top code).read (append_assoc (count.spell (length xs)) (flat_map code.spell xs) rest)
        ∙ goes_on (count.read (count.spell (length xs) ++ more)) (length xs, more) (λ n. read_members code n.0 n.1)
        (q.again (length xs) more two.0)
        ∙ members_again xs rest two.1

    counted_only : (bytes rest : List ℕ) (xs : List A) → AreBytes bytes
        → (counted count top code).read bytes ≡ Ok (xs, rest) → (bytes ≡ (counted count top code).spell xs ++ rest)
        × ((counted count top code).fits xs ≡ true)
    counted_only bytes rest xs small is =
        let n = went_on (count.read bytes) (λ n. read_members code n.0 n.1) (xs, rest) is in
        let front = q.only bytes n.0.1 n.0.0 small n.1 in
        let members =
        members_only n.0.0 n.0.1 rest xs (rest_bytes (count.spell n.0.0) n.0.1 bytes front.0 small) n.2 in (
          front.0 ∙ ap (λ (l : List ℕ). count.spell n.0.0 ++ l) members.split
              ∙ ap (λ (k : ℕ). count.spell k ++ (flat_map code.spell xs ++ rest)) (sym members.many)
              ∙ sym (append_assoc (count.spell (length xs)) (flat_map code.spell xs) rest),
          and_is (count.fits (length xs)) (all_fit code xs) (ap count.fits members.many ∙ front.1) members.fit,
        )

    counted_short : (xs : List A) → (counted count top code).fits xs ≡ true
        → length (count.spell (length xs) ++ flat_map code.spell xs) ≤ count.most + top * code.most
    counted_short xs fits =
        let two = and_both (count.fits (length xs)) (all_fit code xs) fits in
        let first = q.short (length xs) two.0 in
        let others = members_short xs two.1 in
        let bound : length xs * code.most ≤ top * code.most = mul-le-mul_right code.most (high (length xs) two.0) in
        omega (arith, length-append (count.spell (length xs)) (flat_map code.spell xs), first, others, bound)

    counted_inside : (bytes : List ℕ) (stop : Stop) → AreBytes bytes → (counted count top code).read bytes ≡ Err stop
        → stop.left ≤ length bytes
    counted_inside bytes stop small is =
        part_stops (count.read bytes) (λ n. read_members code n.0 n.1) stop (length bytes) is
        (q.inside bytes stop small)
        (λ n read next.
        let front = q.only bytes n.1 n.0 small read in
        let inner = members_inside n.0 n.1 stop (rest_bytes (count.spell n.0) n.1 bytes front.0 small) next in
        omega (arith, inner, rest_short (count.spell n.0) n.1 bytes front.0))

    pub exact_counted : IsExact (counted count top code)
    exact_counted =
        record { again = counted_again; only = counted_only; short = counted_short; inside = counted_inside }
