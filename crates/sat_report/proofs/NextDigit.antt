-- The digits of the next number.
use Rattle.std.proofs.Common.{◌≡◌, ℕ, ◌+◌, ◌-◌, ◌/◌, ◌%◌, ◌^◌, ◌<◌, min, List, [], ◌∷◌, ◌++◌, Option, Some, None, length, drop, slice_set, get_or, sym, ap, ◌∙◌, inl, inr, arith, eq-zero-or-pos, length-append}
use Rattle.std.specs.Fmt.{decimal}
use Rattle.sat_report.specs.Frames.{next_front}
use Rattle.std.proofs.lemmas.Fmt.{decimal_digit, decimal_step}
use Rattle.std.proofs.lemmas.List.{drop-set-add, get_or-drop, length-drop}
use Rattle.std.proofs.Math.Seq.{set-append_seam, get_or-append_seam}

-- a number ends with its last digit, and the next one is the same before a digit that is one greater
pub record EndsSo (n : ℕ) : Type 0 where
  pub front : List ℕ
  pub this : decimal n ≡ front ++ (48 + n % 10) ∷ []
  pub next : n % 10 < 9 → decimal (n + 1) ≡ front ++ (48 + n % 10 + 1) ∷ []

pub ends_so : (n : ℕ) → n + 1 < 2 ^ 64 → EndsSo n
ends_so n small = elim (eq-zero-or-pos (10 - n)) [
  | inl z ↦ record {
    front = decimal (n / 10);
    this = decimal_step n (omega (arith, z)) (omega (arith, small));
    next = λ less.
        let tens : (n + 1) / 10 ≡ n / 10 = omega (arith, less) in
        let ones : 48 + (n + 1) % 10 ≡ 48 + n % 10 + 1 = omega (arith, less) in
        decimal_step (n + 1) (omega (arith, z)) small ∙ ap (λ k. decimal k ++ (48 + (n + 1) % 10) ∷ []) tens ∙ ap (λ k. decimal (n / 10) ++ k ∷ []) ones;
  }
  | inr g ↦
      let small : n < 10 = omega (arith, g) in
      let same : 48 + n ≡ 48 + n % 10 = omega (arith, small) in
      record {
        front = [];
        this = decimal_digit n small ∙ ap (λ k. k ∷ []) same;
        next = λ less. let ones : 48 + (n + 1) ≡ 48 + n % 10 + 1 = omega (arith, less, small) in decimal_digit (n + 1) (omega (arith, less, small)) ∙ ap (λ k. k ∷ []) ones;
      }
]

-- where the last of twenty stands
place : (digits front : List ℕ) (start x : ℕ) → length digits ≡ 20 → drop start digits ≡ front ++ x ∷ [] → 19 ≡ start + length front
place digits front start x long is =
    let left : length digits - start ≡ length front + 1 = sym (length-drop start digits) ∙ ap length is ∙ length-append front (x ∷ []) in
    omega (arith, left, long)

last : (digits front : List ℕ) (start x : ℕ) → length digits ≡ 20 → drop start digits ≡ front ++ x ∷ [] → get_or digits 19 0 ≡ x
last digits front start x long is =
    ap (λ k. get_or digits k 0) (place digits front start x long is) ∙ sym (get_or-drop start digits (length front) 0) ∙ ap (λ xs. get_or xs (length front) 0) is ∙ get_or-append_seam front x [] 0

changed : (digits front : List ℕ) (start x y : ℕ) → length digits ≡ 20 → drop start digits ≡ front ++ x ∷ [] → drop start (slice_set digits 19 y) ≡ front ++ y ∷ []
changed digits front start x y long is =
    ap (λ k. drop start (slice_set digits k y)) (place digits front start x long is) ∙ drop-set-add start digits (length front) y ∙ ap (λ xs. slice_set xs (length front) y) is ∙ set-append_seam front x [] y

pub next_digit : (digits : List ℕ) (start n d : ℕ) → n + 1 < 2 ^ 64 → length digits ≡ 20 → drop start digits ≡ decimal n → get_or digits 19 0 ≡ d → d < 57 → drop start (slice_set digits 19 (d + 1)) ≡ decimal (n + 1)
next_digit digits start n d small long is read less =
    let e = ends_so n small in
    let digit : 48 + n % 10 ≡ d = sym (last digits e.front start (48 + n % 10) long (is ∙ e.this)) ∙ read in
    ap (λ y. drop start (slice_set digits 19 (y + 1))) (sym digit) ∙ changed digits e.front start (48 + n % 10) (48 + n % 10 + 1) long (is ∙ e.this) ∙ sym (e.next (omega (arith, digit, less)))

pub goes_on : (n : ℕ) (old : Option ℕ) → old ≡ Some n → n + 1 < 2 ^ 64 → Some (n + 1) ≡ next_front old
unfolding next_front
goes_on n old is small = let least : n + 1 ≡ min (n + 1) (2 ^ 64 - 1) = omega (arith, small) in ap (λ (k : ℕ). Some k) least ∙ ap next_front (sym is)

pub stays_last : (n : ℕ) (old : Option ℕ) → old ≡ Some n → n ≡ 2 ^ 64 - 1 → old ≡ next_front old
unfolding next_front
stays_last n old is great = let least : n ≡ min (n + 1) (2 ^ 64 - 1) = omega (arith, great) in is ∙ ap (λ (k : ℕ). Some k) least ∙ ap next_front (sym is)

pub stays_none : (old : Option ℕ) → old ≡ None → old ≡ next_front old
unfolding next_front
stays_none old is = is ∙ ap next_front (sym is)
