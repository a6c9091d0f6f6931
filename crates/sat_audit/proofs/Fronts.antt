-- The first words of a line are a text of their own.
use Rattle.std.proofs.Common.{◌≡◌, ℕ, zero, suc, ◌+◌, ◌-◌, ◌<◌, ◌≤◌, Bool, true, false, eqb, cond, List, [], ◌∷◌, length, take, drop, get_or, sym, ap, ◌∙◌, refl, arith, take_all}
use Rattle.std.specs.List.{slice_split, onto_first}
use Rattle.std.proofs.lemmas.Bool.{and_parts, and_from, eqb-true}
use Rattle.std.proofs.lemmas.Bool.Decides.{nat_tests}
use Rattle.std.proofs.lemmas.List.{drop_more, drop_all}
use Rattle.sat_label.specs.Text.{is_between}
use Rattle.sat_script.specs.Words.{is_blank, words_of, is_text}
use Rattle.sat_audit.specs.Fronts.{front_end}

-- a text has a part at least
pub some_parts : (p : ℕ → Bool) (xs : List ℕ) → 0 < length (slice_split p xs)
some_parts p [] = omega arith
some_parts p (x ∷ xs) = go (p x) (slice_split p xs)
  where
    go : (b : Bool) (ws : List (List ℕ)) → 0 < length (cond b ([] ∷ ws) (onto_first x ws))
    go true ws = omega arith
    go false [] = omega arith
    go false (w ∷ ws) = omega arith

take-onto : (x n : ℕ) (ws : List (List ℕ)) → 0 < length ws → onto_first x (take (suc n) ws) ≡ take (suc n) (onto_first x ws)
take-onto x n [] some = absurd (omega (arith, some))
take-onto x n (w ∷ ws) some = refl

take-more : (k x : ℕ) (xs : List ℕ) → take (k + 1) (x ∷ xs) ≡ x ∷ take k xs
take-more k x xs = let e : k + 1 ≡ suc k = omega arith in ap (λ (n : ℕ). take n (x ∷ xs)) e

one-left : (m : ℕ) → eqb (suc m) 1 ≡ true → m ≡ 0
one-left m e = omega (arith, eqb-true (suc m) 1 e)

more-left : (m : ℕ) → eqb (suc m) 1 ≡ false → 0 < m
more-left m e = grind (arith, nat_tests)

one-less : (m : ℕ) → suc m - 1 ≡ m
one-less m = omega arith

split-blank : (x : ℕ) (xs : List ℕ) → eqb x 32 ≡ true → words_of (x ∷ xs) ≡ [] ∷ words_of xs
split-blank x xs e = ap (λ (b : Bool). cond b ([] ∷ words_of xs) (onto_first x (words_of xs))) e

split-other : (x : ℕ) (xs : List ℕ) → eqb x 32 ≡ false → words_of (x ∷ xs) ≡ onto_first x (words_of xs)
split-other x xs e = ap (λ (b : Bool). cond b ([] ∷ words_of xs) (onto_first x (words_of xs))) e

-- where a line ends behind its first words, a byte at a time
pub end_here : (n x : ℕ) (xs : List ℕ) → eqb x 32 ≡ true → eqb n 1 ≡ true → front_end n (x ∷ xs) ≡ 0
unfolding front_end
end_here n x xs e o = rw (e, o) refl

pub end_next : (n x : ℕ) (xs : List ℕ) → eqb x 32 ≡ true → eqb n 1 ≡ false → front_end n (x ∷ xs) ≡ front_end (n - 1) xs + 1
unfolding front_end
end_next n x xs e o = rw (e, o) refl

pub end_on : (n x : ℕ) (xs : List ℕ) → eqb x 32 ≡ false → front_end n (x ∷ xs) ≡ front_end n xs + 1
unfolding front_end
end_on n x xs e = rw e refl

end-nil : (n : ℕ) → front_end n [] ≡ 0
unfolding front_end
end-nil n = refl

abbrev AreFronts : List ℕ → Type 0
AreFronts xs = (n : ℕ) → 0 < n → words_of (take (front_end n xs) xs) ≡ take n (words_of xs)

front-more : (n x : ℕ) (xs : List ℕ) → 0 < n → AreFronts xs → AreFronts (x ∷ xs)
front-more n x xs some ih = λ n some. go n some (eqb x 32) (eqb n 1) refl refl
  where
    go : (n : ℕ) → 0 < n → (b c : Bool) → eqb x 32 ≡ b → eqb n 1 ≡ c → words_of (take (front_end n (x ∷ xs)) (x ∷ xs)) ≡ take n (words_of (x ∷ xs))
    go zero some b c e o = absurd (omega (arith, some))
    go (suc m) some true true e o =
        ap (λ (k : ℕ). words_of (take k (x ∷ xs))) (end_here (suc m) x xs e o) ∙ sym (ap (take (suc m)) (split-blank x xs e) ∙ ap (λ (k : ℕ). [] ∷ take k (words_of xs)) (one-left m o))
    go (suc m) some true false e o =
        let k : front_end (suc m) (x ∷ xs) ≡ front_end m xs + 1 = end_next (suc m) x xs e o ∙ ap (λ (j : ℕ). front_end j xs + 1) (one-less m) in
        ap (λ (k : ℕ). words_of (take k (x ∷ xs))) k ∙ ap words_of (take-more (front_end m xs) x xs) ∙ split-blank x (take (front_end m xs) xs) e
        ∙ ap (λ (ws : List (List ℕ)). [] ∷ ws) (ih m (more-left m o)) ∙ sym (ap (take (suc m)) (split-blank x xs e))
    go (suc m) some false c e o =
        ap (λ (k : ℕ). words_of (take k (x ∷ xs))) (end_on (suc m) x xs e) ∙ ap words_of (take-more (front_end (suc m) xs) x xs) ∙ split-other x (take (front_end (suc m) xs) xs) e
        ∙ ap (onto_first x) (ih (suc m) some) ∙ take-onto x m (words_of xs) (some_parts is_blank xs) ∙ sym (ap (take (suc m)) (split-other x xs e))

-- what stands before that place has just these words
pub front_words : (n : ℕ) (xs : List ℕ) → 0 < n → words_of (take (front_end n xs) xs) ≡ take n (words_of xs)
front_words n [] some = ap (λ (k : ℕ). words_of (take k [])) (end-nil n) ∙ sym (take_all n ([] ∷ []) (omega (arith, some)))
front_words n (x ∷ xs) some = front-more n x xs some (λ m more. front_words m xs more) n some

pub front_inside : (n : ℕ) (xs : List ℕ) → front_end n xs ≤ length xs
front_inside n [] = omega (arith, end-nil n)
front_inside n (x ∷ xs) = go (eqb x 32) (eqb n 1) refl refl (front_inside n xs) (front_inside (n - 1) xs)
  where
    go : (b c : Bool) → eqb x 32 ≡ b → eqb n 1 ≡ c → front_end n xs ≤ length xs → front_end (n - 1) xs ≤ length xs → front_end n (x ∷ xs) ≤ length (x ∷ xs)
    go true true e o here less = omega (arith, end_here n x xs e o)
    go true false e o here less = omega (arith, end_next n x xs e o, less)
    go false c e o here less = omega (arith, end_on n x xs e, here)

-- a front of a text is text
pub text_front : (n : ℕ) (xs : List ℕ) → is_text xs ≡ true → is_text (take n xs) ≡ true
text_front zero xs h = refl
text_front (suc n) [] h = refl
text_front (suc n) (x ∷ xs) h =
    let b = and_parts (is_between 32 126 x) (is_text xs) h in
    and_from (is_between 32 126 x) (is_text (take n xs)) b.0 (text_front n xs b.1)

-- ---- the loop that finds the place

-- so many words are left at a place
pub record IsLeft (line : List ℕ) (count place left : ℕ) : Type 0 where
  pub some : 0 < left
  pub few : left ≤ count
  pub end : front_end left (drop place line) + place ≡ front_end count line

pub left_start : (line : List ℕ) (count : ℕ) → 0 < count → IsLeft line count 0 count
left_start line count some = record { some = some; few = omega arith; end = omega arith }

at-place : (line : List ℕ) (place : ℕ) → place < length line → drop place line ≡ get_or line place 0 ∷ drop (place + 1) line
at-place line place inside = drop_more line place 0 inside

pub left_here : (line : List ℕ) (count place left : ℕ) → IsLeft line count place left → place < length line → get_or line place 0 ≡ 32 → left ≡ 1 → place ≡ front_end count line
left_here line count place left is inside blank one =
    let here : front_end left (drop place line) ≡ 0 =
    ap (front_end left) (at-place line place inside) ∙ end_here left (get_or line place 0) (drop (place + 1) line) (ap (λ (x : ℕ). eqb x 32) blank) (ap (λ (n : ℕ). eqb n 1) one) in
    omega (arith, is.end, here)

pub left_next : (line : List ℕ) (count place left : ℕ) → IsLeft line count place left → place < length line → get_or line place 0 ≡ 32 → (left ≡ 1 → ⊥) → IsLeft line count (place + 1) (left - 1)
left_next line count place left is inside blank more =
    let one : eqb left 1 ≡ false = grind (arith, nat_tests) in
    let here : front_end left (drop place line) ≡ front_end (left - 1) (drop (place + 1) line) + 1 =
    ap (front_end left) (at-place line place inside) ∙ end_next left (get_or line place 0) (drop (place + 1) line) (ap (λ (x : ℕ). eqb x 32) blank) one in
    record { some = omega (arith, is.some, more); few = omega (arith, is.few); end = omega (arith, is.end, here) }

pub left_on : (line : List ℕ) (count place left : ℕ) → IsLeft line count place left → place < length line → (get_or line place 0 ≡ 32 → ⊥) → IsLeft line count (place + 1) left
left_on line count place left is inside other =
    let e : eqb (get_or line place 0) 32 ≡ false = grind (arith, nat_tests) in
    let here : front_end left (drop place line) ≡ front_end left (drop (place + 1) line) + 1 =
    ap (front_end left) (at-place line place inside) ∙ end_on left (get_or line place 0) (drop (place + 1) line) e in
    record { some = is.some; few = is.few; end = omega (arith, is.end, here) }

pub left_end : (line : List ℕ) (count place left : ℕ) → IsLeft line count place left → length line ≡ place → length line ≡ front_end count line
left_end line count place left is over =
    let here : front_end left (drop place line) ≡ 0 = ap (front_end left) (drop_all place line (omega (arith, over))) ∙ end-nil left in
    omega (arith, is.end, here, over)
