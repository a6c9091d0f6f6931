-- The words of an act are few, and never `end`.
use Rattle.std.proofs.Common.{Bor, ◌≡◌, ℕ, zero, suc, ◌-◌, ◌<◌, ◌≤◌, min, Bool, true, false, eqb, cond, ◌&&◌, List, [], ◌∷◌, length, take, Option, Some, None, sym, ap, ◌∙◌, refl, arith, length-take, nat_le, codes, bytes_eq}
use Rattle.std.specs.List.{list_all}
use Rattle.std.proofs.lemmas.Bool.{and_parts}
use Rattle.std.proofs.lemmas.List.{length-map}
use Rattle.std.proofs.lemmas.Bool.Decides.{nat_tests}
use Rattle.sat_script.specs.Grammar.{is_end}
use Rattle.sat_script.specs.Table.{act_forms, found_form, kinds_of, word_of}
use Rattle.sat_script.specs.declared.form.Form.{Form}
use Rattle.sat_script.proofs.Choices.{word_is}
use Rattle.sat_script.proofs.Cuts.{texts}
use Rattle.sat_script.proofs.Steps.{front_texts}
use Rattle.sat_audit.specs.Lines.{act_words_of, fits_form, has_form, most_with_form}

abbrev has_few : Form → Bool
has_few f = nat_le (length (kinds_of f)) 9

not-so-many : (k n : ℕ) → nat_le k 9 ≡ true → 9 < n → eqb k n ≡ false
not-so-many k n few long = grind (arith, nat_tests)

none-long : (word : List ℕ) (n : ℕ) (fs : List Form) → 9 < n → list_all has_few fs ≡ true → found_form word n fs ≡ None
none-long word n [] long few = refl
none-long word n (f ∷ fs) long few =
    let b = and_parts (has_few f) (list_all has_few fs) few in
    ap (λ (t : Bool). cond (t && bytes_eq word (word_of f)) (Some f) (found_form word n fs)) (not-so-many (length (kinds_of f)) n b.0 long) ∙ none-long word n fs long b.1

no-form : (format : ℕ) (ws : List (List ℕ)) → 10 < length ws → has_form format ws ≡ false
no-form format [] long = refl
no-form format (w ∷ ws) long = ap (λ (o : Option Form). fits_form format o ws) (none-long w (length ws) act_forms (omega (arith, long)) refl)

-- ---- one front less

pub most_none : (format : ℕ) (ws : List (List ℕ)) → most_with_form format ws 0 ≡ 0
unfolding most_with_form
most_none format ws = refl

pub most_here : (format : ℕ) (ws : List (List ℕ)) (n : ℕ) → 0 < n → has_form format (take n ws) ≡ true → most_with_form format ws n ≡ n
unfolding most_with_form
most_here format ws zero some has = absurd (omega (arith, some))
most_here format ws (suc n) some has = rw has refl

pub most_less : (format : ℕ) (ws : List (List ℕ)) (n : ℕ) → 0 < n → has_form format (take n ws) ≡ false → most_with_form format ws n ≡ most_with_form format ws (n - 1)
unfolding most_with_form
most_less format ws zero some lacks = absurd (omega (arith, some))
most_less format ws (suc n) some lacks = let less : n ≡ suc n - 1 = omega arith in rw lacks (ap (most_with_form format ws) less)

-- no front with a form has more than ten words
pub capped : (format : ℕ) (ws : List (List ℕ)) (n : ℕ) → n ≤ length ws → most_with_form format ws n ≡ most_with_form format ws (min n 10)
capped format ws zero inside = let e : min 0 10 ≡ 0 = omega arith in ap (most_with_form format ws) (sym e)
capped format ws (suc m) inside = go (nat_le m 9) refl (capped format ws m (omega (arith, inside)))
  where
    go : (b : Bool) → nat_le m 9 ≡ b → most_with_form format ws m ≡ most_with_form format ws (min m 10) → most_with_form format ws (suc m) ≡ most_with_form format ws (min (suc m) 10)
    go true few later = let e : min (suc m) 10 ≡ suc m = grind (arith, nat_tests) in ap (most_with_form format ws) (sym e)
    go false long later =
        let size : length (take (suc m) ws) ≡ suc m = length-take (suc m) ws ∙ (let e : min (suc m) (length ws) ≡ suc m = omega (arith, inside) in e) in
        let much : 9 < m = grind (arith, nat_tests) in
        let lacks : has_form format (take (suc m) ws) ≡ false = no-form format (take (suc m) ws) (omega (arith, size, much)) in
        let less : suc m - 1 ≡ m = omega arith in
        let same : min m 10 ≡ min (suc m) 10 = omega (arith, much) in
        most_less format ws (suc m) (omega arith) lacks ∙ ap (most_with_form format ws) less ∙ later ∙ ap (most_with_form format ws) same

-- these words have a form, where there are any
pub most_has : (format : ℕ) (ws : List (List ℕ)) (n : ℕ) → 0 < most_with_form format ws n → has_form format (take (most_with_form format ws n) ws) ≡ true
most_has format ws zero some = absurd (omega (arith, some, most_none format ws))
most_has format ws (suc m) some = go (has_form format (take (suc m) ws)) refl some (most_has format ws m)
  where
    go : (b : Bool) → has_form format (take (suc m) ws) ≡ b → 0 < most_with_form format ws (suc m) → (0 < most_with_form format ws m → has_form format (take (most_with_form format ws m) ws) ≡ true)
        → has_form format (take (most_with_form format ws (suc m)) ws) ≡ true
    go true has some later = ap (λ (k : ℕ). has_form format (take k ws)) (most_here format ws (suc m) (omega arith) has) ∙ has
    go false lacks some later =
        let less : suc m - 1 ≡ m = omega arith in
        let same : most_with_form format ws (suc m) ≡ most_with_form format ws m = most_less format ws (suc m) (omega arith) lacks ∙ ap (most_with_form format ws) less in
        ap (λ (k : ℕ). has_form format (take k ws)) same ∙ later (omega (arith, same, some))

-- ---- the same of the code's lists

pub most_of_front : (format : ℕ) (words : List (Bor (List ℕ))) (n : ℕ) → 0 < n → has_form format (texts (take n words)) ≡ true → n ≡ most_with_form format (texts words) n
most_of_front format words n some has = sym (most_here format (texts words) n some (ap (has_form format) (sym (front_texts n words)) ∙ has))

pub most_of_less : (format : ℕ) (words : List (Bor (List ℕ))) (n r : ℕ) → 0 < n → has_form format (texts (take n words)) ≡ false → r ≡ most_with_form format (texts words) (n - 1) → r ≡ most_with_form format (texts words) n
most_of_less format words n r some lacks is = is ∙ sym (most_less format (texts words) n some (ap (has_form format) (sym (front_texts n words)) ∙ lacks))

pub all_words : (format : ℕ) (words : List (Bor (List ℕ))) (r : ℕ) → r ≡ most_with_form format (texts words) (length words) → r ≡ act_words_of format (texts words)
all_words format words r is = is ∙ ap (most_with_form format (texts words)) (sym (length-map words (λ (w : Bor (List ℕ)). w.now)))

pub ten_words : (format : ℕ) (words : List (Bor (List ℕ))) (r : ℕ) → 10 ≤ length words → r ≡ most_with_form format (texts words) 10 → r ≡ act_words_of format (texts words)
ten_words format words r many is =
    let size : length (texts words) ≡ length words = length-map words (λ (w : Bor (List ℕ)). w.now) in
    let ten : min (length (texts words)) 10 ≡ 10 = omega (arith, size, many) in
    is ∙ sym (capped format (texts words) (length (texts words)) (omega arith) ∙ ap (most_with_form format (texts words)) ten)

-- ---- `end` is no act

pub no_end : (format : ℕ) (ws : List (List ℕ)) → has_form format ws ≡ true → is_end ws ≡ false
no_end format [] has = refl
no_end format (w ∷ []) has = go (bytes_eq w (codes "end")) refl
  where
    go : (b : Bool) → bytes_eq w (codes "end") ≡ b → bytes_eq w (codes "end") ≡ false
    go false e = e
    go true e = absurd (let none : has_form format (codes "end" ∷ []) ≡ false = refl in let had : has_form format (codes "end" ∷ []) ≡ true = ap (λ (v : List ℕ). has_form format (v ∷ [])) (sym (word_is w (codes "end") e)) ∙ has in cc)
no_end format (w ∷ v ∷ ws) has = refl
