-- How a text is cut at the places of a byte.
use Rattle.std.proofs.Common.{Bor, map, append_assoc, length-append, ◌≡◌, ℕ, ◌+◌, ◌-◌, ◌<◌, ◌≤◌, true, false, eqb, List, [], ◌∷◌, ◌++◌, length, take, drop, get_or, sym, ap, ◌∙◌, refl, arith, length-drop, take_all}
use Rattle.std.specs.List.{slice_split, list_all}
use Rattle.std.proofs.lemmas.Bool.Decides.{nat_tests}
use Rattle.std.proofs.lemmas.Bool.{and_parts, eq-eqb, eqb-true, false_from_ne_true}
use Rattle.std.proofs.lemmas.List.{take-append-le, length-map, map-append, take_more}
use Rattle.std.proofs.lemmas.List.Elements.{All-nil, All-cons, All-append}
use Rattle.std.proofs.lemmas.List.Splits.{slice_split_at, slice_split_none}
use Rattle.sat_script.specs.Words.{HasNo, IsCut, words_of}
use Rattle.sat_label.specs.Text.{is_between}

pub rest_is : (xs : List ℕ) (n : ℕ) → take (length xs - n) (drop n xs) ≡ drop n xs
rest_is xs n = take_all (length xs - n) (drop n xs) (omega (arith, length-drop n xs))

-- the parts of a text that is cut there, and of one that isn't cut
pub split_cut : (b : ℕ) (xs front rest : List ℕ) → IsCut b xs front rest → slice_split (λ x. eqb x b) xs ≡ front ∷ slice_split (λ x. eqb x b) rest
split_cut b xs front rest c = ap (slice_split (λ x. eqb x b)) c.whole ∙ slice_split_at (λ x. eqb x b) front b rest c.none (eq-eqb b b refl)

pub split_uncut : (b : ℕ) (xs : List ℕ) → HasNo b xs → slice_split (λ x. eqb x b) xs ≡ xs ∷ []
split_uncut b xs h = slice_split_none (λ x. eqb x b) xs h

-- ---- the first words of a line

abbrev pub texts : List (Bor (List ℕ)) → List (List ℕ)
texts words = map (λ word. word.now) words

pub words_next : (words now : List (Bor (List ℕ))) (word : Bor (List ℕ)) (line rest more : List ℕ) (n : ℕ) → now ≡ words ++ word ∷ [] → IsCut 32 rest word.now more
    → texts words ++ words_of rest ≡ words_of line → length words ≡ n → (texts now ++ words_of more ≡ words_of line) × (length now ≡ n + 1)
words_next words now word line rest more n is c had size = (
  ap (λ ws. texts ws ++ words_of more) is ∙ ap (λ ws. ws ++ words_of more) (map-append (λ w. w.now) words (word ∷ [])) ∙ append_assoc (texts words) (word.now ∷ []) (words_of more)
      ∙ ap (λ ws. texts words ++ ws) (sym (split_cut 32 rest word.now more c)) ∙ had,
  omega (arith, ap length is, length-append words (word ∷ [])),
)

whole_front : (ws all : List (List ℕ)) → ws ≡ all → length ws ≤ 11 → ws ≡ take 11 all
whole_front ws all is few = sym (take_all 11 ws few) ∙ ap (take 11) is

pub words_last : (words now : List (Bor (List ℕ))) (word : Bor (List ℕ)) (line : List ℕ) (n : ℕ) → now ≡ words ++ word ∷ [] → HasNo 32 word.now
    → texts words ++ words_of word.now ≡ words_of line → length words ≡ n → n < 11 → texts now ≡ take 11 (words_of line)
words_last words now word line n is none had size few =
    let all : texts now ≡ words_of line = ap texts is ∙ map-append (λ w. w.now) words (word ∷ []) ∙ ap (λ ws. texts words ++ ws) (sym (split_uncut 32 word.now none)) ∙ had in
    whole_front (texts now) (words_of line) all (omega (arith, length-map now (λ (w : Bor (List ℕ)). w.now), ap length is, length-append words (word ∷ [])))

pub words_full : (words : List (Bor (List ℕ))) (line rest : List ℕ) → texts words ++ words_of rest ≡ words_of line → length words ≡ 11 → texts words ≡ take 11 (words_of line)
words_full words line rest had size =
    let n : length (texts words) ≡ 11 = length-map words (λ (w : Bor (List ℕ)). w.now) ∙ size in
    sym (ap (take 11) (sym had) ∙ take-append-le 11 (texts words) (words_of rest) (omega arith) ∙ take_all 11 (texts words) (omega arith))

-- ---- words that can be seen

pub seen_byte : (x : ℕ) → is_between 33 126 x ≡ true → (eqb x 32 ≡ false) × (is_between 32 126 x ≡ true)
seen_byte x h = (grind (arith, nat_tests), grind (arith, nat_tests))

pub seen_none : (xs : List ℕ) → list_all (is_between 33 126) xs ≡ true → HasNo 32 xs
seen_none [] h = All-nil (λ x. eqb x 32 ≡ false)
seen_none (x ∷ xs) h = let b = and_parts (is_between 33 126 x) (list_all (is_between 33 126) xs) h in All-cons (λ x. eqb x 32 ≡ false) x xs (seen_byte x b.0).0 (seen_none xs b.1)

-- ---- a text before and behind its first blank

pub none_more : (xs : List ℕ) (k byte : ℕ) → k < length xs → byte ≡ get_or xs k 0 → (byte ≡ 32 → ⊥) → HasNo 32 (take k xs) → HasNo 32 (take (k + 1) xs)
none_more xs k byte inside at other none =
    rw (take_more xs k 0 inside, ← at)
    (All-append (λ byte. eqb byte 32 ≡ false) (take k xs) (byte ∷ []) none (All-cons (λ byte. eqb byte 32 ≡ false) byte [] (false_from_ne_true (eqb byte 32) (λ t. other (eqb-true byte 32 t))) (All-nil (λ byte. eqb byte 32 ≡ false))))

pub cut_line : (line word one two rest more most : List ℕ) → IsCut 32 line word more → IsCut 32 more one most → IsCut 32 most two rest → words_of line ≡ word ∷ one ∷ two ∷ words_of rest
cut_line line word one two rest more most first second third =
    split_cut 32 line word more first ∙ ap (λ (ws : List (List ℕ)). word ∷ ws) (split_cut 32 more one most second ∙ ap (λ (ws : List (List ℕ)). one ∷ ws) (split_cut 32 most two rest third))
