-- The first words of a line, by one walk over its bytes.
use Rattle.std.proofs.Common.{◌≡◌, ℕ, zero, suc, ◌+◌, ◌-◌, ◌<◌, ◌≤◌, Bool, true, false, List, [], ◌∷◌, ◌++◌, Bor, length, take, drop, get_or, sym, ap, ◌∙◌, refl, subst, arith, length-drop, take_all}
use Rattle.std.specs.List.{list_all}
use Rattle.std.proofs.Math.Seq.{drop-nil}
use Rattle.std.proofs.lemmas.List.{drop_all, drop_more, get_or-drop, take-append-drop, take_more}
use Rattle.std.proofs.lemmas.List.Folds.{list_all-append}
use Rattle.sat_label.specs.Text.{is_between}
use Rattle.sat_script.specs.Words.{HasNo, IsCut, AreFirst, is_text, words_of}
use Rattle.sat_script.proofs.Cuts.{texts, seen_byte, seen_none, words_next, words_last, words_full}

-- these words were found, the next one begins at a place, and from there up to another each byte can be seen
pub record AreFound (line : List ℕ) (words : List (Bor (List ℕ))) (start place : ℕ) : Type 0 where
  pub within : start ≤ place
  pub whole : texts words ++ words_of (drop start line) ≡ words_of line
  pub seen : list_all (is_between 33 126) (take (place - start) (drop start line)) ≡ true
  pub text : is_text line ≡ is_text (drop place line)

pub drop_twice : (xs : List ℕ) (a b c : ℕ) → c ≡ a + b → drop b (drop a xs) ≡ drop c xs
drop_twice xs zero b c e = ap (λ (n : ℕ). drop n xs) (let same : b ≡ c = omega arith in same)
drop_twice [] (suc a) b c e = drop-nil b ∙ sym (drop-nil c)
drop_twice (x ∷ xs) (suc a) b zero e = absurd (omega arith)
drop_twice (x ∷ xs) (suc a) b (suc c) e = drop_twice xs a b c (omega arith)

none_seen : (rest : List ℕ) (n : ℕ) → n ≡ 0 → list_all (is_between 33 126) (take n rest) ≡ true
none_seen rest n e = ap (λ (k : ℕ). list_all (is_between 33 126) (take k rest)) e

-- what one more byte does to the text
text_on : (line : List ℕ) (place byte : ℕ) → place < length line → get_or line place 0 ≡ byte → is_between 32 126 byte ≡ true → is_text (drop place line) ≡ is_text (drop (place + 1) line)
text_on line place byte less here h = ap is_text (drop_more line place 0 less ∙ ap (λ (x : ℕ). x ∷ drop (place + 1) line) here) ∙ rw h refl

-- a byte that can be seen
pub found_seen : (line : List ℕ) (words : List (Bor (List ℕ))) (start place : ℕ) → AreFound line words start place → place < length line → is_between 33 126 (get_or line place 0) ≡ true → AreFound line words start (place + 1)
found_seen line words start place is less h =
    let within = is.within in
    let size = length-drop start line in
    let here : get_or (drop start line) (place - start) 0 ≡ get_or line place 0 = get_or-drop start line (place - start) 0 ∙ ap (λ (n : ℕ). get_or line n 0) (let e : start + (place - start) ≡ place = omega arith in e) in
    let grown : take ((place + 1) - start) (drop start line) ≡ take (place - start) (drop start line) ++ get_or line place 0 ∷ [] =
    ap (λ (n : ℕ). take n (drop start line)) (let e : (place + 1) - start ≡ (place - start) + 1 = omega arith in e)
    ∙ take_more (drop start line) (place - start) 0 (omega (arith, size))
    ∙ ap (λ (x : ℕ). take (place - start) (drop start line) ++ x ∷ []) here in
    record {
      within = omega arith;
      whole = is.whole;
      seen = ap (list_all (is_between 33 126)) grown ∙ list_all-append (is_between 33 126) (take (place - start) (drop start line)) (get_or line place 0 ∷ []) ∙ rw (is.seen, h) refl;
      text = is.text ∙ text_on line place (get_or line place 0) less refl (seen_byte (get_or line place 0) h).1;
    }

-- a blank
pub found_word : (line : List ℕ) (words now : List (Bor (List ℕ))) (word : Bor (List ℕ)) (start place : ℕ) → AreFound line words start place → place < length line → get_or line place 0 ≡ 32
    → now ≡ words ++ word ∷ [] → word.now ≡ take (place - start) (drop start line) → AreFound line now (place + 1) (place + 1)
found_word line words now word start place is less blank grown cut =
    let within = is.within in
    let behind : drop (place - start) (drop start line) ≡ 32 ∷ drop (place + 1) line =
    drop_twice line start (place - start) place (omega arith) ∙ drop_more line place 0 less ∙ ap (λ (x : ℕ). x ∷ drop (place + 1) line) blank in
    let parts : IsCut 32 (drop start line) word.now (drop (place + 1) line) =
    record {
      none = subst (HasNo 32) (sym cut) (seen_none (take (place - start) (drop start line)) is.seen);
      whole = sym (take-append-drop (place - start) (drop start line)) ∙ ap (λ (bs : List ℕ). bs ++ drop (place - start) (drop start line)) (sym cut) ∙ ap (λ (bs : List ℕ). word.now ++ bs) behind;
    } in
    record {
      within = omega arith;
      whole = (words_next words now word line (drop start line) (drop (place + 1) line) (length words) grown parts is.whole refl).0;
      seen = none_seen (drop (place + 1) line) ((place + 1) - (place + 1)) (omega arith);
      text = is.text ∙ text_on line place 32 less blank refl;
    }

-- the end of the line
pub found_end : (line : List ℕ) (words now : List (Bor (List ℕ))) (word : Bor (List ℕ)) (start place : ℕ) → AreFound line words start place → length line ≤ place → start ≤ length line → length words < 11
    → now ≡ words ++ word ∷ [] → word.now ≡ take (length line - start) (drop start line) → (is_text line ≡ true) × (texts now ≡ take 11 (words_of line))
found_end line words now word start place is all inside few grown cut =
    let size = length-drop start line in
    let rest : word.now ≡ drop start line = cut ∙ take_all (length line - start) (drop start line) (omega (arith, size)) in
    let seen : list_all (is_between 33 126) (drop start line) ≡ true = ap (list_all (is_between 33 126)) (sym (take_all (place - start) (drop start line) (omega (arith, size)))) ∙ is.seen in (
      is.text ∙ ap is_text (drop_all place line all),
      words_last words now word line (length words) grown (subst (HasNo 32) (sym rest) (seen_none (drop start line) seen)) (ap (λ (bs : List ℕ). texts words ++ words_of bs) rest ∙ is.whole) refl few,
    )

-- as many words as are looked for
pub found_full : (line rest : List ℕ) (words : List (Bor (List ℕ))) (start : ℕ) → AreFound line words start start → rest ≡ take (length line - start) (drop start line) → start ≤ length line → length words ≡ 11
    → (is_text line ≡ is_text rest) × (texts words ≡ take 11 (words_of line))
found_full line rest words start is cut inside eleven =
    let size = length-drop start line in
    let same : rest ≡ drop start line = cut ∙ take_all (length line - start) (drop start line) (omega (arith, size)) in
    (is.text ∙ ap is_text (sym same), words_full words line (drop start line) is.whole eleven)

pub as_first : (b : Bool) (line : List ℕ) (ws : List (List ℕ)) → is_text line ≡ b → ws ≡ take 11 (words_of line) → AreFirst b line ws
as_first true line ws h first = (h, first)
as_first false line ws h first = h
