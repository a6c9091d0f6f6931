-- Steps of the loops over words.
use Rattle.std.proofs.Common.{◌≡◌, ℕ, ◌+◌, ◌-◌, ◌<◌, ◌≤◌, true, false, ◌&&◌, ltb, List, [], ◌∷◌, ◌++◌, length, map, take, drop, get_or, sym, ap, ◌∙◌, arith, Some, None, Bor}
use Rattle.std.specs.List.{list_all}
use Rattle.std.proofs.lemmas.Bool.{and_parts, false_from_ne_true, lt-ltb, ltb-true}
use Rattle.std.proofs.lemmas.List.{drop-map, length-drop, map-append, map_more, take-map, take_all}
use Rattle.std.proofs.lemmas.List.Folds.{list_all-map, list_all_at}
use Rattle.std.proofs.lemmas.List.Sums.{AllPass-from_list_all}
use Rattle.sat_script.specs.Words.{is_number, value_of, number_below, are_below}
use Rattle.sat_script.specs.declared.limits.TheConstants.{MOST_SITES}
use Rattle.sat_script.proofs.Cuts.{texts}
use Rattle.sat_script.proofs.Choices.{tested}
use Rattle.sat_script.proofs.Lists.{all_next, all_weaker}

-- ---- numbers that are below a limit

passes : (limit : ℕ) (word : List ℕ) (n : ℕ) → Some n ≡ number_below limit word → (ltb (value_of word) limit ≡ true) × (value_of word ≡ n)
unfolding number_below
passes limit word n h =
    let t = tested (is_number word && ltb (value_of word) limit) (value_of word) n (sym h) in
    ((and_parts (is_number word) (ltb (value_of word) limit) t.0).1, t.1)

fails : (limit : ℕ) (word : List ℕ) → is_number word ≡ true → None ≡ number_below limit word → ltb (value_of word) limit ≡ false
unfolding number_below
fails limit word is h = false_from_ne_true (ltb (value_of word) limit) (λ low. let never : None ≡ Some (value_of word) = rw (is, low) at h in cc)

pub number_at : (words : List (Bor (List ℕ))) (i : ℕ) (d : Bor (List ℕ)) → i < length words → list_all is_number (texts words) ≡ true → is_number (get_or words i d).now ≡ true
number_at words i d inside numbers = AllPass-from_list_all (λ (word : Bor (List ℕ)). is_number word.now) words (sym (list_all-map is_number (λ (word : Bor (List ℕ)). word.now) words) ∙ numbers) i d inside

pub below_next : (limit : ℕ) (words : List (Bor (List ℕ))) (i n : ℕ) (d : Bor (List ℕ)) (numbers now : List ℕ) → i < length words → Some n ≡ number_below limit (get_or words i d).now
    → are_below limit (texts (take i words)) ≡ true → numbers ≡ map value_of (texts (take i words)) → now ≡ numbers ++ n ∷ []
    → (are_below limit (texts (take (i + 1) words)) ≡ true) × (now ≡ map value_of (texts (take (i + 1) words)))
below_next limit words i n d numbers now inside is below had adds =
    let p = passes limit (get_or words i d).now n is in
    let grown = map_more (λ (word : Bor (List ℕ)). word.now) words i d inside in (
      ap (are_below limit) grown ∙ all_next (λ word. ltb (value_of word) limit) (texts (take i words)) (get_or words i d).now below p.0,
      adds ∙ ap (λ ns. ns ++ n ∷ []) had ∙ ap (λ m. map value_of (texts (take i words)) ++ m ∷ []) (sym p.1) ∙ sym (map-append value_of (texts (take i words)) ((get_or words i d).now ∷ [])) ∙ ap (map value_of) (sym grown),
    )

pub below_fails : (limit : ℕ) (words : List (Bor (List ℕ))) (i : ℕ) (d : Bor (List ℕ)) → i < length words → list_all is_number (texts words) ≡ true → None ≡ number_below limit (get_or words i d).now → are_below limit (texts words) ≡ false
below_fails limit words i d inside numbers is =
    list_all-map (λ word. ltb (value_of word) limit) (λ (word : Bor (List ℕ)). word.now) words
    ∙ list_all_at (λ (word : Bor (List ℕ)). ltb (value_of word.now) limit) words i d inside (fails limit (get_or words i d).now (number_at words i d inside numbers) is)

pub below_all : (limit : ℕ) (words : List (Bor (List ℕ))) (i : ℕ) (numbers : List ℕ) → length words ≤ i → are_below limit (texts (take i words)) ≡ true → numbers ≡ map value_of (texts (take i words)) → (are_below limit (texts words) ≡ true) × (numbers ≡ map value_of (texts words))
below_all limit words i numbers all below had =
    let whole = take_all i words all in
    (rw whole at below, rw whole at had)

-- numbers below a limit of sites are below 64
pub few_sites : (limit : ℕ) (words : List (List ℕ)) → limit ≤ MOST_SITES → are_below limit words ≡ true → list_all (λ site. ltb site 64) (map value_of words) ≡ true
few_sites limit words few h =
    list_all-map (λ site. ltb site 64) value_of words ∙ all_weaker (λ w. ltb (value_of w) limit) (λ w. ltb (value_of w) 64) (λ w low. let less = ltb-true (value_of w) limit low in lt-ltb (value_of w) 64 (omega arith)) words h

-- ---- words parted at a place

pub front_texts : (n : ℕ) (words : List (Bor (List ℕ))) → texts (take n words) ≡ take n (texts words)
front_texts n words = sym (take-map (λ (word : Bor (List ℕ)). word.now) n words)

pub rest_texts : (n : ℕ) (words : List (Bor (List ℕ))) → texts (take (length words - n) (drop n words)) ≡ drop n (texts words)
rest_texts n words = ap texts (take_all (length words - n) (drop n words) (omega (arith, length-drop n words))) ∙ sym (drop-map (λ (word : Bor (List ℕ)). word.now) n words)
