-- Words that say something are text, and so is a line of such words: so who reads its words asks no byte whether it is text.
use Rattle.std.proofs.Common.{◌≡◌, ℕ, Bool, true, false, ◌&&◌, ◌||◌, cond, eqb, ltb, leb, List, [], ◌∷◌, length, Some, ap, ◌∙◌, refl, arith}
use Rattle.std.specs.Char.{is_ascii_digit}
use Rattle.std.specs.List.{list_all, onto_first}
use Rattle.std.specs.Str.{all_ascii_digits}
use Rattle.std.proofs.lemmas.Bool.{and_from, and_parts, eqb-true}
use Rattle.std.proofs.lemmas.Bool.Decides.{nat_tests}
use Rattle.sat_label.specs.Text.{is_name, is_name_byte, is_between}
use Rattle.sat_script.specs.Table.{word_of, kinds_of, act_forms, found_form, shape, shapes}
use Rattle.sat_script.specs.Words.{is_text, is_token, is_number, is_node, is_serializer, words_of}
use Rattle.sat_script.specs.declared.form.Form.{Form}
use Rattle.sat_script.specs.declared.form.Form.TheVariants as form
use Rattle.sat_script.specs.declared.form.Kind.{Kind}
use Rattle.sat_script.specs.declared.form.Kind.TheVariants as kind
use Rattle.sat_script.proofs.Acts.{form_is}
use Rattle.sat_script.proofs.Cuts.{seen_byte}

-- ---- a word

all_text : (p : ℕ → Bool) → ((x : ℕ) → p x ≡ true → is_between 32 126 x ≡ true) → (xs : List ℕ) → list_all p xs ≡ true → is_text xs ≡ true
all_text p of [] h = refl
all_text p of (x ∷ xs) h = let b = and_parts (p x) (list_all p xs) h in and_from (is_between 32 126 x) (is_text xs) (of x b.0) (all_text p of xs b.1)

name_byte : (x : ℕ) → is_name_byte x ≡ true → is_between 32 126 x ≡ true
name_byte x h = grind (arith, nat_tests)

name_text : (word : List ℕ) → is_name word ≡ true → is_text word ≡ true
name_text word h =
    let some = and_parts (ltb 0 (length word)) (leb (length word) 32 && list_all is_name_byte word) h in
    all_text is_name_byte name_byte word (and_parts (leb (length word) 32) (list_all is_name_byte word) some.1).1

token_text : (word : List ℕ) → is_token word ≡ true → is_text word ≡ true
token_text word h = all_text (is_between 33 126) (λ x seen. (seen_byte x seen).1) word (and_parts (ltb 0 (length word)) (list_all (is_between 33 126) word) h).1

digit_byte : (x : ℕ) → is_ascii_digit x ≡ true → is_between 32 126 x ≡ true
digit_byte x h = grind (arith, nat_tests)

digits_text : (word : List ℕ) → all_ascii_digits word ≡ true → is_text word ≡ true
digits_text [] h = refl
digits_text (x ∷ xs) h = let b = and_parts (is_ascii_digit x) (all_ascii_digits xs) h in and_from (is_between 32 126 x) (is_text xs) (digit_byte x b.0) (digits_text xs b.1)

number_text : (word : List ℕ) → is_number word ≡ true → is_text word ≡ true
number_text word h = digits_text word (and_parts (all_ascii_digits word) _ (and_parts (ltb 0 (length word)) _ h).1).0

letter_byte : (x : ℕ) → (eqb x 115 || eqb x 122) ≡ true → is_between 32 126 x ≡ true
letter_byte x h = grind (arith, nat_tests)

node_text : (word : List ℕ) → is_node word ≡ true → is_text word ≡ true
unfolding is_node
node_text [] h = refl
node_text (x ∷ number) h = let b = and_parts (eqb x 115 || eqb x 122) (is_number number) h in and_from (is_between 32 126 x) (is_text number) (letter_byte x b.0) (number_text number b.1)

serializer_byte : (x : ℕ) → eqb x 122 ≡ true → is_between 32 126 x ≡ true
serializer_byte x h = grind (arith, nat_tests)

serializer_text : (word : List ℕ) → is_serializer word ≡ true → is_text word ≡ true
unfolding is_serializer
serializer_text [] h = refl
serializer_text (x ∷ number) h = let b = and_parts (eqb x 122) (is_number number) h in and_from (is_between 32 126 x) (is_text number) (serializer_byte x b.0) (number_text number b.1)

shape_text : (k : Kind) (word : List ℕ) → shape k word ≡ true → is_text word ≡ true
shape_text kind.Client word h = name_text word h
shape_text kind.Item word h = name_text word h
shape_text kind.Value word h = token_text word h
shape_text kind.Node word h = node_text word h
shape_text kind.Serializer word h = serializer_text word h
shape_text _ word h = number_text word h

form_text : (f : Form) → is_text (word_of f) ≡ true
form_text form.Tick = refl
form_text _ = refl

-- ---- a line

pub shapes_text : (ks : List Kind) (words : List (List ℕ)) → shapes ks words ≡ true → list_all is_text words ≡ true
shapes_text [] [] h = refl
shapes_text [] (word ∷ words) h = absurd (let none = eqb-true (length (word ∷ words)) 0 h in omega (arith, none))
shapes_text (k ∷ ks) [] h = refl
shapes_text (k ∷ ks) (word ∷ words) h =
    let b = and_parts (shape k word) (shapes ks words) h in
    and_from (is_text word) (list_all is_text words) (shape_text k word b.0) (shapes_text ks words b.1)

onto_text : (x : ℕ) (words : List (List ℕ)) → list_all is_text (onto_first x words) ≡ true → (is_between 32 126 x ≡ true) × (list_all is_text words ≡ true)
onto_text x [] h = ((and_parts (is_between 32 126 x) true (and_parts (is_between 32 126 x && true) true h).0).0, refl)
onto_text x (word ∷ words) h =
    let b = and_parts (is_between 32 126 x && is_text word) (list_all is_text words) h in
    let first = and_parts (is_between 32 126 x) (is_text word) b.0 in
    (first.0, and_from (is_text word) (list_all is_text words) first.1 b.1)

blank_byte : (x : ℕ) → eqb x 32 ≡ true → is_between 32 126 x ≡ true
blank_byte x h = grind (arith, nat_tests)

pub words_text : (line : List ℕ) → list_all is_text (words_of line) ≡ true → is_text line ≡ true
words_text [] h = refl
words_text (x ∷ xs) h = go (eqb x 32) refl h (λ more. words_text xs more)
  where
    go : (b : Bool) → eqb x 32 ≡ b → list_all is_text (cond b ([] ∷ words_of xs) (onto_first x (words_of xs))) ≡ true → (list_all is_text (words_of xs) ≡ true → is_text xs ≡ true) → is_text (x ∷ xs) ≡ true
    go true e h later = and_from (is_between 32 126 x) (is_text xs) (blank_byte x e) (later h)
    go false e h later = let b = onto_text x (words_of xs) h in and_from (is_between 32 126 x) (is_text xs) b.0 (later b.1)

-- a word that has a form, and words of their shapes
pub said_text : (line word : List ℕ) (words : List (List ℕ)) (n : ℕ) (f : Form) → words_of line ≡ word ∷ words → found_form word n act_forms ≡ Some f → shapes (kinds_of f) words ≡ true → is_text line ≡ true
said_text line word words n f are found shaped =
    let first : is_text word ≡ true = ap is_text (form_is word n act_forms f found) ∙ form_text f in
    words_text line (ap (list_all is_text) are ∙ and_from (is_text word) (list_all is_text words) first (shapes_text (kinds_of f) words shaped))
