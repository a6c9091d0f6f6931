-- The blanks of a line, by one walk over its bytes, and the words between them.
use Rattle.std.proofs.Common.{◌≡◌, ℕ, suc, ◌+◌, ◌-◌, ◌<◌, ◌≤◌, Bool, true, false, cond, eqb, List, [], ◌∷◌, ◌++◌, length, take, drop, get_or, set, sym, ap, ◌∙◌, refl, arith, length-take, length-drop}
use mir.Val.{bool_byte}
use Rattle.std.proofs.lemmas.Bool.{eqb-true}
use Rattle.std.proofs.lemmas.List.{append-nil, take_more, take-set, take_more_set}
use Rattle.std.proofs.lemmas.List.Elements.{All-nil, All-cons}
use Rattle.sat_script.specs.Words.{HasNo, IsCut, words_of, blanks_from}
use Rattle.sat_script.proofs.Cuts.{rest_is, split_cut, split_uncut}
use Rattle.sat_script.proofs.FirstWords.{drop_twice}

-- ---- the walk

-- so many bytes were seen, and so many of them were blanks
pub record AreSeen (line places : List ℕ) (count place : ℕ) : Type 0 where
  pub within : count ≤ place
  pub found : take count places ≡ blanks_from 0 (take place line)

pub seen_start : (line places : List ℕ) → AreSeen line places 0 0
unfolding blanks_from
seen_start line places = record { within = omega arith; found = refl }

abbrev pub here : ℕ → ℕ → List ℕ
here byte place = cond (eqb byte 32) (place ∷ []) []

blanks_more : (xs : List ℕ) (n m byte : ℕ) → m ≡ n + length xs → blanks_from n (xs ++ byte ∷ []) ≡ blanks_from n xs ++ here byte m
unfolding blanks_from
blanks_more [] n m byte is = rw is (go (eqb byte 32))
  where
    go : (b : Bool) → cond b (n ∷ []) [] ≡ cond b ((n + 0) ∷ []) []
    go true = ap (λ (k : ℕ). k ∷ []) (let e : n ≡ n + 0 = omega arith in e)
    go false = refl
blanks_more (x ∷ xs) n m byte is = go (eqb x 32) (blanks_more xs (n + 1) m byte (omega (arith, is)))
  where
    go : (b : Bool) → blanks_from (n + 1) (xs ++ byte ∷ []) ≡ blanks_from (n + 1) xs ++ here byte m
        → cond b (n ∷ blanks_from (n + 1) (xs ++ byte ∷ [])) (blanks_from (n + 1) (xs ++ byte ∷ [])) ≡ cond b (n ∷ blanks_from (n + 1) xs) (blanks_from (n + 1) xs) ++ here byte m
    go true more = ap (λ (ns : List ℕ). n ∷ ns) more
    go false more = more

stored : (places : List ℕ) (count place byte : ℕ) → count < length places → take (count + cond (eqb byte 32) 1 0) (set places count place) ≡ take count places ++ here byte place
stored places count place byte room = go (eqb byte 32)
  where
    go : (b : Bool) → take (count + cond b 1 0) (set places count place) ≡ take count places ++ cond b (place ∷ []) []
    go true = take_more_set places count place room
    go false = ap (λ (n : ℕ). take n (set places count place)) (let e : count + 0 ≡ count = omega arith in e) ∙ take-set places count place ∙ sym (append-nil (take count places))

bit_is : (b : Bool) → bool_byte b ≡ cond b 1 0
bit_is true = refl
bit_is false = refl

pub seen_on : (line places now : List ℕ) (count more place byte : ℕ) → AreSeen line places count place → place < length line → place < length places → byte ≡ get_or line place 0
    → now ≡ set places count place → more ≡ count + bool_byte (eqb byte 32) → AreSeen line now more (place + 1)
seen_on line places now count more place byte is inside room at kept bit =
    let counted : more ≡ count + cond (eqb byte 32) 1 0 = bit ∙ ap (λ (n : ℕ). count + n) (bit_is (eqb byte 32)) in
    let size = length-take place line in
    let within = is.within in
    let grown : take (place + 1) line ≡ take place line ++ byte ∷ [] = take_more line place 0 inside ∙ ap (λ (x : ℕ). take place line ++ x ∷ []) (sym at) in
    record {
      within = go (eqb byte 32) counted;
      found = ap (λ (ns : List ℕ). take more ns) kept ∙ ap (λ (n : ℕ). take n (set places count place)) counted ∙ stored places count place byte (omega (arith, within)) ∙ ap (λ (ns : List ℕ). ns ++ here byte place) is.found
          ∙ sym (ap (blanks_from 0) grown ∙ blanks_more (take place line) 0 place byte (omega (arith, size)));
    }
  where
    go : (b : Bool) → more ≡ count + cond b 1 0 → more ≤ place + 1
    go true e = let within = is.within in omega (arith, within, e)
    go false e = let within = is.within in omega (arith, within, e)

-- ---- the words between the blanks

-- the first blank of a text is its k-th byte
record IsBlank (xs : List ℕ) (n a k : ℕ) (later : List ℕ) : Type 0 where
  pub place : a ≡ n + k
  pub inside : k < length xs
  pub cut : IsCut 32 xs (take k xs) (drop (suc k) xs)
  pub rest : blanks_from (suc a) (drop (suc k) xs) ≡ later

first_blank : (xs : List ℕ) (n a : ℕ) (later : List ℕ) → blanks_from n xs ≡ a ∷ later → (k : ℕ) × IsBlank xs n a k later
unfolding blanks_from
first_blank [] n a later h = absurd (cc)
first_blank (x ∷ xs) n a later h = go (λ h. first_blank xs (n + 1) a later h) (eqb x 32) refl h
  where
    go : (blanks_from (n + 1) xs ≡ a ∷ later → (k : ℕ) × IsBlank xs (n + 1) a k later) → (b : Bool) → eqb x 32 ≡ b → cond b (n ∷ blanks_from (n + 1) xs) (blanks_from (n + 1) xs) ≡ a ∷ later → (k : ℕ) × IsBlank (x ∷ xs) n a k later
    go again true e h =
        let first : n ≡ a = ap (λ (ns : List ℕ). get_or ns 0 0) h in (
          0,
          record {
            place = omega (arith, first);
            inside = omega arith;
            cut = record { none = All-nil (λ byte. eqb byte 32 ≡ false); whole = ap (λ (y : ℕ). y ∷ xs) (eqb-true x 32 e) };
            rest = ap (λ (m : ℕ). blanks_from m xs) (let e : suc a ≡ n + 1 = omega (arith, first) in e) ∙ ap (drop 1) h;
          },
        )
    go again false e h =
        let more = again h in
        let is = more.1 in
        let place = is.place in
        let inside = is.inside in (
          suc more.0,
          record {
            place = omega (arith, place);
            inside = omega (arith, inside);
            cut = record { none = All-cons (λ byte. eqb byte 32 ≡ false) x (take more.0 xs) e is.cut.none; whole = ap (λ (ys : List ℕ). x ∷ ys) is.cut.whole };
            rest = is.rest;
          },
        )

no_blank : (xs : List ℕ) (n : ℕ) → blanks_from n xs ≡ [] → HasNo 32 xs
unfolding blanks_from
no_blank [] n h = All-nil (λ byte. eqb byte 32 ≡ false)
no_blank (x ∷ xs) n h = go (λ h. no_blank xs (n + 1) h) (eqb x 32) refl h
  where
    go : (blanks_from (n + 1) xs ≡ [] → HasNo 32 xs) → (b : Bool) → eqb x 32 ≡ b → cond b (n ∷ blanks_from (n + 1) xs) (blanks_from (n + 1) xs) ≡ [] → HasNo 32 (x ∷ xs)
    go again true e h = absurd (cc)
    go again false e h = All-cons (λ byte. eqb byte 32 ≡ false) x xs e (again h)

-- the first blank from a place on
pub record IsNext (line : List ℕ) (start a : ℕ) (later : List ℕ) : Type 0 where
  pub from : start ≤ a
  pub inside : a < length line
  pub words : words_of (drop start line) ≡ take (a - start) (drop start line) ∷ words_of (drop (a + 1) line)
  pub rest : blanks_from (a + 1) (drop (a + 1) line) ≡ later

pub next_blank : (line : List ℕ) (start a : ℕ) (later : List ℕ) → blanks_from start (drop start line) ≡ a ∷ later → IsNext line start a later
next_blank line start a later h =
    let found = first_blank (drop start line) start a later h in
    let k = found.0 in
    let is = found.1 in
    let place = is.place in
    let inside = is.inside in
    let size = length-drop start line in
    let behind : drop (suc k) (drop start line) ≡ drop (a + 1) line = drop_twice line start (suc k) (a + 1) (omega (arith, place)) in
    record {
      from = omega (arith, place);
      inside = omega (arith, place, inside, size);
      words = split_cut 32 (drop start line) (take k (drop start line)) (drop (suc k) (drop start line)) is.cut
          ∙ ap (λ (n : ℕ). take n (drop start line) ∷ words_of (drop (suc k) (drop start line))) (let e : k ≡ a - start = omega (arith, place) in e)
          ∙ ap (λ (ys : List ℕ). take (a - start) (drop start line) ∷ words_of ys) behind;
      rest = ap (λ (m : ℕ). blanks_from m (drop (a + 1) line)) (let e : a + 1 ≡ suc a = omega arith in e) ∙ ap (blanks_from (suc a)) (sym behind) ∙ is.rest;
    }

pub last_word : (line : List ℕ) (start : ℕ) → blanks_from start (drop start line) ≡ [] → words_of (drop start line) ≡ drop start line ∷ []
last_word line start h = split_uncut 32 (drop start line) (no_blank (drop start line) start h)

-- the places of one, two, three and four blanks
one_next : (line places : List ℕ) → 1 ≤ length places → take 1 places ≡ blanks_from 0 line → IsNext line 0 (get_or places 0 0) []
one_next line [] size h = absurd (omega (arith, size))
one_next line (a ∷ places) size h = next_blank line 0 a [] (sym h)

two_next : (line places : List ℕ) → 2 ≤ length places → take 2 places ≡ blanks_from 0 line → IsNext line 0 (get_or places 0 0) (get_or places 1 0 ∷ []) × IsNext line (get_or places 0 0 + 1) (get_or places 1 0) []
two_next line [] size h = absurd (omega (arith, size))
two_next line (a ∷ []) size h = absurd (omega (arith, size))
two_next line (a ∷ b ∷ places) size h = let first = next_blank line 0 a (b ∷ []) (sym h) in (first, next_blank line (a + 1) b [] first.rest)

three_next : (line places : List ℕ) → 3 ≤ length places → take 3 places ≡ blanks_from 0 line
    → IsNext line 0 (get_or places 0 0) (get_or places 1 0 ∷ get_or places 2 0 ∷ []) × IsNext line (get_or places 0 0 + 1) (get_or places 1 0) (get_or places 2 0 ∷ []) × IsNext line (get_or places 1 0 + 1) (get_or places 2 0) []
three_next line [] size h = absurd (omega (arith, size))
three_next line (a ∷ []) size h = absurd (omega (arith, size))
three_next line (a ∷ b ∷ []) size h = absurd (omega (arith, size))
three_next line (a ∷ b ∷ c ∷ places) size h =
    let first = next_blank line 0 a (b ∷ c ∷ []) (sym h) in
    let second = next_blank line (a + 1) b (c ∷ []) first.rest in
    (first, second, next_blank line (b + 1) c [] second.rest)

four_next : (line places : List ℕ) → 4 ≤ length places → take 4 places ≡ blanks_from 0 line
    → IsNext line 0 (get_or places 0 0) (get_or places 1 0 ∷ get_or places 2 0 ∷ get_or places 3 0 ∷ []) × IsNext line (get_or places 0 0 + 1) (get_or places 1 0) (get_or places 2 0 ∷ get_or places 3 0 ∷ [])
    × IsNext line (get_or places 1 0 + 1) (get_or places 2 0) (get_or places 3 0 ∷ []) × IsNext line (get_or places 2 0 + 1) (get_or places 3 0) []
four_next line [] size h = absurd (omega (arith, size))
four_next line (a ∷ []) size h = absurd (omega (arith, size))
four_next line (a ∷ b ∷ []) size h = absurd (omega (arith, size))
four_next line (a ∷ b ∷ c ∷ []) size h = absurd (omega (arith, size))
four_next line (a ∷ b ∷ c ∷ d ∷ places) size h =
    let first = next_blank line 0 a (b ∷ c ∷ d ∷ []) (sym h) in
    let second = next_blank line (a + 1) b (c ∷ d ∷ []) first.rest in
    let third = next_blank line (b + 1) c (d ∷ []) second.rest in
    (first, second, third, next_blank line (c + 1) d [] third.rest)

pub one_at : (line places : List ℕ) (a : ℕ) → 1 ≤ length places → take 1 places ≡ blanks_from 0 line → a ≡ get_or places 0 0 → IsNext line 0 a []
one_at line places a size h is = rw is (one_next line places size h)

pub two_at : (line places : List ℕ) (a b : ℕ) → 2 ≤ length places → take 2 places ≡ blanks_from 0 line → a ≡ get_or places 0 0 → b ≡ get_or places 1 0 → IsNext line 0 a (b ∷ []) × IsNext line (a + 1) b []
two_at line places a b size h is more = rw (is, more) (two_next line places size h)

pub three_at : (line places : List ℕ) (a b c : ℕ) → 3 ≤ length places → take 3 places ≡ blanks_from 0 line → a ≡ get_or places 0 0 → b ≡ get_or places 1 0 → c ≡ get_or places 2 0
    → IsNext line 0 a (b ∷ c ∷ []) × IsNext line (a + 1) b (c ∷ []) × IsNext line (b + 1) c []
three_at line places a b c size h is more most = rw (is, more, most) (three_next line places size h)

pub four_at : (line places : List ℕ) (a b c d : ℕ) → 4 ≤ length places → take 4 places ≡ blanks_from 0 line → a ≡ get_or places 0 0 → b ≡ get_or places 1 0 → c ≡ get_or places 2 0 → d ≡ get_or places 3 0
    → IsNext line 0 a (b ∷ c ∷ d ∷ []) × IsNext line (a + 1) b (c ∷ d ∷ []) × IsNext line (b + 1) c (d ∷ []) × IsNext line (c + 1) d []
four_at line places a b c d size h is more most all = rw (is, more, most, all) (four_next line places size h)

-- the words that are cut there
end_word : (line : List ℕ) (start a : ℕ) → IsNext line start a [] → words_of (drop (a + 1) line) ≡ take (length line - (a + 1)) (drop (a + 1) line) ∷ []
end_word line start a is = last_word line (a + 1) is.rest ∙ ap (λ (w : List ℕ). w ∷ []) (sym (rest_is line (a + 1)))

pub words_two : (line w x : List ℕ) (a : ℕ) → IsNext line 0 a [] → w ≡ take (a - 0) (drop 0 line) → x ≡ take (length line - (a + 1)) (drop (a + 1) line) → words_of line ≡ w ∷ x ∷ []
words_two line w x a is first second = rw (first, second) (is.words ∙ ap (λ (ws : List (List ℕ)). take (a - 0) line ∷ ws) (end_word line 0 a is))

pub words_three : (line w x y : List ℕ) (a b : ℕ) → IsNext line 0 a (b ∷ []) → IsNext line (a + 1) b [] → w ≡ take (a - 0) (drop 0 line) → x ≡ take (b - (a + 1)) (drop (a + 1) line) → y ≡ take (length line - (b + 1)) (drop (b + 1) line)
    → words_of line ≡ w ∷ x ∷ y ∷ []
words_three line w x y a b is on first second third =
    rw (first, second, third) (is.words ∙ ap (λ (ws : List (List ℕ)). take (a - 0) line ∷ ws) (on.words ∙ ap (λ (ws : List (List ℕ)). take (b - (a + 1)) (drop (a + 1) line) ∷ ws) (end_word line (a + 1) b on)))

pub words_four : (line w x y z : List ℕ) (a b c : ℕ) → IsNext line 0 a (b ∷ c ∷ []) → IsNext line (a + 1) b (c ∷ []) → IsNext line (b + 1) c []
    → w ≡ take (a - 0) (drop 0 line) → x ≡ take (b - (a + 1)) (drop (a + 1) line) → y ≡ take (c - (b + 1)) (drop (b + 1) line) → z ≡ take (length line - (c + 1)) (drop (c + 1) line) → words_of line ≡ w ∷ x ∷ y ∷ z ∷ []
words_four line w x y z a b c is on more first second third fourth =
    rw (first, second, third, fourth)
    (is.words ∙ ap (λ (ws : List (List ℕ)). take (a - 0) line ∷ ws)
    (on.words ∙ ap (λ (ws : List (List ℕ)). take (b - (a + 1)) (drop (a + 1) line) ∷ ws) (more.words ∙ ap (λ (ws : List (List ℕ)). take (c - (b + 1)) (drop (b + 1) line) ∷ ws) (end_word line (b + 1) c more))))

pub words_five : (line v w x y z : List ℕ) (a b c d : ℕ) → IsNext line 0 a (b ∷ c ∷ d ∷ []) → IsNext line (a + 1) b (c ∷ d ∷ []) → IsNext line (b + 1) c (d ∷ []) → IsNext line (c + 1) d []
    → v ≡ take (a - 0) (drop 0 line) → w ≡ take (b - (a + 1)) (drop (a + 1) line) → x ≡ take (c - (b + 1)) (drop (b + 1) line) → y ≡ take (d - (c + 1)) (drop (c + 1) line) → z ≡ take (length line - (d + 1)) (drop (d + 1) line)
    → words_of line ≡ v ∷ w ∷ x ∷ y ∷ z ∷ []
words_five line v w x y z a b c d is on more most first second third fourth fifth =
    rw (first, second, third, fourth, fifth)
    (is.words ∙ ap (λ (ws : List (List ℕ)). take (a - 0) line ∷ ws)
    (on.words ∙ ap (λ (ws : List (List ℕ)). take (b - (a + 1)) (drop (a + 1) line) ∷ ws)
    (more.words ∙ ap (λ (ws : List (List ℕ)). take (c - (b + 1)) (drop (b + 1) line) ∷ ws)
    (most.words ∙ ap (λ (ws : List (List ℕ)). take (d - (c + 1)) (drop (c + 1) line) ∷ ws) (end_word line (c + 1) d most)))))
