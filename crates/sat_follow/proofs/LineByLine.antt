-- What a piece of a line, a line and several lines do to what is made of a text.
use Rattle.std.proofs.Common.{◌≡◌, ℕ, ◌<◌, ◌≤◌, Bool, true, false, List, [], ◌∷◌, ◌++◌, length, Result, Ok, Err, IfOk, sym, ap, subst, ◌∙◌, refl, arith}
use Rattle.std.specs.List.{slice_split, onto_first}
use Rattle.std.specs.Prelude.{◌==◌}
use Rattle.std.proofs.lemmas.Bool.{eqb-true}
use Rattle.std.proofs.lemmas.List.{append-nil, append_assoc, length-append, nil_from_length}
use Rattle.std.proofs.lemmas.List.Elements.{All-head, All-tail}
use Rattle.std.proofs.lemmas.List.Splits.{slice_split-cons_no, slice_split_at, length-slice_split}
use Rattle.sat_follow.specs.Meaning.{GoesOn, StopsAt, EndsAt}
use Rattle.sat_follow.specs.Rules.{Rules, Outcome, goes, stops, Made, behind, at_end, at_fault, after_line, made_from, made, is_newline, meaning_of}
use Rattle.sat_follow.specs.ByLines.{HasNoEnd, IsLine, GoesTo, GoodLine, BadLine, EndsText, IsStuck, IsStuckAt, IsOpen, Begins, Follows, Adds, Breaks, onto_front}
use Rattle.sat_follow.specs.Answered.{ended, told_is}

-- ---- the parts of a text

abbrev parts_of : List ℕ → List (List ℕ)
parts_of text = slice_split is_newline text

-- a text has a first part
first_part : (text : List ℕ) → (part : List ℕ) × (parts : List (List ℕ)) × (parts_of text ≡ part ∷ parts)
first_part text = split (parts_of text) refl
  where
    split : (all : List (List ℕ)) → parts_of text ≡ all → (part : List ℕ) × (parts : List (List ℕ)) × (parts_of text ≡ part ∷ parts)
    split [] e = absurd (omega (arith, length-slice_split is_newline text, ap (λ (x : List (List ℕ)). length x) e))
    split (part ∷ parts) e = (part, parts, e)

onto_none : (text : List ℕ) → onto_front [] (parts_of text) ≡ parts_of text
onto_none text = let p = first_part text in rw p.2 refl

onto_byte : (b : ℕ) (front : List ℕ) (parts : List (List ℕ)) → onto_first b (onto_front front parts) ≡ onto_front (b ∷ front) parts
onto_byte b front [] = refl
onto_byte b front (part ∷ parts) = refl

onto_twice : (front more : List ℕ) (parts : List (List ℕ)) → onto_front front (onto_front more parts) ≡ onto_front (front ++ more) parts
onto_twice front more [] = refl
onto_twice front more (part ∷ parts) = ap (λ (line : List ℕ). line ∷ parts) (sym (append_assoc front more part))

split_part : (part more : List ℕ) → HasNoEnd part → parts_of (part ++ more) ≡ onto_front part (parts_of more)
split_part [] more none = sym (onto_none more)
split_part (b ∷ part) more none =
    slice_split-cons_no is_newline b (part ++ more) (All-head (λ (byte : ℕ). is_newline byte ≡ false) b part none)
    ∙ ap (onto_first b) (split_part part more (All-tail (λ (byte : ℕ). is_newline byte ≡ false) b part none))
    ∙ onto_byte b part (parts_of more)

split_line : (line more : List ℕ) → HasNoEnd line → parts_of ((line ++ 10 ∷ []) ++ more) ≡ line ∷ parts_of more
split_line line more none = ap parts_of (append_assoc line (10 ∷ []) more) ∙ slice_split_at is_newline line 10 more none refl

line_then : {S : Type 0} → (r : Rules S) (s : S) (line : List ℕ) (parts : List (List ℕ)) → 0 < length parts → made_from r s (line ∷ parts) ≡ after_line (λ later. made_from r later parts) (r.line s line)
unfolding made_from
line_then r s line [] some = absurd (omega (arith, some))
line_then r s line (part ∷ parts) some = refl

then_more : {S : Type 0} → (r : Rules S) (s : S) (line more : List ℕ) → made_from r s (line ∷ parts_of more) ≡ after_line (λ later. made_from r later (parts_of more)) (r.line s line)
then_more r s line more = line_then r s line (parts_of more) (omega (arith, length-slice_split is_newline more))

behind_twice : (a b : List ℕ) (m : Made) → behind a (behind b m) ≡ behind (a ++ b) m
behind_twice a b m =
    ap (λ (answers : List ℕ). (let x : Made = record { good = m.good; answers = answers; output = a ++ (b ++ m.output); status = m.status } in x)) (sym (append_assoc a b m.answers))
    ∙ ap (λ (output : List ℕ). (let x : Made = record { good = m.good; answers = (a ++ b) ++ m.answers; output = output; status = m.status } in x)) (sym (append_assoc a b m.output))

-- ---- bytes of a line

part_more : {S : Type 0} → (r : Rules S) (stands : S → Type 0) (begun front part : List ℕ) (had : Follows r stands begun front) → HasNoEnd part → (more : List ℕ) → made r ((front ++ part) ++ more) ≡ behind had.told (made_from r had.state (onto_front (begun ++ part) (parts_of more)))
part_more r stands begun front part had none more =
    ap (made r) (append_assoc front part more)
    ∙ had.goes_on (part ++ more)
    ∙ ap (λ (parts : List (List ℕ)). behind had.told (made_from r had.state (onto_front begun parts))) (split_part part more none)
    ∙ ap (λ (parts : List (List ℕ)). behind had.told (made_from r had.state parts)) (onto_twice begun part (parts_of more))

follows_part : {S : Type 0} → (r : Rules S) (stands : S → Type 0) (begun front part : List ℕ) (had : Follows r stands begun front) → HasNoEnd part → IsOpen r had.state (length (begun ++ part)) → Follows r stands (begun ++ part) (front ++ part)
follows_part r stands begun front part had none short = record {
  state = had.state;
  stands_for = had.stands_for;
  told = had.told;
  goes_on = part_more r stands begun front part had none;
  counted = omega (arith, had.counted, length-append front part, length-append begun part);
  few = had.few;
  short = short.short;
  may_go_on = short.may_go_on (begun ++ part) refl;
  bounded = had.bounded;
}

part_told : {S : Type 0} → (r : Rules S) (stands : S → Type 0) (begun front part : List ℕ) → Follows r stands begun front → HasNoEnd part → (made r (front ++ part)).answers ≡ (made r front).answers ++ []
unfolding made_from
part_told r stands begun front part had none =
    ap (λ (text : List ℕ). (made r text).answers) (sym (append-nil (front ++ part)))
    ∙ ap (λ (m : Made). m.answers) (part_more r stands begun front part had none [])
    ∙ ap (λ (told : List ℕ). told ++ []) (sym (told_is r stands begun front had))

pub adds_part : {S : Type 0} → (r n : Rules S) (stands : S → Type 0) (begun longer part text : List ℕ) (count : ℕ) → n ≡ r → HasNoEnd part → longer ≡ begun ++ part → count ≡ length longer → ((s : S) → stands s → IsOpen n s count)
    → Adds r (Follows r stands begun) (Follows r stands longer) part text text
adds_part {S} r n stands begun longer part text count same none is size short = record {
  added = [];
  longer_by = sym (append-nil text);
  follows = λ front had. subst (λ (bytes : List ℕ). Follows r stands bytes (front ++ part)) (sym is)
      (follows_part r stands begun front part had none (subst (IsOpen r had.state) (size ∙ ap (λ (bytes : List ℕ). length bytes) is) (subst (λ (x : Rules S). IsOpen x had.state count) same (short had.state had.stands_for))));
  answers = λ front had. part_told r stands begun front part had none;
}

-- ---- a line that is stuck

stuck_made : {S : Type 0} → (r : Rules S) (s : S) (line : List ℕ) (parts : List (List ℕ)) (count : ℕ) (stuck : IsStuck r s count) → count ≤ length line → made_from r s (onto_front line parts) ≡ at_fault stuck.text
unfolding made_from
stuck_made r s line [] count stuck long = ap at_end (stuck.close line long)
stuck_made r s line (part ∷ []) count stuck long = ap at_end (stuck.close (line ++ part) (omega (arith, long, length-append line part)))
stuck_made r s line (part ∷ next ∷ parts) count stuck long =
    ap (after_line (λ later. made_from r later (next ∷ parts))) (stuck.line (line ++ part) (omega (arith, long, length-append line part)))

-- what a fault behind answers makes
fault_made : {S : Type 0} → (r : Rules S) (stands : S → Type 0) (begun front text : List ℕ) (m : Made) (had : Follows r stands begun front) → m ≡ behind had.told (at_fault text) → (m.output ≡ (made r front).answers ++ text) × (m.status ≡ 1)
fault_made r stands begun front text m had is =
    (ap (λ (x : Made). x.output) is ∙ ap (λ (told : List ℕ). told ++ text) (sym (told_is r stands begun front had)), ap (λ (x : Made). x.status) is)

stops_same : {S : Type 0} → (a b : List ℕ) → (let x : Outcome S = stops a in x) ≡ stops b → a ≡ b
stops_same a b e = cc

goes_not : {S : Type 0} → {X : Type 0} → (s : S) (a b : List ℕ) → (let x : Outcome S = goes s a in x) ≡ stops b → X
goes_not s a b e = absurd (cc)

breaks_stuck : {S : Type 0} → (r : Rules S) (stands : S → Type 0) (begun part text longer added : List ℕ) → HasNoEnd part → longer ≡ text ++ added → ((s : S) → stands s → IsStuck r s (length (begun ++ part))) → ((s : S) → stands s → r.line s (begun ++ part) ≡ stops added)
    → Breaks r (Follows r stands begun) part text longer
breaks_stuck r stands begun part text longer added none by stuck line = record {
  added = added;
  longer_by = by;
  output = λ front more had. (fault front more had).0;
  status = λ front more had. (fault front more had).1;
}
  where
    fault : (front more : List ℕ) (had : Follows r stands begun front) → ((made r ((front ++ part) ++ more)).output ≡ (made r front).answers ++ added) × ((made r ((front ++ part) ++ more)).status ≡ 1)
    fault front more had =
        let at = stuck had.state had.stands_for in
        let text_is : at.text ≡ added = stops_same at.text added (sym (at.line (begun ++ part) (omega arith)) ∙ line had.state had.stands_for) in
        fault_made r stands begun front added _ had
        (part_more r stands begun front part had none more
        ∙ ap (behind had.told) (stuck_made r had.state (begun ++ part) (parts_of more) (length (begun ++ part)) at (omega arith) ∙ ap at_fault text_is))

pub breaks_part : {S : Type 0} → (r n : Rules S) (old new : S → Type 0) (begun line part text longer : List ℕ) (count : ℕ) (good : Bool) → n ≡ r → HasNoEnd part → line ≡ begun ++ part → count ≡ length line → ((s : S) → old s → IsStuck n s count)
    → (good ≡ true → GoodLine n old new line text longer) → (good ≡ false → BadLine n old line text longer) → Breaks r (Follows r old begun) part text longer
breaks_part {S} r n old new begun line part text longer count false same none is size stuck fine bad =
    let at = bad refl in
    breaks_stuck r old begun part text longer at.added none at.longer_by
    (λ s had. subst (IsStuck r s) (size ∙ ap (λ (bytes : List ℕ). length bytes) is) (subst (λ (x : Rules S). IsStuck x s count) same (stuck s had)))
    (λ s had. subst (λ (bytes : List ℕ). r.line s bytes ≡ stops at.added) is (subst (λ (x : Rules S). x.line s line ≡ stops at.added) same (at.each s had)))
breaks_part {S} r n old new begun line part text longer count true same none is size stuck fine bad =
    let at = fine refl in
    breaks_stuck r old begun part text longer at.added none at.longer_by
    (λ s had. subst (IsStuck r s) (size ∙ ap (λ (bytes : List ℕ). length bytes) is) (subst (λ (x : Rules S). IsStuck x s count) same (stuck s had)))
    (λ s had. let to = at.each s had in goes_not to.after at.added (stuck s had).text (sym to.says ∙ (stuck s had).line line (omega (arith, size))))

-- ---- a whole line

line_more : {S : Type 0} → (r : Rules S) (stands : S → Type 0) (begun front part : List ℕ) (had : Follows r stands begun front) → HasNoEnd part → (more : List ℕ)
    → made r ((front ++ (part ++ 10 ∷ [])) ++ more) ≡ behind had.told (after_line (λ later. made_from r later (parts_of more)) (r.line had.state (begun ++ part)))
line_more r stands begun front part had none more =
    ap (made r) (append_assoc front (part ++ 10 ∷ []) more)
    ∙ had.goes_on ((part ++ 10 ∷ []) ++ more)
    ∙ ap (λ (parts : List (List ℕ)). behind had.told (made_from r had.state (onto_front begun parts))) (split_line part more none)
    ∙ ap (behind had.told) (then_more r had.state (begun ++ part) more)

follows_line : {S : Type 0} → (r : Rules S) (old new : S → Type 0) (begun front part added : List ℕ) (had : Follows r old begun front) → HasNoEnd part → GoesTo r had.state (begun ++ part) added new → Follows r new [] (front ++ (part ++ 10 ∷ []))
follows_line r old new begun front part added had none to = record {
  state = to.after;
  stands_for = to.stands;
  told = had.told ++ added;
  goes_on = λ more.
      line_more r old begun front part had none more
      ∙ ap (λ o. behind had.told (after_line (λ later. made_from r later (parts_of more)) o)) to.says
      ∙ behind_twice had.told added (made_from r to.after (parts_of more))
      ∙ ap (λ (parts : List (List ℕ)). behind (had.told ++ added) (made_from r to.after parts)) (sym (onto_none more));
  counted = omega (arith, had.counted, to.counted, length-append front (part ++ 10 ∷ []), length-append part (10 ∷ []), length-append begun part);
  few = to.few;
  short = omega arith;
  may_go_on = to.may_go_on;
  bounded = had.bounded;
}

pub adds_line : {S : Type 0} → (r n : Rules S) (old new : S → Type 0) (begun line part text longer : List ℕ) → n ≡ r → HasNoEnd part → line ≡ begun ++ part → GoodLine n old new line text longer → Adds r (Follows r old begun) (Follows r new []) (part ++ 10 ∷ []) text longer
unfolding follows_line
adds_line {S} r n old new begun line part text longer same none is good = record {
  added = good.added;
  longer_by = good.longer_by;
  follows = λ front had. on front had;
  answers = λ front had. told_is r new [] (front ++ (part ++ 10 ∷ [])) (on front had) ∙ ap (λ (told : List ℕ). told ++ good.added) (sym (told_is r old begun front had));
}
  where
    on : (front : List ℕ) → (had : Follows r old begun front) → Follows r new [] (front ++ (part ++ 10 ∷ []))
    on front had = follows_line r old new begun front part good.added had none
        (subst (λ (bytes : List ℕ). GoesTo r had.state bytes good.added new) is (subst (λ (x : Rules S). GoesTo x had.state line good.added new) same (good.each had.state had.stands_for)))

pub breaks_line : {S : Type 0} → (r n : Rules S) (old : S → Type 0) (begun line part text longer : List ℕ) → n ≡ r → HasNoEnd part → line ≡ begun ++ part → BadLine n old line text longer → Breaks r (Follows r old begun) (part ++ 10 ∷ []) text longer
breaks_line {S} r n old begun line part text longer same none is bad = record {
  added = bad.added;
  longer_by = bad.longer_by;
  output = λ front more had. (fault front more had).0;
  status = λ front more had. (fault front more had).1;
}
  where
    fault : (front more : List ℕ) (had : Follows r old begun front) → ((made r ((front ++ (part ++ 10 ∷ [])) ++ more)).output ≡ (made r front).answers ++ bad.added) × ((made r ((front ++ (part ++ 10 ∷ [])) ++ more)).status ≡ 1)
    fault front more had =
        fault_made r old begun front bad.added _ had
        (line_more r old begun front part had none more
        ∙ ap (λ o. behind had.told (after_line (λ later. made_from r later (parts_of more)) o))
        (subst (λ (bytes : List ℕ). r.line had.state bytes ≡ stops bad.added) is (subst (λ (x : Rules S). x.line had.state line ≡ stops bad.added) same (bad.each had.state had.stands_for))))

pub adds_line_then : {S : Type 0} → (r n : Rules S) (old new : S → Type 0) (begun line next part text longer : List ℕ) → n ≡ r → HasNoEnd part → line ≡ begun ++ part → next ≡ [] → GoodLine n old new line text longer → Adds r (Follows r old begun) (Follows r new next) (part ++ 10 ∷ []) text longer
adds_line_then {S} r n old new begun line next part text longer same none is empty good =
    subst (λ (bytes : List ℕ). Adds r (Follows r old begun) (Follows r new bytes) (part ++ 10 ∷ []) text longer) (sym empty) (adds_line r n old new begun line part text longer same none is good)

-- a line that lies whole in a piece
pub adds_whole : {E S : Type 0} → (r n : Rules S) (old new : S → Type 0) (begun part text longer : List ℕ) (result : Result Bool E) → n ≡ r → HasNoEnd part → begun ≡ [] → IfOk result (λ good. good ≡ true → GoodLine n old new part text longer)
    → IfOk result (λ good. good ≡ true → Adds r (Follows r old begun) (Follows r new begun) (part ++ 10 ∷ []) text longer)
adds_whole r n old new begun part text longer (Ok good) same none empty fine = λ is. adds_line_then r n old new begun part begun part text longer same none (ap (λ (bytes : List ℕ). bytes ++ part) (sym empty)) empty (fine is)
adds_whole r n old new begun part text longer (Err e) same none empty fine = tt

pub breaks_whole : {E S : Type 0} → (r n : Rules S) (old : S → Type 0) (begun part text longer : List ℕ) (result : Result Bool E) → n ≡ r → HasNoEnd part → begun ≡ [] → IfOk result (λ good. good ≡ false → BadLine n old part text longer)
    → IfOk result (λ good. good ≡ false → Breaks r (Follows r old begun) (part ++ 10 ∷ []) text longer)
breaks_whole r n old begun part text longer (Ok good) same none empty bad = λ is. breaks_line r n old begun part part text longer same none (ap (λ (bytes : List ℕ). bytes ++ part) (sym empty)) (bad is)
breaks_whole r n old begun part text longer (Err e) same none empty bad = tt

pub empty_is : (xs : List ℕ) → true ≡ (length xs == 0) → xs ≡ []
empty_is xs e = nil_from_length xs (eqb-true (length xs) 0 (sym e))

-- what a test says of a line that has begun
pub stuck_at : {S : Type 0} → (r : Rules S) (s : S) (count : ℕ) (test : Bool) → test ≡ true → IsStuckAt r s count test → IsStuck r s count
stuck_at r s count test is at = subst (IsStuckAt r s count) is at

pub open_at : {S : Type 0} → (r : Rules S) (s : S) (count : ℕ) (test : Bool) → test ≡ false → IsStuckAt r s count test → IsOpen r s count
open_at r s count test is at = subst (IsStuckAt r s count) is at

-- ---- one after another

pub adds_on : {S : Type 0} → (r : Rules S) (a b c : List ℕ → Type 0) (xs ys text mid longer : List ℕ) → Adds r a b xs text mid → Adds r b c ys mid longer → Adds r a c (xs ++ ys) text longer
adds_on r a b c xs ys text mid longer one two = record {
  added = one.added ++ two.added;
  longer_by = two.longer_by ∙ ap (λ (bytes : List ℕ). bytes ++ two.added) one.longer_by ∙ append_assoc text one.added two.added;
  follows = λ front had. subst c (append_assoc front xs ys) (two.follows (front ++ xs) (one.follows front had));
  answers = λ front had.
      ap (λ (bytes : List ℕ). (made r bytes).answers) (sym (append_assoc front xs ys))
      ∙ two.answers (front ++ xs) (one.follows front had)
      ∙ ap (λ (told : List ℕ). told ++ two.added) (one.answers front had)
      ∙ append_assoc (made r front).answers one.added two.added;
}

pub adds_break : {S : Type 0} → (r : Rules S) (a b : List ℕ → Type 0) (xs ys text mid longer : List ℕ) → Adds r a b xs text mid → Breaks r b ys mid longer → Breaks r a (xs ++ ys) text longer
adds_break r a b xs ys text mid longer one two = record {
  added = one.added ++ two.added;
  longer_by = two.longer_by ∙ ap (λ (bytes : List ℕ). bytes ++ two.added) one.longer_by ∙ append_assoc text one.added two.added;
  output = λ front more had.
      ap (λ (bytes : List ℕ). (made r (bytes ++ more)).output) (sym (append_assoc front xs ys))
      ∙ two.output (front ++ xs) more (one.follows front had)
      ∙ ap (λ (told : List ℕ). told ++ two.added) (one.answers front had)
      ∙ append_assoc (made r front).answers one.added two.added;
  status = λ front more had. ap (λ (bytes : List ℕ). (made r (bytes ++ more)).status) (sym (append_assoc front xs ys)) ∙ two.status (front ++ xs) more (one.follows front had);
}

pub breaks_more : {S : Type 0} → (r : Rules S) (a : List ℕ → Type 0) (xs ys text longer : List ℕ) → Breaks r a xs text longer → Breaks r a (xs ++ ys) text longer
breaks_more r a xs ys text longer one = record {
  added = one.added;
  longer_by = one.longer_by;
  output = λ front more had. ap (λ (bytes : List ℕ). (made r bytes).output) (again front more) ∙ one.output front (ys ++ more) had;
  status = λ front more had. ap (λ (bytes : List ℕ). (made r bytes).status) (again front more) ∙ one.status front (ys ++ more) had;
}
  where
    again : (front more : List ℕ) → (front ++ (xs ++ ys)) ++ more ≡ (front ++ xs) ++ (ys ++ more)
    again front more = ap (λ (bytes : List ℕ). bytes ++ more) (sym (append_assoc front xs ys)) ∙ append_assoc (front ++ xs) ys more

-- ---- a piece

-- a front of a piece was taken, and this is the rest of it
pub record HasTaken {S : Type 0} (r : Rules S) (old now : List ℕ → Type 0) (piece rest text longer : List ℕ) : Type 0 where
  pub front : List ℕ
  pub whole : piece ≡ front ++ rest
  pub adds : Adds r old now front text longer

pub taken_line : {S : Type 0} → (r : Rules S) (a b c : List ℕ → Type 0) (piece rest line more text mid longer : List ℕ) → HasTaken r a b piece rest text mid → IsLine rest line more → Adds r b c (line ++ 10 ∷ []) mid longer → HasTaken r a c piece more text longer
taken_line r a b c piece rest line more text mid longer had cut adds = record {
  front = had.front ++ (line ++ 10 ∷ []);
  whole = had.whole ∙ ap (λ (bytes : List ℕ). had.front ++ bytes) (cut.whole ∙ sym (append_assoc line (10 ∷ []) more)) ∙ sym (append_assoc had.front (line ++ 10 ∷ []) more);
  adds = adds_on r a b c had.front (line ++ 10 ∷ []) text mid longer had.adds adds;
}

pub taken_breaks : {S : Type 0} → (r : Rules S) (a b : List ℕ → Type 0) (piece rest line more text mid longer : List ℕ) → HasTaken r a b piece rest text mid → IsLine rest line more → Breaks r b (line ++ 10 ∷ []) mid longer → Breaks r a piece text longer
taken_breaks r a b piece rest line more text mid longer had cut breaks =
    subst (λ (bytes : List ℕ). Breaks r a bytes text longer) (sym (had.whole ∙ ap (λ (bytes : List ℕ). had.front ++ bytes) (cut.whole ∙ sym (append_assoc line (10 ∷ []) more))))
    (adds_break r a b had.front ((line ++ 10 ∷ []) ++ more) text mid longer had.adds (breaks_more r b (line ++ 10 ∷ []) more mid longer breaks))

pub taken_adds : {E S : Type 0} → (r : Rules S) (a b c : List ℕ → Type 0) (piece rest text mid longer : List ℕ) (result : Result Bool E) → HasTaken r a b piece rest text mid → IfOk result (λ good. good ≡ true → Adds r b c rest mid longer) → IfOk result (λ good. good ≡ true → Adds r a c piece text longer)
taken_adds r a b c piece rest text mid longer (Ok good) had last = λ is. subst (λ (bytes : List ℕ). Adds r a c bytes text longer) (sym had.whole) (adds_on r a b c had.front rest text mid longer had.adds (last is))
taken_adds r a b c piece rest text mid longer (Err e) had last = tt

pub taken_bad : {E S : Type 0} → (r : Rules S) (a b : List ℕ → Type 0) (piece rest text mid longer : List ℕ) (result : Result Bool E) → HasTaken r a b piece rest text mid → IfOk result (λ good. good ≡ false → Breaks r b rest mid longer) → IfOk result (λ good. good ≡ false → Breaks r a piece text longer)
taken_bad r a b piece rest text mid longer (Ok good) had last = λ is. subst (λ (bytes : List ℕ). Breaks r a bytes text longer) (sym had.whole) (adds_break r a b had.front rest text mid longer had.adds (last is))
taken_bad r a b piece rest text mid longer (Err e) had last = tt

-- ---- the calls of a follower

pub follows_start : {S : Type 0} → (r : Rules S) (stands : S → Type 0) (begun : List ℕ) → begun ≡ [] → Begins r stands → Follows r stands begun []
unfolding made
follows_start r stands begun none is = record {
  state = r.start;
  stands_for = is.stands_for;
  told = [];
  goes_on = λ more. ap (made_from r r.start) (sym (onto_none more) ∙ ap (λ (front : List ℕ). onto_front front (parts_of more)) (sym none));
  counted = omega arith;
  few = is.few;
  short = omega (arith, ap (λ (bytes : List ℕ). length bytes) none);
  may_go_on = rw none is.may_go_on;
  bounded = is.bounded;
}

pub goes_on_of : {E S : Type 0} → (r n : Rules S) (old new : S → Type 0) (begun next piece text longer : List ℕ) (result : Result Bool E) → n ≡ r → text ≡ [] → IfOk result (λ good. good ≡ true → Adds r (Follows r old begun) (Follows r new next) piece text longer)
    → IfOk result (λ good. good ≡ true → GoesOn (meaning_of r) (Follows r old begun) (Follows n new next) piece longer)
goes_on_of {S = S} r n old new begun next piece text longer (Ok good) same none adds = λ is.
    let at = adds is in
    let by : at.added ≡ longer = sym (at.longer_by ∙ ap (λ (bytes : List ℕ). bytes ++ at.added) none) in record {
      follows = λ front had. subst (λ (x : Rules S). Follows x new next (front ++ piece)) (sym same) (at.follows front had);
      answers = λ front had. at.answers front had ∙ ap (λ (bytes : List ℕ). (made r front).answers ++ bytes) by;
    }
goes_on_of r n old new begun next piece text longer (Err e) same none adds = tt

pub stops_at_of : {E S : Type 0} → (r : Rules S) (old : S → Type 0) (begun piece text longer : List ℕ) (result : Result Bool E) → text ≡ [] → IfOk result (λ good. good ≡ false → Breaks r (Follows r old begun) piece text longer)
    → IfOk result (λ good. good ≡ false → StopsAt (meaning_of r) (Follows r old begun) piece longer)
stops_at_of r old begun piece text longer (Ok good) none breaks = λ is.
    let at = breaks is in
    let by : at.added ≡ longer = sym (at.longer_by ∙ ap (λ (bytes : List ℕ). bytes ++ at.added) none) in record {
      output = λ front more had. at.output front more had ∙ ap (λ (bytes : List ℕ). (made r front).answers ++ bytes) by;
      status = at.status;
    }
stops_at_of r old begun piece text longer (Err e) none breaks = tt

pub ends_at_of : {E S : Type 0} → (r : Rules S) (old : S → Type 0) (begun rest text longer : List ℕ) (result : Result ℕ E) → text ≡ [] → rest ≡ begun → IfOk result (λ status. EndsText r old rest text longer status)
    → IfOk result (λ status. EndsAt (meaning_of r) (Follows r old begun) longer status)
ends_at_of r old begun rest text longer (Ok status) none same ends =
    let by : ends.added ≡ longer = sym (ends.longer_by ∙ ap (λ (bytes : List ℕ). bytes ++ ends.added) none) in record {
      output = λ front had.
          ap (λ (m : Made). m.output) (ended r old begun front had)
          ∙ ap (λ (bytes : List ℕ). had.told ++ (r.close had.state bytes).text) (sym same)
          ∙ ap (λ (bytes : List ℕ). had.told ++ bytes) (ends.text_is had.state had.stands_for ∙ by)
          ∙ ap (λ (told : List ℕ). told ++ longer) (sym (told_is r old begun front had));
      status_is = λ front had. ap (λ (m : Made). m.status) (ended r old begun front had) ∙ ap (λ (bytes : List ℕ). (r.close had.state bytes).status) (sym same) ∙ ends.status_is had.state had.stands_for;
    }
ends_at_of r old begun rest text longer (Err e) none same ends = tt
