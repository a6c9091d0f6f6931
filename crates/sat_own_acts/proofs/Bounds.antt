-- How many bytes good lines have, and when a line that has begun can't be good any more.
use Rattle.std.proofs.Common.{cond, ◌≡◌, ℕ, ◌+◌, ◌-◌, ◌<◌, ◌≤◌, Bool, true, false, eqb, ltb, List, [], ◌∷◌, length, Option, Some, None, Result, Ok, Err, sym, ap, subst, ◌∙◌, refl, arith}
use Rattle.std.proofs.lemmas.Bool.Decides.{nat_tests}
use Rattle.std.proofs.lemmas.List.{length-append}
use Rattle.sat_act.specs.Deployed.{Deployed}
use Rattle.sat_own_acts.specs.OwnActs.{OwnActs, AreSound}
use Rattle.sat_own_acts.specs.Lines.{of_script, in_body, line_as, own_line, own_after}
use Rattle.sat_own_acts.specs.Texts.{Telling, may_go_on}
use Rattle.sat_own_acts.specs.Steps.{OwnState, outcome, closing, bytes_before, own_rules}
use Rattle.sat_own_acts.specs.declared.line.OwnParsed.{OwnParsed}
use Rattle.sat_own_acts.specs.declared.line.OwnParsed.TheVariants as says
use Rattle.sat_own_acts.proofs.LinesSay.{outside_body}
use Rattle.sat_own_acts.proofs.Sound.{IsOwnLine, own_line_is, script_said}
use Rattle.sat_follow.specs.ByLines.{IsStuck, IsOpen}
use Rattle.sat_script.specs.Grammar.{line_at, close_at, close_in, is_ended, next_stage, with_parsed, with_act}
use Rattle.sat_script.specs.Kept.{IsFit}
use Rattle.sat_script.specs.State.{State, first_of, header_lines, number_of, fault_at}
use Rattle.sat_script.specs.Words.{words_of}
use Rattle.sat_script.specs.declared.dialect.Limits.{Limits}
use Rattle.sat_script.specs.declared.fault.Cause.{Cause}
use Rattle.sat_script.specs.declared.fault.Cause.TheVariants.{AfterEnd, LongLine}
use Rattle.sat_script.specs.declared.limits.TheConstants.{LONGEST_LINE}
use Rattle.sat_script.specs.declared.line.Parsed.{Parsed}
use Rattle.sat_script.specs.declared.line.Parsed.TheVariants as parsed
use Rattle.sat_script.specs.declared.line.Stage.{Stage}
use Rattle.sat_script.specs.declared.line.Stage.TheVariants as stage
use Rattle.sat_script.proofs.Choices.{skipped}
use Rattle.sat_script.proofs.Stands.{Stands}
use Rattle.sat_script.specs.Dialect.{limits_of}
use Rattle.sat_script.specs.declared.dialect.Dialect.{Dialect}
use Rattle.sat_script.specs.declared.dialect.Dialect.TheVariants.{Run}
use Rattle.sat_label.specs.Formats.{limits_of as format_limits}

-- ---- how many lines, and how many bytes

abbrev count : Stage → Deployed → ℕ → ℕ
count here d acts = first_of here + header_lines d + acts

count_plain : (here : Stage) (s : State) (p : Parsed) → Stands here s p → count (next_stage here p) (with_parsed s.header p) (with_act s.acts p) ≡ count here s.header s.acts + 1
count_plain stage.Start s (parsed.Format f) h = omega arith
count_plain stage.Sites s (parsed.Sites k) h = omega arith
count_plain stage.Gears s (parsed.Gears k) h = omega arith
count_plain stage.Header s (parsed.Item item) h = omega (arith, length-append s.header.items (item ∷ []))
count_plain stage.Header s (parsed.Client line) h = omega (arith, length-append s.header.clients (line ∷ []))
count_plain stage.Header s (parsed.Plan p) h = omega (arith, length-append s.header.plans (p ∷ []))
count_plain stage.Header s parsed.Begin h = omega arith
count_plain stage.Body s (parsed.Act a) h = omega arith
count_plain stage.Body s parsed.End h = omega arith
count_plain _ s _ h = absurd h

number_after : {A : Type 0} (P : Deployed → A → Type 0) (s : State) (p : OwnParsed A) → IsOwnLine P s p → number_of (own_after s p) ≡ number_of s + 1
unfolding number_of
number_after P s (says.Plain p) is = count_plain s.stage s p is
number_after P s (says.Own a) is = omega arith

first_some : (here : Stage) → 1 ≤ first_of here
first_some stage.Start = omega arith
first_some stage.Sites = omega arith
first_some stage.Gears = omega arith
first_some stage.Header = omega arith
first_some stage.Body = omega arith
first_some stage.Ended = omega arith

first_few : (here : Stage) → first_of here ≤ 6
first_few stage.Start = omega arith
first_few stage.Sites = omega arith
first_few stage.Gears = omega arith
first_few stage.Header = omega arith
first_few stage.Body = omega arith
first_few stage.Ended = omega arith

number_some : (s : State) → 1 ≤ number_of s
unfolding number_of
number_some s = let first = first_some s.stage in omega (arith, first)

script_short : (s : State) (line : List ℕ) (p : Parsed) → line_at s line ≡ Ok p → length line ≤ LONGEST_LINE
unfolding line_at
script_short s line p h =
    let ended = skipped (is_ended s.stage) _ _ _ h in
    let long = skipped (ltb LONGEST_LINE (length line)) _ _ _ ended.1 in
    grind (arith, nat_tests, long.0)

as_short : {A : Type 0} (s : State) (line : List ℕ) (p : OwnParsed A) (o : Option (Result A Cause)) → line_as s line o ≡ Ok p → length line ≤ LONGEST_LINE
as_short s line p None h = let said = script_said (line_at s line) p h in script_short s line said.0 said.1
as_short s line p (Some said) h = let long = skipped (ltb LONGEST_LINE (length line)) _ _ _ h in grind (arith, nat_tests, long.0)

line_short : {A : Type 0} (these : OwnActs A) (s : State) (line : List ℕ) (p : OwnParsed A) → own_line these s line ≡ Ok p → length line ≤ LONGEST_LINE
unfolding own_line
line_short these s line p h = as_short s line p (in_body s.stage (these.own s (words_of line))) h

pub own_counted : {A : Type 0} (these : OwnActs A) (P : Deployed → A → Type 0) (sound : AreSound these P) (s : State) (line : List ℕ) (p : OwnParsed A) → IsFit s → own_line these s line ≡ Ok p
    → bytes_before s + length line + 1 ≤ bytes_before (own_after s p)
unfolding bytes_before
own_counted these P sound s line p fit h =
    let next = number_after P s p (own_line_is these P sound s line p fit h) in
    let some = number_some s in
    let short = line_short these s line p h in
    omega (arith, next, some, short)

-- a format that allows more items allows fewer acts
few_lines : (format n : ℕ) → n ≤ 1045 + (limits_of Run format).items + (limits_of Run format).acts → n ≤ 205200
few_lines format n few = go (eqb format 1) few
  where
    go : (b : Bool) → n ≤ 1045 + (cond b (format_limits 1) (format_limits 2)).items + (cond b (format_limits 1) (format_limits 2)).acts → n ≤ 205200
    go true few = omega (arith, few)
    go false few = omega (arith, few)

pub bytes_few : {A : Type 0} (these : OwnActs A) (P : Deployed → A → Type 0) (sound : AreSound these P) (s : State) → IsFit s → s.dialect ≡ these.dialect → bytes_before s ≤ 840704400
unfolding bytes_before number_of
bytes_few these P sound s fit is =
    let first = first_few s.stage in
    let limits : limits_of s.dialect s.header.format ≡ limits_of Run s.header.format = ap (λ (x : Dialect). limits_of x s.header.format) is ∙ sound.limits s.header.format in
    let items = subst (λ (x : Limits). length s.header.items ≤ x.items) limits fit.items in
    let clients = subst (λ (x : Limits). length s.header.clients ≤ x.clients) limits fit.clients in
    let acts = subst (λ (x : Limits). s.acts ≤ x.acts) limits fit.acts in
    let few = few_lines s.header.format (number_of s - 1) (omega (arith, first, items, clients, fit.plans, acts)) in
    omega (arith, few)

-- ---- a line that has begun

close_open : (here : Stage) (rest : List ℕ) → is_ended here ≡ false → length rest ≤ LONGEST_LINE → may_go_on (close_in here rest) ≡ true
unfolding close_in
close_open stage.Ended rest e short = absurd (let never : true ≡ false = e in cc)
close_open _ rest e short = let test : ltb LONGEST_LINE (length rest) ≡ false = grind (arith, nat_tests, short) in rw test refl

closing_open : {A E : Type 0} (tell : Telling A E) (s : OwnState E) (o : Option Cause) → may_go_on o ≡ true → (closing tell s o).may_go_on ≡ true
closing_open tell s None h = refl
closing_open tell s (Some cause) h = h

none_open : (here : Stage) → may_go_on (close_in here []) ≡ true
unfolding close_in
none_open stage.Start = refl
none_open stage.Sites = refl
none_open stage.Gears = refl
none_open stage.Header = refl
none_open stage.Body = refl
none_open stage.Ended = refl

-- before a line begins
pub open_none : {A E : Type 0} (tell : Telling A E) (s : OwnState E) → (closing tell s (close_at s.script [])).may_go_on ≡ true
open_none tell s = closing_open tell s (close_at s.script []) (none_open s.script.stage)

-- it may still be good
pub open_at : {A E : Type 0} (these : OwnActs A) (tell : Telling A E) (s : OwnState E) (count : ℕ) → is_ended s.script.stage ≡ false → count ≤ LONGEST_LINE → IsOpen (own_rules these tell) s count
open_at these tell s count ended short = record {
  short = short;
  may_go_on = λ rest size. closing_open tell s (close_at s.script rest) (close_open s.script.stage rest ended (omega (arith, size, short)));
}

-- it stands behind the end
script_ended : (s : State) (line : List ℕ) → is_ended s.stage ≡ true → line_at s line ≡ Err AfterEnd
unfolding line_at
script_ended s line ended = rw ended refl

ended_line : {A : Type 0} (these : OwnActs A) (s : State) (line : List ℕ) → s.stage ≡ stage.Ended → own_line these s line ≡ Err AfterEnd
ended_line these s line ended =
    let other : s.stage ≡ stage.Body → ⊥ = λ body. let never : stage.Ended ≡ stage.Body = sym ended ∙ body in cc in
    let test : is_ended s.stage ≡ true = ap is_ended ended in
    outside_body these s line other ∙ ap of_script (script_ended s line test)

ended_close : (here : Stage) (rest : List ℕ) → here ≡ stage.Ended → 0 < length rest → close_in here rest ≡ Some AfterEnd
unfolding close_in
ended_close stage.Ended (byte ∷ rest) e some = refl
ended_close stage.Ended [] e some = absurd (omega (arith, some))
ended_close stage.Start rest e some = absurd (cc)
ended_close stage.Sites rest e some = absurd (cc)
ended_close stage.Gears rest e some = absurd (cc)
ended_close stage.Header rest e some = absurd (cc)
ended_close stage.Body rest e some = absurd (cc)

pub stuck_ended : {A E : Type 0} (these : OwnActs A) (tell : Telling A E) (s : OwnState E) (count : ℕ) → s.script.stage ≡ stage.Ended → 0 < count → IsStuck (own_rules these tell) s count
stuck_ended these tell s count ended some = record {
  text = tell.fault (fault_at s.script AfterEnd);
  line = λ line long. ap (outcome these tell s) (ended_line these s.script line ended);
  close = λ rest long. ap (closing tell s) (ended_close s.script.stage rest ended (omega (arith, some, long)));
}

-- it is too long
long_script : (s : State) (line : List ℕ) → is_ended s.stage ≡ false → ltb LONGEST_LINE (length line) ≡ true → line_at s line ≡ Err LongLine
unfolding line_at
long_script s line ended long = rw (ended, long) refl

long_line : {A : Type 0} (these : OwnActs A) (s : State) (line : List ℕ) → is_ended s.stage ≡ false → LONGEST_LINE < length line → own_line these s line ≡ Err LongLine
unfolding own_line
long_line {A} these s line ended long =
    let test : ltb LONGEST_LINE (length line) ≡ true = grind (arith, nat_tests, long) in as_long (in_body s.stage (these.own s (words_of line))) test
  where
    as_long : (o : Option (Result A Cause)) → ltb LONGEST_LINE (length line) ≡ true → line_as s line o ≡ Err LongLine
    as_long None test = ap of_script (long_script s line ended test)
    as_long (Some said) test = rw test refl

long_close : (here : Stage) (rest : List ℕ) → is_ended here ≡ false → LONGEST_LINE < length rest → close_in here rest ≡ Some LongLine
unfolding close_in
long_close stage.Ended rest e long = absurd (let never : true ≡ false = e in cc)
long_close _ rest e long = let test : ltb LONGEST_LINE (length rest) ≡ true = grind (arith, nat_tests, long) in rw test refl

pub stuck_long : {A E : Type 0} (these : OwnActs A) (tell : Telling A E) (s : OwnState E) (count : ℕ) → is_ended s.script.stage ≡ false → LONGEST_LINE < count → IsStuck (own_rules these tell) s count
stuck_long these tell s count ended long = record {
  text = tell.fault (fault_at s.script LongLine);
  line = λ line longer. ap (outcome these tell s) (long_line these s.script line ended (omega (arith, long, longer)));
  close = λ rest longer. ap (closing tell s) (long_close s.script.stage rest ended (omega (arith, long, longer)));
}
