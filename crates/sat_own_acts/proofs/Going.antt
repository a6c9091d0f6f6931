-- A follower of scripts with acts of the command's own, line by line, and the states that it stands for.
use Rattle.std.proofs.Common.{◌≡◌, ◌≢◌, inl, inr, ℕ, ◌+◌, ◌<◌, ◌≤◌, false, ltb, List, [], ◌++◌, length, Option, Some, None, Result, Ok, Err, append-nil, refl, sym, ap, subst, ◌∙◌, arith}
use Rattle.std.specs.Prelude.{IfSome}
use Rattle.sat_act.specs.Deployed.{Deployed}
use Rattle.sat_own_acts.specs.OwnActs.{OwnActs, AreSound}
use Rattle.sat_own_acts.specs.Lines.{own_line, own_after, line_as, in_body, of_own}
use Rattle.sat_own_acts.specs.Texts.{Telling}
use Rattle.sat_own_acts.specs.Steps.{OwnState, act_in, entries_with, told_with, state_after, outcome, own_rules}
use Rattle.sat_own_acts.specs.Held.{HeldSeen, IsMachineOf, StandFor, IsHeld, StandsAt, GoesBy, KeepsLine}
use Rattle.sat_own_acts.specs.declared.line.OwnParsed.{OwnParsed}
use Rattle.sat_own_acts.specs.declared.line.OwnParsed.TheVariants as says
use Rattle.sat_own_acts.proofs.Sound.{own_line_is, own_fit, script_said}
use Rattle.sat_own_acts.proofs.Bounds.{own_counted, bytes_few, open_none, open_at, stuck_ended, stuck_long}
use Rattle.sat_own_acts.proofs.Reading.{not_ended, deployed_is, deployed_after, IsActLine, act_line_is, acts_grow, reader_moves}
use Rattle.sat_follow.specs.ByLines.{Begins, GoodLine, BadLine, IsStuck, IsOpen}
use Rattle.sat_follow.specs.Rules.{goes, stops}
use Rattle.sat_script.specs.Grammar.{line_at, after, is_ended}
use Rattle.sat_script.specs.Kept.{IsFit}
use Rattle.sat_script.specs.Lines.{Takes, IsGoodLine, running}
use Rattle.sat_script.specs.State.{State, Seen, start, deployment_of, fault_at, with_one_act}
use Rattle.sat_script.specs.Words.{is_text, words_of}
use Rattle.sat_script.specs.declared.fault.Cause.{Cause}
use Rattle.sat_script.specs.declared.fault.Cause.TheVariants.{Memory}
use Rattle.sat_script.specs.declared.fault.ScriptFault.{ScriptFault}
use Rattle.sat_script.specs.declared.limits.TheConstants.{LONGEST_LINE}
use Rattle.sat_script.specs.declared.line.Line.{Line}
use Rattle.sat_script.specs.declared.line.Parsed.{Parsed}
use Rattle.sat_script.specs.declared.line.Stage.TheVariants as stage
use Rattle.sat_script.proofs.Choices.{passed, skipped, same_ok}
use Rattle.sat_script.proofs.Fits.{fit_start, line_is, stands_after}
use Rattle.sat_script.proofs.Stands.{Stands}

-- ---- what holds of each state that it stands for

pub state_is : {M E : Type 0} (For : M → List E → Type 0) (v : HeldSeen M) (s : OwnState E) → StandsAt For v s → v.reader.state ≡ s.script
state_is For v s st = ap (λ (x : Seen). x.state) st.reader

pub fit_at : {M E : Type 0} (For : M → List E → Type 0) (v : HeldSeen M) (s : OwnState E) → IsFit v.reader.state → StandsAt For v s → IsFit s.script
fit_at For v s fit st = subst IsFit (state_is For v s st) fit

dialect_at : {A M E : Type 0} (these : OwnActs A) (For : M → List E → Type 0) (v : HeldSeen M) (s : OwnState E) → v.reader.state.dialect ≡ these.dialect → StandsAt For v s → s.script.dialect ≡ these.dialect
dialect_at these For v s is st = ap (λ (x : State). x.dialect) (sym (state_is For v s st)) ∙ is

-- its machine is of the deployment that the header says
machine_is : {M : Type 0} (of : M → Deployed) (o : Option Deployed) (held : Option M) (m : M) → IsMachineOf of o held → held ≡ Some m → o ≡ Some (of m)
machine_is of o held m had is = subst (λ x. IsMachineOf of o x) is had

pub header_at : {A M E : Type 0} (these : OwnActs A) (of : M → Deployed) (Fits : ℕ → M → Type 0) (For : M → List E → Type 0) (v : HeldSeen M) (s : OwnState E) (m : M) → IsHeld these of Fits For v → StandsAt For v s → v.machine ≡ Some m → s.script.header ≡ of m
header_at these of Fits For v s m held st is =
    ap (λ (t : State). t.header) (sym (state_is For v s st)) ∙ deployed_is v.reader.state.stage v.reader.state.header (of m) (machine_is of (deployment_of v.reader.state) v.machine m held.machine_of is)

-- ---- before the first line

pub begins : {A M E : Type 0} (these : OwnActs A) (P : Deployed → A → Type 0) (law : AreSound these P) (tell : Telling A E) (For : M → List E → Type 0) (v : HeldSeen M)
    → v.reader ≡ running (start these.dialect) → v.machine ≡ None → v.answered ≡ 0 → Begins (own_rules these tell) (StandsAt For v)
begins these P law tell For v reader machine answered = record {
  stands_for = record { reader = reader; answered = answered; machine = subst (λ o. StandFor For o []) (sym machine) refl };
  few = bytes_few these P law (start these.dialect) (fit_start these.dialect) refl;
  may_go_on = open_none tell (record { script = start these.dialect; entries = [] });
  bounded = omega arith;
}

-- ---- a bad line

-- ---- a good line

same_dialect : {A : Type 0} (s : State) (p : OwnParsed A) → (own_after s p).dialect ≡ s.dialect
same_dialect s (says.Plain q) = refl
same_dialect s (says.Own a) = refl

line_here : {A M E : Type 0} (these : OwnActs A) (For : M → List E → Type 0) (v : HeldSeen M) (s : OwnState E) (line : List ℕ) (p : OwnParsed A) → StandsAt For v s → own_line these v.reader.state line ≡ Ok p → own_line these s.script line ≡ Ok p
line_here these For v s line p st is = ap (λ (x : State). own_line these x line) (sym (state_is For v s st)) ∙ is

good_line : {A M E : Type 0} (these : OwnActs A) (P : Deployed → A → Type 0) (law : AreSound these P) (tell : Telling A E) (of : M → Deployed) (Fits : ℕ → M → Type 0) (For : M → List E → Type 0) (old new : HeldSeen M) (line : List ℕ)
    (p : OwnParsed A) (added text longer : List ℕ) → IsHeld these of Fits For old → own_line these old.reader.state line ≡ Ok p → longer ≡ text ++ added
    → ((s : OwnState E) → StandsAt For old s → told_with tell s.script.header s.entries (act_in these p) ≡ added)
    → ((s : OwnState E) → StandsAt For old s → StandsAt For new (state_after these tell s p))
    → GoodLine (own_rules these tell) (StandsAt For old) (StandsAt For new) line text longer
good_line these P law tell of Fits For old new line p added text longer held is by told stands = record {
  added = added;
  longer_by = by;
  each = λ s st.
      let here = line_here these For old s line p st is in
      let fit = fit_at For old s held.fit st in
      let next = own_fit P s.script p fit (own_line_is these P law s.script line p fit here) in
      record {
        after = state_after these tell s p;
        says = ap (outcome these tell s) here ∙ ap (goes (state_after these tell s p)) (told s st);
        stands = stands s st;
        counted = own_counted these P law s.script line p fit here;
        few = bytes_few these P law (own_after s.script p) next (same_dialect s.script p ∙ dialect_at these For old s held.dialect_is st);
        may_go_on = open_none tell (state_after these tell s p);
      };
}

-- a line that says an act, which was done and answered
pub good_act : {A M E : Type 0} (these : OwnActs A) (P : Deployed → A → Type 0) (law : AreSound these P) (tell : Telling A E) (of : M → Deployed) (Fits : ℕ → M → Type 0) (For : M → List E → Type 0) (old new : HeldSeen M) (line : List ℕ)
    (p : OwnParsed A) (a : A) (text longer : List ℕ) → IsHeld these of Fits For old → own_line these old.reader.state line ≡ Ok p → act_in these p ≡ Some a → GoesBy tell For old a new text longer
    → GoodLine (own_rules these tell) (StandsAt For old) (StandsAt For new) line text longer
good_act {A} {M} {E} these P law tell of Fits For old new line p a text longer held is act goes_by =
    good_line these P law tell of Fits For old new line p goes_by.added text longer held is goes_by.longer_by
    (λ s st. ap (told_with tell s.script.header s.entries) act ∙ sym (goes_by.each s st))
    (λ s st.
    let fit = fit_at For old s held.fit st in
    let there = act_line_is these P law s.script p a (dialect_at these For old s held.dialect_is st) (own_line_is these P law s.script line p fit (line_here these For old s line p st is)) act in
    subst (λ (x : State). StandsAt For new (record { script = x; entries = entries_with tell s.script.header s.entries (act_in these p) })) (sym there.counted)
    (subst (λ (o : Option A). StandsAt For new (record { script = with_one_act s.script; entries = entries_with tell s.script.header s.entries o })) (sym act) (goes_by.stands s st)))

-- what the act of such a line asks
pub act_there : {A M E : Type 0} (these : OwnActs A) (P : Deployed → A → Type 0) (law : AreSound these P) (of : M → Deployed) (Fits : ℕ → M → Type 0) (For : M → List E → Type 0) (v : HeldSeen M) (line : List ℕ) (p : OwnParsed A) (a : A)
    → IsHeld these of Fits For v → own_line these v.reader.state line ≡ Ok p → act_in these p ≡ Some a → IsActLine P v.reader.state p a
act_there these P law of Fits For v line p a held is act = act_line_is these P law v.reader.state p a held.dialect_is (own_line_is these P law v.reader.state line p held.fit is) act

-- a line that says none is one of any script
no_own : {A : Type 0} (these : OwnActs A) (said : Result A Cause) (p : OwnParsed A) → of_own said ≡ Ok p → act_in these p ≡ None → ⊥
no_own these (Ok a) p h none = let is : says.Own a ≡ p = cc in let never : Some a ≡ None = ap (act_in these) is ∙ none in cc
no_own these (Err cause) p h none = cc

plain_as : {A : Type 0} (these : OwnActs A) (s : State) (line : List ℕ) (o : Option (Result A Cause)) (p : OwnParsed A) → line_as s line o ≡ Ok p → act_in these p ≡ None → (q : Parsed) × (line_at s line ≡ Ok q) × (says.Plain q ≡ p)
plain_as these s line None p h none = script_said (line_at s line) p h
plain_as these s line (Some said) p h none =
    let short = skipped (ltb LONGEST_LINE (length line)) _ _ _ h in
    let text = passed (is_text line) _ _ _ short.1 in
    absurd (no_own these said p text.1 none)

plain_at : {A : Type 0} (these : OwnActs A) (s : State) (line : List ℕ) (p : OwnParsed A) → own_line these s line ≡ Ok p → act_in these p ≡ None → (q : Parsed) × (line_at s line ≡ Ok q) × (says.Plain q ≡ p)
unfolding own_line
plain_at these s line p h none = plain_as these s line (in_body s.stage (these.own s (words_of line))) p h none

pub good_keep : {A M E : Type 0} (these : OwnActs A) (P : Deployed → A → Type 0) (law : AreSound these P) (tell : Telling A E) (of : M → Deployed) (Fits : ℕ → M → Type 0) (For : M → List E → Type 0) (old new : HeldSeen M) (line : List ℕ)
    (p : OwnParsed A) (text : List ℕ) → IsHeld these of Fits For old → own_line these old.reader.state line ≡ Ok p → act_in these p ≡ None → KeepsLine For old line new
    → GoodLine (own_rules these tell) (StandsAt For old) (StandsAt For new) line text text
good_keep {A} {M} {E} these P law tell of Fits For old new line p text held is none keeps =
    let plain = plain_at these old.reader.state line p is none in
    good_line these P law tell of Fits For old new line p [] text text held is (sym (append-nil text))
    (λ s st. ap (told_with tell s.script.header s.entries) none)
    (λ s st.
    subst (λ (o : Option A). StandsAt For new (record { script = own_after s.script p; entries = entries_with tell s.script.header s.entries o })) (sym none)
    (subst (λ (q : OwnParsed A). StandsAt For new (record { script = own_after s.script q; entries = s.entries })) plain.2 (keeps plain.0 plain.1 s st)))

-- ---- what the reader takes

pub held_same : {A M E : Type 0} (these : OwnActs A) (of : M → Deployed) (Fits : ℕ → M → Type 0) (For : M → List E → Type 0) (old new : HeldSeen M) → IsHeld these of Fits For old → new.reader.state ≡ old.reader.state → new.machine ≡ old.machine → new.answered ≡ old.answered → IsHeld these of Fits For new
held_same these of Fits For old new held state machine answered = record {
  fit = subst IsFit (sym state) held.fit;
  dialect_is = ap (λ (x : State). x.dialect) state ∙ held.dialect_is;
  machine_of = rw (state, machine) held.machine_of;
  fits = rw (machine, answered) held.fits;
  counted = rw (state, answered) held.counted;
  known = (held.known.0, subst (λ o. StandFor For o held.known.0) (sym machine) held.known.1);
}

machine_after : {M : Type 0} (of : M → Deployed) (o : Option M) (s : State) (p : Parsed) → Stands s.stage s p → IsMachineOf of (deployment_of s) o → IsMachineOf of (deployment_of (after s p)) o
machine_after of None s p h had = tt
machine_after of (Some m) s p h had = deployed_after s.stage s.header (of m) s p h had

held_after : {A M E : Type 0} (these : OwnActs A) (of : M → Deployed) (Fits : ℕ → M → Type 0) (For : M → List E → Type 0) (old new : HeldSeen M) (line : List ℕ) (p : Parsed) → IsHeld these of Fits For old → line_at old.reader.state line ≡ Ok p → new.reader.state ≡ after old.reader.state p
    → new.machine ≡ old.machine → new.answered ≡ old.answered → IsHeld these of Fits For new
held_after these of Fits For old new line p held is state machine answered =
    let stands = (line_is old.reader.state line p held.fit is).stands in
    let here : IsMachineOf of (deployment_of (after old.reader.state p)) old.machine = machine_after of old.machine old.reader.state p stands held.machine_of in
    let grows = acts_grow old.reader.state.acts p in
    record {
      fit = subst IsFit (sym state) (stands_after old.reader.state p held.fit stands);
      dialect_is = ap (λ (x : State). x.dialect) state ∙ held.dialect_is;
      machine_of = rw (state, machine) here;
      fits = rw (machine, answered) held.fits;
      counted = rw (state, answered) (let n : old.answered ≤ (after old.reader.state p).acts = omega (arith, held.counted, grows) in n);
      known = (held.known.0, subst (λ o. StandFor For o held.known.0) (sym machine) held.known.1);
    }

pub held_line : {A M E : Type 0} (these : OwnActs A) (of : M → Deployed) (Fits : ℕ → M → Type 0) (For : M → List E → Type 0) (old new : HeldSeen M) (line : List ℕ) (result : Result Line ScriptFault) → IsHeld these of Fits For old
    → Takes old.reader.fault old.reader.state new.reader result line → new.machine ≡ old.machine → new.answered ≡ old.answered → IsHeld these of Fits For new
held_line these of Fits For old new line result held takes machine answered = elim (reader_moves old.reader.fault old.reader.state new.reader result line takes) [
  | inl same ↦ held_same these of Fits For old new held same machine answered
  | inr moved ↦ held_after these of Fits For old new line moved.0 held moved.1 moved.2 machine answered
]

-- ---- a line that has begun

pub ended_stuck : {A M E : Type 0} (these : OwnActs A) (tell : Telling A E) (For : M → List E → Type 0) (v : HeldSeen M) (count : ℕ) (s : OwnState E) → v.reader.state.stage ≡ stage.Ended → 0 < count → StandsAt For v s
    → IsStuck (own_rules these tell) s count
ended_stuck these tell For v count s ended some st = stuck_ended these tell s count (ap (λ (x : State). x.stage) (sym (state_is For v s st)) ∙ ended) some

goes_on_at : {M E : Type 0} (For : M → List E → Type 0) (v : HeldSeen M) (s : OwnState E) → (v.reader.state.stage ≡ stage.Ended → ⊥) → StandsAt For v s → is_ended s.script.stage ≡ false
goes_on_at For v s other st = not_ended s.script.stage (λ ended. other (ap (λ (x : State). x.stage) (state_is For v s st) ∙ ended))

pub long_stuck : {A M E : Type 0} (these : OwnActs A) (tell : Telling A E) (For : M → List E → Type 0) (v : HeldSeen M) (count : ℕ) (s : OwnState E) → (v.reader.state.stage ≡ stage.Ended → ⊥) → LONGEST_LINE < count → StandsAt For v s
    → IsStuck (own_rules these tell) s count
long_stuck these tell For v count s other long st = stuck_long these tell s count (goes_on_at For v s other st) long

pub still_open : {A M E : Type 0} (these : OwnActs A) (tell : Telling A E) (For : M → List E → Type 0) (v : HeldSeen M) (count : ℕ) (s : OwnState E) → (v.reader.state.stage ≡ stage.Ended → ⊥) → count ≤ LONGEST_LINE → StandsAt For v s
    → IsOpen (own_rules these tell) s count
still_open these tell For v count s other short st = open_at these tell s count (goes_on_at For v s other st) short
