-- What is made of a text with acts of the command's own line by line is what is made of the whole.
use Rattle.std.proofs.Common.{◌≡◌, ℕ, ◌+◌, Bool, true, false, cond, List, [], ◌∷◌, ◌++◌, Option, Some, None, Result, Ok, Err, sym, ap, ◌∙◌, refl}
use Rattle.std.specs.List.{slice_split}
use Rattle.std.proofs.lemmas.List.{append-nil, append_assoc, reverse-append}
use Rattle.sat_act.specs.Deployed.{Deployed}
use Rattle.sat_own_acts.specs.OwnActs.{OwnActs, AreSound}
use Rattle.sat_own_acts.specs.Lines.{own_line, own_after}
use Rattle.sat_own_acts.specs.Histories.{Entering, run_of, history_of}
use Rattle.sat_own_acts.specs.Readings.{OwnReading, nothing, with_plain, with_line, with_own, bad_at, closed, after_line as after_read, script_from, own_reading}
use Rattle.sat_own_acts.specs.Texts.{Telling, answers_of, told_under, end_under, told_of, text_of, status_of, may_go_on, good_from, is_good, own_meaning}
use Rattle.sat_own_acts.specs.Steps.{OwnState, plain_act, act_in, entries_with, told_with, state_after, outcome, closing, own_rules}
use Rattle.sat_own_acts.specs.declared.line.OwnParsed.{OwnParsed}
use Rattle.sat_own_acts.specs.declared.line.OwnParsed.TheVariants as says
use Rattle.sat_own_acts.proofs.Sound.{IsSoundAt, IsOwnLine, sound_after, sound_start, own_line_is}
use Rattle.sat_follow.specs.Meaning.{Meaning}
use Rattle.sat_follow.specs.Rules.{Made, behind, at_end, after_line, made_from, made, meaning_of}
use Rattle.sat_script.specs.Grammar.{close_at, close_in, next_stage, with_parsed, told_line}
use Rattle.sat_script.specs.State.{State, start, fault_at}
use Rattle.sat_script.specs.Words.{is_newline}
use Rattle.sat_script.specs.declared.fault.Cause.{Cause}
use Rattle.sat_script.specs.declared.fault.Cause.TheVariants.{LongLine, NoEnd}
use Rattle.sat_script.specs.declared.fault.ScriptFault.{ScriptFault}
use Rattle.sat_script.specs.declared.line.Parsed.{Parsed}
use Rattle.sat_script.specs.declared.line.Parsed.TheVariants as parsed
use Rattle.sat_script.specs.declared.line.Stage.{Stage}
use Rattle.sat_script.specs.declared.line.Stage.TheVariants as stage
use Rattle.sat_script.proofs.Stands.{Stands}

-- ---- a state and a reading that go together

-- the history of the acts that were read
abbrev TiedAt : {A E : Type 0} → Telling A E → Stage → Deployed → List E → OwnReading A → Type 0
TiedAt tell stage.Body d c x = (x.deployment ≡ Some d) × (c ≡ history_of tell.entry d x.acts)
TiedAt tell stage.Ended d c x = (x.deployment ≡ Some d) × (c ≡ history_of tell.entry d x.acts)
TiedAt tell _ d c x = (x.deployment ≡ None) × (x.acts ≡ []) × (c ≡ [])

pub record IsTied {A E : Type 0} (these : OwnActs A) (P : Deployed → A → Type 0) (tell : Telling A E) (s : OwnState E) (x : OwnReading A) : Type 0 where
  pub tied : TiedAt tell s.script.stage s.script.header s.entries x
  pub sound : IsSoundAt these P s.script x

history_more : {A E : Type 0} (enter : Entering A E) (d : Deployed) (acts : List A) (a : A) → history_of enter d (acts ++ a ∷ []) ≡ enter d (history_of enter d acts) a ∷ history_of enter d acts
unfolding history_of run_of
history_more enter d acts a = ap (run_of enter d) (reverse-append acts (a ∷ []))

history_none : {A E : Type 0} (enter : Entering A E) (d : Deployed) → history_of enter d [] ≡ []
unfolding history_of run_of
history_none enter d = refl

-- one act more
entry_more : {A E : Type 0} (enter : Entering A E) (d : Deployed) (c : List E) (acts : List A) (a : A) → c ≡ history_of enter d acts → enter d c a ∷ c ≡ history_of enter d (acts ++ a ∷ [])
entry_more {A} {E} enter d c acts a is = ap (λ (h : List E). enter d h a ∷ h) is ∙ sym (history_more enter d acts a)

tied_plain : {A E : Type 0} (these : OwnActs A) (tell : Telling A E) (here : Stage) (s : State) (c : List E) (p : Parsed) (x : OwnReading A) → Stands here s p → TiedAt tell here s.header c x
    → TiedAt tell (next_stage here p) (with_parsed s.header p) (entries_with tell s.header c (plain_act these (told_line p))) (with_plain these s.header x (told_line p))
tied_plain these tell stage.Start s c (parsed.Format f) x h tied = tied
tied_plain these tell stage.Sites s c (parsed.Sites k) x h tied = tied
tied_plain these tell stage.Gears s c (parsed.Gears k) x h tied = tied
tied_plain these tell stage.Header s c (parsed.Item item) x h tied = tied
tied_plain these tell stage.Header s c (parsed.Client line) x h tied = tied
tied_plain these tell stage.Header s c (parsed.Plan p) x h tied = tied
tied_plain these tell stage.Header s c parsed.Begin x h tied = (refl, tied.2 ∙ sym (history_none tell.entry s.header) ∙ ap (history_of tell.entry s.header) (sym tied.1))
tied_plain these tell stage.Body s c (parsed.Act a) x h tied = (tied.0, entry_more tell.entry s.header c x.acts (these.plain a) tied.1)
tied_plain these tell stage.Body s c parsed.End x h tied = tied
tied_plain these tell _ s c _ x h tied = absurd h

tied_own : {A E : Type 0} (tell : Telling A E) (here : Stage) (d : Deployed) (c : List E) (a : A) (x : OwnReading A) → here ≡ stage.Body → TiedAt tell here d c x → TiedAt tell here d (tell.entry d c a ∷ c) (with_own x a)
tied_own tell stage.Body d c a x body tied = (tied.0, entry_more tell.entry d c x.acts a tied.1)
tied_own tell stage.Start d c a x body tied = absurd (cc)
tied_own tell stage.Sites d c a x body tied = absurd (cc)
tied_own tell stage.Gears d c a x body tied = absurd (cc)
tied_own tell stage.Header d c a x body tied = absurd (cc)
tied_own tell stage.Ended d c a x body tied = absurd (cc)

tied_after : {A E : Type 0} (these : OwnActs A) (P : Deployed → A → Type 0) (law : AreSound these P) (tell : Telling A E) (s : OwnState E) (x : OwnReading A) (p : OwnParsed A) → IsTied these P tell s x → IsOwnLine P s.script p
    → IsTied these P tell (state_after these tell s p) (with_line these s.script.header x p)
tied_after these P law tell s x (says.Plain p) had is = record { tied = tied_plain these tell s.script.stage s.script s.entries p x is had.tied; sound = sound_after these P law s.script x (says.Plain p) had.sound is }
tied_after these P law tell s x (says.Own a) had is = record { tied = tied_own tell s.script.stage s.script.header s.entries a x is.0 had.tied; sound = sound_after these P law s.script x (says.Own a) had.sound is }

-- ---- what was told so far

answers_none : {A E : Type 0} (tell : Telling A E) (d : Deployed) → answers_of tell d [] ≡ []
unfolding answers_of
answers_none tell d = refl

told_plain : {A E : Type 0} (these : OwnActs A) (tell : Telling A E) (here : Stage) (s : State) (c : List E) (p : Parsed) (x : OwnReading A) → Stands here s p → TiedAt tell here s.header c x
    → answers_of tell (with_parsed s.header p) (entries_with tell s.header c (plain_act these (told_line p))) ≡ answers_of tell s.header c ++ told_with tell s.header c (plain_act these (told_line p))
unfolding answers_of
told_plain these tell stage.Start s c (parsed.Format f) x h tied = rw tied.2 refl
told_plain these tell stage.Sites s c (parsed.Sites k) x h tied = rw tied.2 refl
told_plain these tell stage.Gears s c (parsed.Gears k) x h tied = rw tied.2 refl
told_plain these tell stage.Header s c (parsed.Item item) x h tied = rw tied.2 refl
told_plain these tell stage.Header s c (parsed.Client line) x h tied = rw tied.2 refl
told_plain these tell stage.Header s c (parsed.Plan p) x h tied = rw tied.2 refl
told_plain these tell stage.Header s c parsed.Begin x h tied = sym (append-nil (answers_of tell s.header c))
told_plain these tell stage.Body s c (parsed.Act a) x h tied = refl
told_plain these tell stage.Body s c parsed.End x h tied = sym (append-nil (answers_of tell s.header c))
told_plain these tell _ s c _ x h tied = absurd h

abbrev told_so : {A E : Type 0} → Telling A E → OwnState E → List ℕ
told_so tell s = answers_of tell s.script.header s.entries

told_after : {A E : Type 0} (these : OwnActs A) (P : Deployed → A → Type 0) (tell : Telling A E) (s : OwnState E) (x : OwnReading A) (p : OwnParsed A) → IsTied these P tell s x → IsOwnLine P s.script p
    → told_so tell (state_after these tell s p) ≡ told_so tell s ++ told_with tell s.script.header s.entries (act_in these p)
unfolding answers_of
told_after these P tell s x (says.Plain p) had is = told_plain these tell s.script.stage s.script s.entries p x is had.tied
told_after these P tell s x (says.Own a) had is = refl

told_is : {A E : Type 0} (tell : Telling A E) (here : Stage) (d : Deployed) (c : List E) (x : OwnReading A) → TiedAt tell here d c x → answers_of tell d c ≡ told_under tell x.deployment x.acts
told_is tell stage.Body d c x tied = ap (answers_of tell d) tied.1 ∙ ap (λ (o : Option Deployed). told_under tell o x.acts) (sym tied.0)
told_is tell stage.Ended d c x tied = ap (answers_of tell d) tied.1 ∙ ap (λ (o : Option Deployed). told_under tell o x.acts) (sym tied.0)
told_is tell _ d c x tied = ap (answers_of tell d) tied.2 ∙ answers_none tell d ∙ ap (λ (o : Option Deployed). told_under tell o x.acts) (sym tied.0)

-- ---- what is made

-- of a reading, and of whether no line is bad
abbrev made_of : {A E : Type 0} → Telling A E → Bool → OwnReading A → Made
made_of tell good x = record { good = good; answers = told_of tell x; output = text_of tell x; status = status_of x.fault }

made_parts : (good : Bool) (a b o p : List ℕ) (status : ℕ) → a ≡ b → o ≡ p → (let m : Made = record { good = good; answers = a; output = o; status = status } in m) ≡ record { good = good; answers = b; output = p; status = status }
made_parts good a b o p status e f =
    ap (λ (answers : List ℕ). (let m : Made = record { good = good; answers = answers; output = o; status = status } in m)) e
    ∙ ap (λ (output : List ℕ). (let m : Made = record { good = good; answers = b; output = output; status = status } in m)) f

-- a bad line, or an end that is none
bad_made : {A E : Type 0} (these : OwnActs A) (P : Deployed → A → Type 0) (tell : Telling A E) (s : OwnState E) (x : OwnReading A) (cause : Cause) (good : Bool) → IsTied these P tell s x
    → behind (told_so tell s) (record { good = good; answers = []; output = tell.fault (fault_at s.script cause); status = 1 }) ≡ made_of tell good (bad_at s.script x cause)
unfolding told_of text_of
bad_made these P tell s x cause good had =
    let told = told_is tell s.script.stage s.script.header s.entries x had.tied in
    made_parts good (told_so tell s ++ []) (told_under tell x.deployment x.acts) (told_so tell s ++ tell.fault (fault_at s.script cause)) (told_under tell x.deployment x.acts ++ tell.fault (fault_at s.script cause)) 1
    (append-nil (told_so tell s) ∙ told) (ap (λ (bytes : List ℕ). bytes ++ tell.fault (fault_at s.script cause)) told)

never_none : (b : Bool) (x y : Cause) → cond b (Some x) (Some y) ≡ None → ⊥
never_none true x y h = cc
never_none false x y h = cc

-- the end of a whole script
end_is : {A E : Type 0} (tell : Telling A E) (here : Stage) (d : Deployed) (c : List E) (x : OwnReading A) (rest : List ℕ) → close_in here rest ≡ None → TiedAt tell here d c x → tell.holdings d c ≡ end_under tell x.deployment x.acts None
unfolding close_in
end_is tell stage.Ended d c x rest e tied = ap (tell.holdings d) tied.1 ∙ ap (λ (o : Option Deployed). end_under tell o x.acts None) (sym tied.0)
end_is tell _ d c x rest e tied = absurd (never_none _ LongLine NoEnd e)

closed_made : {A E : Type 0} (these : OwnActs A) (P : Deployed → A → Type 0) (tell : Telling A E) (s : OwnState E) (x : OwnReading A) (rest : List ℕ) (o : Option Cause) → IsTied these P tell s x → close_at s.script rest ≡ o
    → behind (told_so tell s) (at_end (closing tell s o)) ≡ made_of tell (may_go_on o) (closed s.script x o)
unfolding told_of text_of
closed_made these P tell s x rest (Some cause) had e = bad_made these P tell s x cause (may_go_on (Some cause)) had
closed_made these P tell s x rest None had e =
    let told = told_is tell s.script.stage s.script.header s.entries x had.tied in
    let ends = end_is tell s.script.stage s.script.header s.entries x rest e had.tied in
    made_parts true (told_so tell s ++ []) (told_under tell x.deployment x.acts) (told_so tell s ++ tell.holdings s.script.header s.entries) (told_under tell x.deployment x.acts ++ end_under tell x.deployment x.acts x.fault) 0
    (append-nil (told_so tell s) ∙ told)
    (ap (λ (bytes : List ℕ). bytes ++ tell.holdings s.script.header s.entries) told ∙ ap (λ (bytes : List ℕ). told_under tell x.deployment x.acts ++ bytes) (ends ∙ ap (λ (f : Option ScriptFault). end_under tell x.deployment x.acts f) (sym had.sound.fresh)))
    ∙ ap (λ (f : Option ScriptFault). (let m : Made = record { good = true; answers = told_under tell x.deployment x.acts; output = told_under tell x.deployment x.acts ++ end_under tell x.deployment x.acts x.fault; status = status_of f } in m)) (sym had.sound.fresh)

behind_twice : (a b : List ℕ) (m : Made) → behind a (behind b m) ≡ behind (a ++ b) m
behind_twice a b m = made_parts m.good (a ++ (b ++ m.answers)) ((a ++ b) ++ m.answers) (a ++ (b ++ m.output)) ((a ++ b) ++ m.output) m.status (sym (append_assoc a b m.answers)) (sym (append_assoc a b m.output))

abbrev good_after : {A : Type 0} → OwnActs A → State → List (List ℕ) → Result (OwnParsed A) Cause → Bool
good_after these s parts (Err cause) = false
good_after these s parts (Ok p) = good_from these (own_after s p) parts

line_made : {A E : Type 0} (these : OwnActs A) (P : Deployed → A → Type 0) (law : AreSound these P) (tell : Telling A E) (s : OwnState E) (x : OwnReading A) (line : List ℕ) (parts : List (List ℕ)) (said : Result (OwnParsed A) Cause)
    → IsTied these P tell s x → own_line these s.script line ≡ said
    → ((later : OwnState E) (more : OwnReading A) → IsTied these P tell later more → behind (told_so tell later) (made_from (own_rules these tell) later parts) ≡ made_of tell (good_from these later.script parts) (script_from these later.script more parts))
    → behind (told_so tell s) (after_line (λ later. made_from (own_rules these tell) later parts) (outcome these tell s said))
    ≡ made_of tell (good_after these s.script parts said) (after_read these s.script x (λ later more. script_from these later more parts) said)
line_made these P law tell s x line parts (Err cause) had e next = bad_made these P tell s x cause false had
line_made these P law tell s x line parts (Ok p) had e next =
    let is = own_line_is these P law s.script line p had.sound.fit e in
    let later = state_after these tell s p in
    behind_twice (told_so tell s) (told_with tell s.script.header s.entries (act_in these p)) (made_from (own_rules these tell) later parts)
    ∙ ap (λ (told : List ℕ). behind told (made_from (own_rules these tell) later parts)) (sym (told_after these P tell s x p had is))
    ∙ next later (with_line these s.script.header x p) (tied_after these P law tell s x p had is)

pub text_from : {A E : Type 0} (these : OwnActs A) (P : Deployed → A → Type 0) (law : AreSound these P) (tell : Telling A E) (s : OwnState E) (x : OwnReading A) (parts : List (List ℕ)) → IsTied these P tell s x
    → behind (told_so tell s) (made_from (own_rules these tell) s parts) ≡ made_of tell (good_from these s.script parts) (script_from these s.script x parts)
unfolding made_from good_from script_from
text_from these P law tell s x [] had = closed_made these P tell s x [] (close_at s.script []) had refl
text_from these P law tell s x (rest ∷ []) had = closed_made these P tell s x rest (close_at s.script rest) had refl
text_from these P law tell s x (line ∷ part ∷ parts) had =
    line_made these P law tell s x line (part ∷ parts) (own_line these s.script line) had refl (λ later more now. text_from these P law tell later more (part ∷ parts) now)

tied_start : {A E : Type 0} (these : OwnActs A) (P : Deployed → A → Type 0) (tell : Telling A E) → IsTied these P tell (record { script = start these.dialect; entries = [] }) nothing
tied_start these P tell = record { tied = (refl, refl, refl); sound = sound_start these P }

behind_none : (told : List ℕ) (m : Made) → told ≡ [] → behind told m ≡ m
behind_none told m none = ap (λ (front : List ℕ). behind front m) none

pub text_is : {A E : Type 0} (these : OwnActs A) (P : Deployed → A → Type 0) (law : AreSound these P) (tell : Telling A E) (text : List ℕ) → made (own_rules these tell) text ≡ made_of tell (is_good these text) (own_reading these text)
unfolding made is_good own_reading
text_is {A} {E} these P law tell text =
    let first : OwnState E = record { script = start these.dialect; entries = [] } in
    sym (behind_none (told_so tell first) (made_from (own_rules these tell) first (slice_split is_newline text)) (answers_none tell (start these.dialect).header))
    ∙ text_from these P law tell first nothing (slice_split is_newline text) (tied_start these P tell)

-- a meaning is known by what it makes of each text
meaning_by : (f : List ℕ → Made) → Meaning
meaning_by f = record { good = λ text. (f text).good; answers = λ text. (f text).answers; output = λ text. (f text).output; status = λ text. (f text).status; most = 840704400 + 4096 }

pub lines_make : {A E : Type 0} (these : OwnActs A) (P : Deployed → A → Type 0) (law : AreSound these P) (tell : Telling A E) → meaning_of (own_rules these tell) ≡ own_meaning these tell
unfolding meaning_by
lines_make these P law tell = ap meaning_by (λ i text. text_is these P law tell text i)
