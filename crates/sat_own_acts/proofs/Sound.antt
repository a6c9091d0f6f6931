-- What is read of any text with acts of the command's own is a deployment and acts of it.
use Rattle.std.proofs.Common.{◌≡◌, ℕ, ◌+◌, ◌<◌, Bool, true, false, cond, ltb, List, [], ◌∷◌, ◌++◌, length, Option, Some, None, Result, Ok, Err, sym, ap, subst, ◌∙◌, refl, arith}
use Rattle.std.specs.Prelude.{reverse, IfSome, IsSome}
use Rattle.std.specs.List.{AllByRecursion, slice_split}
use Rattle.std.proofs.lemmas.Bool.Decides.{nat_tests}
use Rattle.std.proofs.lemmas.List.{reverse-append}
use Rattle.sat_act.specs.declared.act.Act.{Act}
use Rattle.sat_act.specs.declared.act.Act.TheVariants as act
use Rattle.sat_act.specs.Answers.{InRange}
use Rattle.sat_act.specs.Deployed.{Deployed}
use Rattle.sat_act.specs.Limits.{IsDeployment}
use Rattle.sat_act.specs.Ranges.{IsActOf}
use Rattle.sat_script.specs.Causes.{full}
use Rattle.sat_script.specs.Dialect.{has_form}
use Rattle.sat_script.specs.Grammar.{line_at, close_at, close_in, next_stage, with_parsed, told_line}
use Rattle.sat_script.specs.Kept.{IsFit, HasHeader, HasActs}
use Rattle.sat_script.specs.State.{State, start, limits_at}
use Rattle.sat_script.specs.Table.{form_of}
use Rattle.sat_script.specs.Words.{is_text, words_of, is_newline}
use Rattle.sat_script.specs.declared.dialect.Dialect.{Dialect}
use Rattle.sat_script.specs.declared.fault.Cause.{Cause}
use Rattle.sat_script.specs.declared.fault.Cause.TheVariants.{TooMany, LongLine, NoEnd}
use Rattle.sat_script.specs.declared.limits.TheConstants.{LONGEST_LINE}
use Rattle.sat_script.specs.declared.line.Line.{Line}
use Rattle.sat_script.specs.declared.line.Line.TheVariants as line
use Rattle.sat_script.specs.declared.line.Parsed.{Parsed}
use Rattle.sat_script.specs.declared.line.Parsed.TheVariants as parsed
use Rattle.sat_script.specs.declared.line.Stage.{Stage}
use Rattle.sat_script.specs.declared.line.Stage.TheVariants as stage
use Rattle.sat_script.proofs.Choices.{passed, skipped}
use Rattle.sat_script.proofs.Fits.{line_is, stands_after, fit_start}
use Rattle.sat_script.proofs.Stands.{Stands}
use Rattle.sat_own_acts.specs.OwnActs.{OwnActs, AreSound}
use Rattle.sat_own_acts.specs.Lines.{of_script, of_own, in_body, line_as, own_line, own_after}
use Rattle.sat_own_acts.specs.Readings.{OwnReading, nothing, with_own, with_plain, with_line, bad_at, closed, after_line, script_from, own_reading, IsReadSound}
use Rattle.sat_own_acts.specs.declared.line.OwnParsed.{OwnParsed}
use Rattle.sat_own_acts.specs.declared.line.OwnParsed.TheVariants as says

-- ---- a good line

-- where it stands, and what it says
abbrev pub IsOwnLine : {A : Type 0} → (Deployed → A → Type 0) → State → OwnParsed A → Type 0
IsOwnLine P s (says.Plain p) = Stands s.stage s p
IsOwnLine P s (says.Own a) = (s.stage ≡ stage.Body) × (full s ≡ None) × P s.header a

said_body : {A : Type 0} (here : Stage) (o : Option (Result A Cause)) (said : Result A Cause) → in_body here o ≡ Some said → (here ≡ stage.Body) × (o ≡ Some said)
said_body stage.Body o said h = (refl, h)
said_body stage.Start o said h = absurd (cc)
said_body stage.Sites o said h = absurd (cc)
said_body stage.Gears o said h = absurd (cc)
said_body stage.Header o said h = absurd (cc)
said_body stage.Ended o said h = absurd (cc)

pub script_said : {A : Type 0} (said : Result Parsed Cause) (p : OwnParsed A) → of_script said ≡ Ok p → (q : Parsed) × (said ≡ Ok q) × (says.Plain q ≡ p)
script_said (Ok q) p h = (q, refl, (let s : says.Plain q ≡ p = cc in s))
script_said (Err cause) p h = absurd (cc)

own_said : {A : Type 0} (said : Result A Cause) (p : OwnParsed A) → of_own said ≡ Ok p → (a : A) × (said ≡ Ok a) × (says.Own a ≡ p)
own_said (Ok a) p h = (a, refl, (let s : says.Own a ≡ p = cc in s))
own_said (Err cause) p h = absurd (cc)

body_deploys : (s : State) → IsFit s → s.stage ≡ stage.Body → IsDeployment s.header
body_deploys s fit body = (subst (λ (here : Stage). HasHeader here s.header) body fit.header).deployment

as_is : {A : Type 0} (these : OwnActs A) (P : Deployed → A → Type 0) (sound : AreSound these P) (s : State) (line : List ℕ) (p : OwnParsed A) (o : Option (Result A Cause))
    → IsFit s → in_body s.stage (these.own s (words_of line)) ≡ o → line_as s line o ≡ Ok p → IsOwnLine P s p
as_is these P sound s line p None fit e h =
    let said = script_said (line_at s line) p h in
    subst (λ (q : OwnParsed _). IsOwnLine P s q) said.2 (line_is s line said.0 fit said.1).stands
as_is these P sound s line p (Some result) fit e h =
    let short = skipped (ltb LONGEST_LINE (length line)) _ _ _ h in
    let text = passed (is_text line) _ _ _ short.1 in
    let said = own_said result p text.1 in
    let body = said_body s.stage (these.own s (words_of line)) result e in
    let own = sound.own_fits s (words_of line) said.0 (body_deploys s fit body.0) (body.1 ∙ ap (λ (r : Result _ Cause). Some r) said.1) in
    subst (λ (q : OwnParsed _). IsOwnLine P s q) said.2 (body.0, own.0, own.1)

pub own_line_is : {A : Type 0} (these : OwnActs A) (P : Deployed → A → Type 0) (sound : AreSound these P) (s : State) (line : List ℕ) (p : OwnParsed A) → IsFit s → own_line these s line ≡ Ok p → IsOwnLine P s p
unfolding own_line
own_line_is these P sound s line p fit h = as_is these P sound s line p (in_body s.stage (these.own s (words_of line))) fit refl h

full_room : (s : State) → full s ≡ None → s.acts < (limits_at s).acts
unfolding full
full_room s h = go (ltb s.acts (limits_at s).acts) refl h
  where
    go : (b : Bool) → ltb s.acts (limits_at s).acts ≡ b → cond b None (Some TooMany) ≡ None → s.acts < (limits_at s).acts
    go true e h = grind (arith, nat_tests, e)
    go false e h = absurd (cc)

pub own_fit : {A : Type 0} (P : Deployed → A → Type 0) (s : State) (p : OwnParsed A) → IsFit s → IsOwnLine P s p → IsFit (own_after s p)
own_fit P s (says.Plain p) fit is = stands_after s p fit is
own_fit P s (says.Own a) fit is = record {
  header = fit.header;
  sites = fit.sites;
  items = fit.items;
  clients = fit.clients;
  plans = fit.plans;
  begun = subst (λ (here : Stage). HasActs here (s.acts + 1)) (sym is.0) tt;
  acts = let room = full_room s is.1 in omega (arith, room);
  settles = fit.settles;
}

-- ---- what the lines so far say

abbrev pub AreActs : {A : Type 0} → (Deployed → A → Type 0) → Deployed → List A → Type 0
AreActs P d acts = AllByRecursion (λ a. P d a) acts

abbrev SaidAt : {A : Type 0} → (Deployed → A → Type 0) → Stage → Deployed → OwnReading A → Type 0
SaidAt P stage.Body d x = (x.deployment ≡ Some d) × AreActs P d x.acts
SaidAt P stage.Ended d x = (x.deployment ≡ Some d) × AreActs P d x.acts
SaidAt P _ d x = (x.deployment ≡ None) × (x.acts ≡ [])

pub record IsSoundAt {A : Type 0} (these : OwnActs A) (P : Deployed → A → Type 0) (s : State) (x : OwnReading A) : Type 0 where
  pub fit : IsFit s
  pub dialect_is : s.dialect ≡ these.dialect
  pub said : SaidAt P s.stage s.header x
  pub fresh : x.fault ≡ None

all_more : {X : Type 0} (P : X → Type 0) (xs : List X) (x : X) → AllByRecursion P xs → P x → AllByRecursion P (xs ++ x ∷ [])
all_more P [] x all here = (here, tt)
all_more P (y ∷ xs) x all here = (all.0, all_more P xs x all.1 here)

said_plain : {A : Type 0} (these : OwnActs A) (P : Deployed → A → Type 0) (sound : AreSound these P) (here : Stage) (s : State) (p : Parsed) (x : OwnReading A) → s.dialect ≡ these.dialect → Stands here s p → SaidAt P here s.header x
    → SaidAt P (next_stage here p) (with_parsed s.header p) (with_plain these s.header x (told_line p))
said_plain these P sound stage.Start s (parsed.Format f) x is h said = said
said_plain these P sound stage.Sites s (parsed.Sites k) x is h said = said
said_plain these P sound stage.Gears s (parsed.Gears k) x is h said = said
said_plain these P sound stage.Header s (parsed.Item item) x is h said = said
said_plain these P sound stage.Header s (parsed.Client line) x is h said = said
said_plain these P sound stage.Header s (parsed.Plan p) x is h said = said
said_plain these P sound stage.Header s parsed.Begin x is h said = (refl, subst (λ (acts : List _). AreActs P s.header acts) (sym said.1) tt)
said_plain these P sound stage.Body s (parsed.Act a) x is h said =
    let has : has_form these.dialect (form_of a) ≡ true = subst (λ (dialect : Dialect). has_form dialect (form_of a) ≡ true) is h.has in
    (said.0, all_more (λ b. P s.header b) x.acts (these.plain a) said.1 (sound.plain_fits s.header a has h.fits))
said_plain these P sound stage.Body s parsed.End x is h said = said
said_plain these P sound _ s _ x is h said = absurd h

said_own : {A : Type 0} (P : Deployed → A → Type 0) (here : Stage) (d : Deployed) (a : A) (x : OwnReading A) → here ≡ stage.Body → P d a → SaidAt P here d x → SaidAt P here d (with_own x a)
said_own P stage.Body d a x body is said = (said.0, all_more (λ b. P d b) x.acts a said.1 is)
said_own P stage.Start d a x body is said = absurd (cc)
said_own P stage.Sites d a x body is said = absurd (cc)
said_own P stage.Gears d a x body is said = absurd (cc)
said_own P stage.Header d a x body is said = absurd (cc)
said_own P stage.Ended d a x body is said = absurd (cc)

fault_kept : {A : Type 0} (these : OwnActs A) (d : Deployed) (x : OwnReading A) (l : Line) → (with_plain these d x l).fault ≡ x.fault
fault_kept these d x line.Header = refl
fault_kept these d x line.Begin = refl
fault_kept these d x (line.Act a) = refl
fault_kept these d x line.End = refl

pub sound_after : {A : Type 0} (these : OwnActs A) (P : Deployed → A → Type 0) (sound : AreSound these P) (s : State) (x : OwnReading A) (p : OwnParsed A) → IsSoundAt these P s x → IsOwnLine P s p
    → IsSoundAt these P (own_after s p) (with_line these s.header x p)
sound_after these P sound s x (says.Plain p) had is = record {
  fit = own_fit P s (says.Plain p) had.fit is;
  dialect_is = had.dialect_is;
  said = said_plain these P sound s.stage s p x had.dialect_is is had.said;
  fresh = fault_kept these s.header x (told_line p) ∙ had.fresh;
}
sound_after these P sound s x (says.Own a) had is = record {
  fit = own_fit P s (says.Own a) had.fit is;
  dialect_is = had.dialect_is;
  said = said_own P s.stage s.header a x is.0 is.2 had.said;
  fresh = had.fresh;
}

-- ---- what is read of a text

abbrev WholeOf : {A : Type 0} → (Deployed → A → Type 0) → Option Deployed → List A → Type 0
WholeOf P o acts = IfSome o (λ d. IsDeployment d × AreActs P d acts) × (o ≡ None → acts ≡ [])

whole_at : {A : Type 0} (P : Deployed → A → Type 0) (here : Stage) (d : Deployed) (x : OwnReading A) → HasHeader here d → SaidAt P here d x → WholeOf P x.deployment x.acts
whole_at P stage.Body d x kept said = (subst (λ (o : Option Deployed). IfSome o (λ d. IsDeployment d × AreActs P d x.acts)) (sym said.0) (kept.deployment, said.1), λ e. absurd (let never : Some d ≡ None = sym said.0 ∙ e in cc))
whole_at P stage.Ended d x kept said = (subst (λ (o : Option Deployed). IfSome o (λ d. IsDeployment d × AreActs P d x.acts)) (sym said.0) (kept.deployment, said.1), λ e. absurd (let never : Some d ≡ None = sym said.0 ∙ e in cc))
whole_at P _ d x kept said = (subst (λ (o : Option Deployed). IfSome o (λ d. IsDeployment d × AreActs P d x.acts)) (sym said.0) tt, λ _. said.1)

bad_sound : {A : Type 0} (these : OwnActs A) (P : Deployed → A → Type 0) (s : State) (x : OwnReading A) (cause : Cause) → IsSoundAt these P s x → IsReadSound P (bad_at s x cause)
bad_sound these P s x cause had =
    let w = whole_at P s.stage s.header x had.fit.header had.said in
    record { whole = w.0; none = w.1; ends = λ e. absurd (cc) }

never_none : (b : Bool) (x y : Cause) → cond b (Some x) (Some y) ≡ None → ⊥
never_none true x y h = cc
never_none false x y h = cc

pub close_ends : (here : Stage) (rest : List ℕ) → close_in here rest ≡ None → here ≡ stage.Ended
unfolding close_in
close_ends stage.Ended rest h = refl
close_ends stage.Start rest h = absurd (never_none (ltb LONGEST_LINE (length rest)) LongLine NoEnd h)
close_ends stage.Sites rest h = absurd (never_none (ltb LONGEST_LINE (length rest)) LongLine NoEnd h)
close_ends stage.Gears rest h = absurd (never_none (ltb LONGEST_LINE (length rest)) LongLine NoEnd h)
close_ends stage.Header rest h = absurd (never_none (ltb LONGEST_LINE (length rest)) LongLine NoEnd h)
close_ends stage.Body rest h = absurd (never_none (ltb LONGEST_LINE (length rest)) LongLine NoEnd h)

closed_sound : {A : Type 0} (these : OwnActs A) (P : Deployed → A → Type 0) (s : State) (x : OwnReading A) (rest : List ℕ) (o : Option Cause) → IsSoundAt these P s x → close_at s rest ≡ o → IsReadSound P (closed s x o)
closed_sound these P s x rest (Some cause) had e = bad_sound these P s x cause had
closed_sound these P s x rest None had e =
    let w = whole_at P s.stage s.header x had.fit.header had.said in
    let said = subst (λ (here : Stage). SaidAt P here s.header x) (close_ends s.stage rest e) had.said in
    record { whole = w.0; none = w.1; ends = λ _. subst (λ (o : Option Deployed). IsSome o) (sym said.0) refl }

after_sound : {A : Type 0} (these : OwnActs A) (P : Deployed → A → Type 0) (sound : AreSound these P) (s : State) (x : OwnReading A) (line : List ℕ) (go_on : State → OwnReading A → OwnReading A) (said : Result (OwnParsed A) Cause)
    → IsSoundAt these P s x → own_line these s line ≡ said → ((later : State) (more : OwnReading A) → IsSoundAt these P later more → IsReadSound P (go_on later more)) → IsReadSound P (after_line these s x go_on said)
after_sound these P sound s x line go_on (Ok p) had e next = next (own_after s p) (with_line these s.header x p) (sound_after these P sound s x p had (own_line_is these P sound s line p had.fit e))
after_sound these P sound s x line go_on (Err cause) had e next = bad_sound these P s x cause had

sound_from : {A : Type 0} (these : OwnActs A) (P : Deployed → A → Type 0) (sound : AreSound these P) (s : State) (x : OwnReading A) (parts : List (List ℕ)) → IsSoundAt these P s x → IsReadSound P (script_from these s x parts)
unfolding script_from
sound_from these P sound s x [] had = closed_sound these P s x [] (close_at s []) had refl
sound_from these P sound s x (rest ∷ []) had = closed_sound these P s x rest (close_at s rest) had refl
sound_from these P sound s x (line ∷ part ∷ parts) had =
    after_sound these P sound s x line (λ later more. script_from these later more (part ∷ parts)) (own_line these s line) had refl (λ later more now. sound_from these P sound later more (part ∷ parts) now)

pub sound_start : {A : Type 0} (these : OwnActs A) (P : Deployed → A → Type 0) → IsSoundAt these P (start these.dialect) nothing
sound_start these P = record { fit = fit_start these.dialect; dialect_is = refl; said = (refl, refl); fresh = refl }

-- what is read of a text is sound
pub sound_text : {A : Type 0} (these : OwnActs A) (P : Deployed → A → Type 0) → AreSound these P → (text : List ℕ) → IsReadSound P (own_reading these text)
unfolding own_reading
sound_text these P sound text = sound_from these P sound (start these.dialect) nothing (slice_split is_newline text) (sound_start these P)

-- ---- acts in range, and acts from their end on

-- an act of the deployment is one of which the laws of runs speak
pub in_range : (d : Deployed) (a : Act) → IsActOf d a → InRange d a
in_range d (act.Tick i g t) k = k
in_range d (act.Writes c items values) k = (k.1.values_all, k.1.order)
in_range d (act.Move c j) k = k.1
in_range d (act.Attach c j) k = k.1
in_range d (act.Gather i) k = k
in_range d (act.Emit i) k = k
in_range d (act.Pulse i) k = k
in_range d (act.Turn i) k = k
in_range d (act.Bulk i g j n) k = (k.0.0, k.1, k.0.1, k.0.2)
in_range d (act.Beat i j) k = k
in_range d (act.BeatIn i j n) k = k.0
in_range d (act.Stamp i) k = k
in_range d (act.Close i) k = k
in_range d (act.Fall i) k = k
in_range d (act.Advance i) k = k
in_range d (act.Hop e u z) k = (k.0, k.2, k.4)
in_range d _ k = tt

all_append : {X : Type 0} (P : X → Type 0) (xs ys : List X) → AllByRecursion P xs → AllByRecursion P ys → AllByRecursion P (xs ++ ys)
all_append P [] ys a b = b
all_append P (x ∷ xs) ys a b = (a.0, all_append P xs ys a.1 b)

pub all_reverse : {X : Type 0} (P : X → Type 0) (xs : List X) → AllByRecursion P xs → AllByRecursion P (reverse xs)
all_reverse P [] a = tt
all_reverse P (x ∷ xs) a = rw (reverse-append (x ∷ []) xs) (all_append P (reverse xs) (x ∷ []) (all_reverse P xs a.1) (a.0, tt))
