-- The reader's state and what a line makes of it.
use Rattle.std.proofs.Common.{◌≡◌, ◌⊎◌, inl, inr, ℕ, ◌+◌, ◌<◌, ◌≤◌, true, false, ltb, List, Option, Some, None, Result, Ok, Err, IsSome, is_some, refl, sym, ap, subst, ◌∙◌, arith}
use Rattle.std.proofs.lemmas.Bool.Decides.{nat_tests}
use Rattle.sat_act.specs.declared.act.Act.{Act}
use Rattle.sat_act.specs.declared.act.Act.TheVariants as act
use Rattle.sat_act.specs.Deployed.{Deployed}
use Rattle.sat_own_acts.specs.OwnActs.{OwnActs, AreSound}
use Rattle.sat_own_acts.specs.Lines.{own_after}
use Rattle.sat_own_acts.specs.Steps.{act_in}
use Rattle.sat_own_acts.specs.declared.line.OwnParsed.{OwnParsed}
use Rattle.sat_own_acts.specs.declared.line.OwnParsed.TheVariants as says
use Rattle.sat_own_acts.proofs.Sound.{IsOwnLine}
use Rattle.sat_script.specs.Causes.{full}
use Rattle.sat_script.specs.Dialect.{has_form}
use Rattle.sat_script.specs.Grammar.{line_at, after, next_stage, with_parsed, with_act, with_settle, is_ended}
use Rattle.sat_script.specs.Lines.{Takes}
use Rattle.sat_script.specs.State.{State, Seen, limits_at, deployed_at, deployment_of, with_one_act}
use Rattle.sat_script.specs.Table.{form_of}
use Rattle.sat_script.specs.declared.dialect.Dialect.{Dialect}
use Rattle.sat_script.specs.declared.form.Form.TheVariants as form
use Rattle.sat_script.specs.declared.fault.ScriptFault.{ScriptFault}
use Rattle.sat_script.specs.declared.line.Line.{Line}
use Rattle.sat_script.specs.declared.line.Parsed.{Parsed}
use Rattle.sat_script.specs.declared.line.Parsed.TheVariants as parsed
use Rattle.sat_script.specs.declared.line.Stage.{Stage}
use Rattle.sat_script.specs.declared.line.Stage.TheVariants as stage
use Rattle.sat_script.proofs.Acts.{act_room}
use Rattle.sat_script.proofs.Stands.{Stands, ActStands}

-- ---- the stage

pub not_ended : (here : Stage) → (here ≡ stage.Ended → ⊥) → is_ended here ≡ false
not_ended stage.Start h = refl
not_ended stage.Sites h = refl
not_ended stage.Gears h = refl
not_ended stage.Header h = refl
not_ended stage.Body h = refl
not_ended stage.Ended h = absurd (h refl)

pub begun_at : (s : State) (here : Stage) → s.stage ≡ here → is_some (deployed_at here s.header) ≡ true → IsSome (deployment_of s)
begun_at s here is some = ap (λ (there : Stage). is_some (deployed_at there s.header)) is ∙ some

-- the deployment is the header
pub deployed_is : (here : Stage) (d e : Deployed) → deployed_at here d ≡ Some e → d ≡ e
deployed_is stage.Body d e h = let s : d ≡ e = cc in s
deployed_is stage.Ended d e h = let s : d ≡ e = cc in s
deployed_is stage.Start d e h = absurd (cc)
deployed_is stage.Sites d e h = absurd (cc)
deployed_is stage.Gears d e h = absurd (cc)
deployed_is stage.Header d e h = absurd (cc)

-- no line changes it once it stands
pub deployed_after : (here : Stage) (d e : Deployed) (s : State) (p : Parsed) → Stands here s p → deployed_at here d ≡ Some e → deployed_at (next_stage here p) (with_parsed d p) ≡ Some e
deployed_after stage.Body d e s (parsed.Act a) h is = is
deployed_after stage.Body d e s parsed.End h is = is
deployed_after stage.Body d e s (parsed.Format f) h is = absurd h
deployed_after stage.Body d e s (parsed.Sites k) h is = absurd h
deployed_after stage.Body d e s (parsed.Gears k) h is = absurd h
deployed_after stage.Body d e s (parsed.Item item) h is = absurd h
deployed_after stage.Body d e s (parsed.Client line) h is = absurd h
deployed_after stage.Body d e s (parsed.Plan p) h is = absurd h
deployed_after stage.Body d e s parsed.Begin h is = absurd h
deployed_after stage.Ended d e s p h is = absurd h
deployed_after stage.Start d e s p h is = absurd (cc)
deployed_after stage.Sites d e s p h is = absurd (cc)
deployed_after stage.Gears d e s p h is = absurd (cc)
deployed_after stage.Header d e s p h is = absurd (cc)

-- ---- a line that says an act

acts_stand : (here : Stage) (s : State) (a : Act) → Stands here s (parsed.Act a) → (here ≡ stage.Body) × ActStands s a
acts_stand stage.Body s a h = (refl, h)
acts_stand stage.Start s a h = absurd h
acts_stand stage.Sites s a h = absurd h
acts_stand stage.Gears s a h = absurd h
acts_stand stage.Header s a h = absurd h
acts_stand stage.Ended s a h = absurd h

-- no settle is among them
same_settles : (dialect : Dialect) (n : ℕ) (a : Act) → has_form dialect form.Settle ≡ false → has_form dialect (form_of a) ≡ true → with_settle n (parsed.Act a) ≡ n
same_settles dialect n act.Settle none h = absurd (let never : true ≡ false = sym h ∙ none in cc)
same_settles dialect n _ none h = refl

room_full : (s : State) → s.acts < (limits_at s).acts → full s ≡ None
unfolding full
room_full s less = let test : ltb s.acts (limits_at s).acts ≡ true = grind (arith, nat_tests, less) in rw test refl

-- a line that says an act stands behind `begin`, where there is room for one, and is counted
pub record IsActLine {A : Type 0} (P : Deployed → A → Type 0) (s : State) (p : OwnParsed A) (a : A) : Type 0 where
  pub body : s.stage ≡ stage.Body
  pub room : full s ≡ None
  pub fits : P s.header a
  pub counted : own_after s p ≡ with_one_act s

plain_line : {A : Type 0} (these : OwnActs A) (P : Deployed → A → Type 0) (law : AreSound these P) (s : State) (b : Act) → s.dialect ≡ these.dialect → Stands s.stage s (parsed.Act b) → IsActLine P s (says.Plain (parsed.Act b)) (these.plain b)
plain_line these P law s b is h =
    let st = acts_stand s.stage s b h in
    let has : has_form these.dialect (form_of b) ≡ true = subst (λ (dialect : Dialect). has_form dialect (form_of b) ≡ true) is st.1.has in
    record {
      body = st.0;
      room = room_full s (act_room s b st.1.room);
      fits = law.plain_fits s.header b has st.1.fits;
      counted = ap (λ (n : ℕ). record { dialect = s.dialect; stage = s.stage; header = s.header; acts = s.acts + 1; settles = n }) (same_settles these.dialect s.settles b law.no_settle has);
    }

some_act : {A : Type 0} (a b : A) → Some a ≡ Some b → a ≡ b
some_act a b e = cc

of_plain : {A : Type 0} (these : OwnActs A) (P : Deployed → A → Type 0) (law : AreSound these P) (s : State) (q : Parsed) (a : A) → s.dialect ≡ these.dialect → Stands s.stage s q → act_in these (says.Plain q) ≡ Some a
    → IsActLine P s (says.Plain q) a
of_plain these P law s (parsed.Act b) a is h e = subst (λ x. IsActLine P s (says.Plain (parsed.Act b)) x) (some_act (these.plain b) a e) (plain_line these P law s b is h)
of_plain these P law s (parsed.Format f) a is h e = absurd (cc)
of_plain these P law s (parsed.Sites k) a is h e = absurd (cc)
of_plain these P law s (parsed.Gears k) a is h e = absurd (cc)
of_plain these P law s (parsed.Item item) a is h e = absurd (cc)
of_plain these P law s (parsed.Client line) a is h e = absurd (cc)
of_plain these P law s (parsed.Plan p) a is h e = absurd (cc)
of_plain these P law s parsed.Begin a is h e = absurd (cc)
of_plain these P law s parsed.End a is h e = absurd (cc)

pub act_line_is : {A : Type 0} (these : OwnActs A) (P : Deployed → A → Type 0) (law : AreSound these P) (s : State) (p : OwnParsed A) (a : A) → s.dialect ≡ these.dialect → IsOwnLine P s p → act_in these p ≡ Some a → IsActLine P s p a
act_line_is these P law s (says.Own b) a is h e = subst (λ x. IsActLine P s (says.Own b) x) (some_act b a e) (record { body = h.0; room = h.1; fits = h.2; counted = refl })
act_line_is these P law s (says.Plain q) a is h e = of_plain these P law s q a is h e

-- ---- a line that says none

pub acts_grow : (n : ℕ) (p : Parsed) → n ≤ with_act n p
acts_grow n (parsed.Act a) = omega arith
acts_grow n (parsed.Format f) = omega arith
acts_grow n (parsed.Sites k) = omega arith
acts_grow n (parsed.Gears k) = omega arith
acts_grow n (parsed.Item item) = omega arith
acts_grow n (parsed.Client line) = omega arith
acts_grow n (parsed.Plan p) = omega arith
acts_grow n parsed.Begin = omega arith
acts_grow n parsed.End = omega arith

-- the reader took a line, or stays where it was
pub reader_moves : (o : Option ScriptFault) (s : State) (new : Seen) (result : Result Line ScriptFault) (line : List ℕ) → Takes o s new result line
    → (new.state ≡ s) ⊎ ((p : Parsed) × (line_at s line ≡ Ok p) × (new.state ≡ after s p))
reader_moves None s new (Ok l) line h = inr (h.says, h.good, ap (λ (x : Seen). x.state) h.goes)
reader_moves None s new (Err f) line h = inl (ap (λ (x : Seen). x.state) h.1)
reader_moves (Some f) s new result line h = inl (ap (λ (x : Seen). x.state) h.1)
