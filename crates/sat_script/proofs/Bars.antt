-- What it means that the form of a line bars nothing.
use Rattle.std.proofs.Common.{◌≡◌, ℕ, Bool, true, false, not, cond, ltb, Some, None, ◌<◌, refl}
use Rattle.std.proofs.lemmas.Bool.{lt-ltb}
use Rattle.sat_label.specs.Formats.{limits_of as format_limits}
use Rattle.sat_script.specs.Said.{TakesActs, is_counted}
use Rattle.sat_script.specs.declared.dialect.Dialect.{Dialect}
use Rattle.sat_script.specs.declared.dialect.Dialect.TheVariants as dialect
use Rattle.sat_script.specs.declared.form.Form.TheVariants as form
use Rattle.sat_script.specs.declared.line.Stage.TheVariants as stage
use Rattle.sat_script.specs.Causes.{bar, full, has_room}
use Rattle.sat_script.specs.Dialect.{has_form, is_quick, lacking, limits_of}
use Rattle.sat_script.specs.State.{State, limits_at}
use Rattle.sat_script.specs.declared.fault.Cause.TheVariants.{TooMany}
use Rattle.sat_script.specs.declared.form.Form.{Form}

pub record IsFree (s : State) (f : Form) : Type 0 where
  pub has : has_form s.dialect f ≡ true
  pub room : has_room s f ≡ true

pub free : (s : State) (f : Form) → bar s f ≡ None → IsFree s f
unfolding bar
free s f h = go (has_form s.dialect f) (has_room s f) refl refl h
  where
    go : (a b : Bool) → has_form s.dialect f ≡ a → has_room s f ≡ b → cond (not a) (Some (lacking s.dialect)) (cond (not b) (Some TooMany) None) ≡ None → IsFree s f
    go true true p q h = record { has = p; room = q }
    go false b p q h = absurd (cc)
    go true false p q h = absurd (cc)

-- and the other way
pub bars_nothing : (s : State) (f : Form) → has_form s.dialect f ≡ true → has_room s f ≡ true → bar s f ≡ None
unfolding bar
bars_nothing s f has room = rw (has, room) refl

-- a dialect whose lines are read quickly has each form that most lines are, and the limits of their format
has_counted : (x : Dialect) (f : Form) → is_quick x ≡ true → is_counted (has_form x form.Hop) f ≡ true → has_form x f ≡ true
has_counted dialect.Run f q h = refl
has_counted dialect.Live f q h = absurd (cc)
has_counted dialect.Audit f q h = absurd (cc)
has_counted dialect.Chain form.Hop q h = absurd (cc)
has_counted dialect.Chain form.Kill q h = absurd (cc)
has_counted dialect.Chain form.Settle q h = absurd (cc)
has_counted dialect.Chain _ q h = refl
has_counted dialect.Lasting form.Clock q h = absurd (cc)
has_counted dialect.Lasting form.Settle q h = absurd (cc)
has_counted dialect.Lasting _ q h = refl

quick_limits : (x : Dialect) (format : ℕ) → is_quick x ≡ true → (limits_of x format).acts ≡ (format_limits format).acts
quick_limits dialect.Run format q = refl
quick_limits dialect.Live format q = absurd (cc)
quick_limits dialect.Audit format q = absurd (cc)
quick_limits dialect.Chain format q = refl
quick_limits dialect.Lasting format q = refl

-- every form that only the number of acts limits may stand in the body of such a script
pub takes_acts : (s : State) → s.stage ≡ stage.Body → is_quick s.dialect ≡ true → s.acts < (format_limits s.header.format).acts → TakesActs s
unfolding has_room full
takes_acts s body quick few = record {
  body = body;
  more = rw within refl;
  free = λ f h. bars_nothing s f (has_counted s.dialect f quick h) (room (has_form s.dialect form.Hop) f h);
}
  where
    within : ltb s.acts (limits_at s).acts ≡ true
    within = lt-ltb s.acts (limits_at s).acts (rw (quick_limits s.dialect s.header.format quick) few)

    room : (hops : Bool) (f : Form) → is_counted hops f ≡ true → has_room s f ≡ true
    room hops form.Item h = absurd (cc)
    room hops form.Client h = absurd (cc)
    room hops form.PlanStamp h = absurd (cc)
    room hops form.PlanTree h = absurd (cc)
    room hops form.Settle h = absurd (cc)
    room hops _ h = within
