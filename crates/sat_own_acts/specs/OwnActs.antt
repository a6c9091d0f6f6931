-- The acts that the scripts of a command have beside the plain ones.
use Rattle.std.specs.Prelude.{ℕ, ◌≡◌, true, false, List, Option, Some, None, Result, Ok}
use Rattle.sat_act.specs.declared.act.Act.{Act}
use Rattle.sat_act.specs.Deployed.{Deployed}
use Rattle.sat_act.specs.Limits.{IsDeployment}
use Rattle.sat_act.specs.Ranges.{IsActOf}
use Rattle.sat_script.specs.Causes.{full}
use Rattle.sat_script.specs.Dialect.{has_form, limits_of}
use Rattle.sat_script.specs.State.{State}
use Rattle.sat_script.specs.Table.{form_of}
use Rattle.sat_script.specs.declared.dialect.Dialect.{Dialect}
use Rattle.sat_script.specs.declared.dialect.Dialect.TheVariants.{Run}
use Rattle.sat_script.specs.declared.fault.Cause.{Cause}
use Rattle.sat_script.specs.declared.form.Form.TheVariants.{Settle}

-- acts of type A
pub record OwnActs (A : Type 0) : Type 0 where
  -- the plain forms that stand beside them, and the limits
  pub dialect : Dialect
  -- what a line's words say behind `begin`, where they have the form of an act of the command's own
  pub own : State → List (List ℕ) → Option (Result A Cause)
  -- a plain act as one of the script's
  pub plain : Act → A

-- Each act that a line says is one of the deployment's, as P has it, and there is room for it. The limits are those of
-- scripts for `run`, and no `settle` is among the acts.
pub record AreSound {A : Type 0} (these : OwnActs A) (P : Deployed → A → Type 0) : Type 0 where
  pub limits : (format : ℕ) → limits_of these.dialect format ≡ limits_of Run format
  pub no_settle : has_form these.dialect Settle ≡ false
  pub plain_fits : (d : Deployed) (a : Act) → has_form these.dialect (form_of a) ≡ true → IsActOf d a
      → P d (these.plain a)
  pub own_fits : (s : State) (words : List (List ℕ)) (a : A) → IsDeployment s.header → these.own s words ≡ Some (Ok a)
      → (full s ≡ None) × P s.header a
