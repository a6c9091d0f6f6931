-- What holds of a history that was read, and what an audit asks for.
use Rattle.std.specs.Prelude.{◌≡◌, ◌<◌, ◌≤◌, List, ◌∷◌, ◌++◌, true, false, length, Some}
use Rattle.std.specs.List.{AllByRecursion}
use Rattle.sat_label.specs.declared.limits.TheConstants.{TS_END}
use Rattle.sat_label.specs.declared.point.Point.{Point}
use Rattle.sat_act.specs.Deployed.{Deployed}
use Rattle.sat_act.specs.Limits.{IsDeployment}
use Rattle.sat_act.specs.Ranges.{IsActOf}
use Rattle.sat_act.specs.Runs.{is_settle}
use Rattle.sat_act.specs.declared.act.Act.{Act}
use Rattle.sat_script.specs.declared.limits.TheConstants.{AUDIT_ACTS}
use Rattle.sat_audit.specs.Lines.{was_made}
use Rattle.sat_audit.specs.Told.{is_write, is_read, is_move, is_show, made_in}
use Rattle.sat_audit.specs.declared.heard.Heard.{Heard}
use Rattle.sat_audit.specs.declared.heard.History.{History}
use Rattle.sat_audit.specs.declared.told.Told.{Told}
use Rattle.sat_audit.specs.declared.told.Told.TheVariants as told

-- a point of a deployment: a timestamp up to the last one, and a site and a gear
pub record IsPointOf (d : Deployed) (p : Point) : Type 0 where
  pub ts : p.ts ≤ TS_END
  pub site : p.site < d.sites
  pub gear : p.gear < d.gears

-- what an act may be told
abbrev pub Tells : Deployed → Act → Told → Type 0
Tells d a (told.Wrote p) = (is_write a ≡ true) × IsPointOf d p
Tells d a told.ReadNone = is_read a ≡ true
Tells d a (told.ReadSome p) = (is_read a ≡ true) × IsPointOf d p
Tells d a (told.Moved p) = (is_move a ≡ true) × IsPointOf d p
Tells d a (told.Shown p) = (is_show a ≡ true) × IsPointOf d p
Tells d a told.Other = Unit {0}

-- an act of a deployment, no settle, and what it may be told
pub record IsHeardOf (d : Deployed) (e : Heard) : Type 0 where
  pub act : IsActOf d e.act
  pub no_settle : is_settle e.act ≡ false
  pub told : Tells d e.act e.told

abbrev pub AreHeardOf : Deployed → List Heard → Type 0
AreHeardOf d heard = AllByRecursion (λ e. IsHeardOf d e) heard

-- no entry makes a point that one before it made
abbrev pub AreMadeOnce : List Heard → Type 0
AreMadeOnce heard = (front rest : List Heard) (e : Heard) (p : Point) → heard ≡ front ++ e ∷ rest
    → made_in e.told ≡ Some p → was_made front p ≡ false

-- a history that may be judged
pub record IsHistory (h : History) : Type 0 where
  pub deployment : IsDeployment h.deployment
  pub each : AreHeardOf h.deployment h.heard
  pub few : length h.heard ≤ AUDIT_ACTS
  pub once : AreMadeOnce h.heard
