-- What a text that is read spells, how often a text begins with a spelling, and what is read of any text.
use Rattle.std.specs.Prelude.{ℕ, ◌≡◌, ◌≤◌, Bool, List, [], ◌++◌, length, Some, None, IfSome}
use Rattle.sat_act.specs.declared.act.Act.{Act}
use Rattle.sat_act.specs.Deployed.{Deployed}
use Rattle.sat_act.specs.Limits.{IsDeployment}
use Rattle.sat_script.specs.Dialect.{dialect_of, limits_of}
use Rattle.sat_script.specs.Spelled.{AreActsOf, HaveNames, Spells, spelling}
use Rattle.sat_stream.specs.Reading.{IsAllowed}
use Rattle.sat_stream.specs.declared.stream.Reading.{Reading}

-- the reading has a deployment, and the text spells it and the acts, within the limits
abbrev pub IsRead : Bool → Reading → List ℕ → Type 0
IsRead live found text =
    (d : Deployed) × (found.deployment ≡ Some d) × Spells text d found.acts × IsAllowed live d found.acts

-- a deployment within its limits, whose names are names, and acts of it. It asks nothing of how many acts these are
pub record CanBeSpelled (d : Deployed) (acts : List Act) : Type 0 where
  pub deployment : IsDeployment d
  pub names : HaveNames d
  pub each : AreActsOf d acts

-- where two spellings begin one text, whatever stands behind them, they are of one deployment and of the same acts, and
-- the same stands behind both
abbrev pub SpellingsBeginOnce : Type 0
SpellingsBeginOnce =
    (d e : Deployed) (a b : List Act) (r s : List ℕ) → CanBeSpelled d a → CanBeSpelled e b
    → spelling d a ++ r ≡ spelling e b ++ s
    → (d ≡ e) × (a ≡ b) × (r ≡ s)

-- what is read of any text, also of one with a fault: a deployment and acts of it, no more than there may be; and no
-- acts without one
pub record IsSound (live : Bool) (found : Reading) : Type 0 where
  pub whole : IfSome found.deployment (λ d. IsDeployment d × HaveNames d × AreActsOf d found.acts)
  pub none : found.deployment ≡ None → found.acts ≡ []
  pub few : IfSome found.deployment (λ d. length found.acts ≤ (limits_of (dialect_of live) d.format).acts)
