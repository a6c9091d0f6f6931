-- What a header shows.
use Rattle.std.specs.Prelude.{Some, None}
use Rattle.std.specs.declared.option.Option.{Option}
use Rattle.sat_act.specs.Deployed.{Deployed}

-- a header as far as it has come, and the deployment that it is from the line `begin` on
pub record HeaderSeen : Type 0 where
  pub said : Deployed
  pub whole : Option Deployed

-- the deployment, where there is one, and else the parts that came
abbrev pub said_by : Option Deployed → Deployed → Deployed
said_by None parts = parts
said_by (Some d) parts = d
