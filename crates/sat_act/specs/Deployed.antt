-- Deployments, as contracts see them.
use Rattle.std.specs.Prelude.{ℕ, List}
use Rattle.sat_act.specs.declared.deployment.Item.{Item}
use Rattle.sat_act.specs.declared.deployment.ClientLine.{ClientLine}
use Rattle.sat_act.specs.declared.deployment.Plan.{Plan}

-- what a script's header says: its format, the numbers of sites and of gears of each site, the items, the clients, and
-- a plan for each epoch
pub record Deployed : Type 0 where
  pub format : ℕ
  pub sites : ℕ
  pub gears : ℕ
  pub items : List Item
  pub clients : List ClientLine
  pub plans : List Plan
