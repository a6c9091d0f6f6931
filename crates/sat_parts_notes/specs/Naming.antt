-- The names of the nodes of a deployment, in order.
use Rattle.std.specs.Prelude.{◌≡◌, ℕ, List, [], map}
use Rattle.sat_label.specs.declared.node.NodeName.{NodeName}
use Rattle.sat_label.specs.declared.node.NodeName.TheVariants as named
use Rattle.sat_label.specs.Words.{below}
use Rattle.sat_act.specs.declared.deployment.Plan.{Plan}
use Rattle.sat_act.specs.declared.deployment.Plan.TheVariants as plan
use Rattle.sat_act.specs.Deployed.{Deployed}
use Rattle.sat_opened.specs.Opened.{name_in, serial_names, tree_names}
use Rattle.sat_opened.specs.Laws.{SerialHeld}
use Rattle.sat_parts.specs.Layout.{gear_names}
use Rattle.sat_parts_opened.specs.Laws.{GearHeld, HubHeld}

-- the names of the serializers of a plan
abbrev pub plan_names : ℕ → Plan → List NodeName
plan_names e plan.Stamp = []
plan_names e (plan.Tree t) = tree_names (record { epoch = e; tree = t })

-- these are all nodes of a deployment, each once: hubs by site, gears by site and number, and serializers by epoch and
-- number
pub record AreNamed (d : Deployed) (hubs : List HubHeld) (gears : List GearHeld) (serials : List SerialHeld) : Type 0
  where
    pub hubs_are : map name_in hubs ≡ map named.Site (below d.sites)
    pub gears_are : map name_in gears ≡ gear_names d
    pub serials_are : map name_in serials ≡ serial_names d
