-- Where the home of an act and one of its gears are apart.
use Rattle.std.specs.Prelude.{◌≡◌, ◌≢◌, ◌<◌, ℕ, List, Option, option_map}
use Rattle.sat_label.specs.declared.node.NodeName.{NodeName}
use Rattle.sat_label.specs.declared.node.NodeName.TheVariants as named
use Rattle.sat_act.specs.Deployed.{Deployed}
use Rattle.sat_apart.specs.Lists.{under}
use Rattle.sat_parts_opened.specs.Laws.{GearHeld, HubHeld}
use Rattle.sat_finish.specs.declared.joint.Joint.{Joint}
use Rattle.sat_finish.specs.Parts.{PartSeen, gear_parts, home_name, home_parts, part_number}

-- a part of this node
abbrev pub joint_at : NodeName → PartSeen → Joint
joint_at name p = record { at = name; entry = p.entry; given = p.given }

-- the part of a node under a number, None where it has none
abbrev pub joint_under : NodeName → ℕ → List PartSeen → Option Joint
joint_under name n ps = option_map (joint_at name) (under part_number n ps)

-- of these parts of two nodes the ones under a number, and these are not the same. Under each lesser number they are
pub record IsPartingOf (home gear : NodeName) (xs ys : List PartSeen) (lamport : ℕ) (first second : Option Joint)
    : Type 0 where
  pub at_home : first ≡ joint_under home lamport xs
  pub at_gear : second ≡ joint_under gear lamport ys
  pub differ : under part_number lamport xs ≢ under part_number lamport ys
  pub least : (n : ℕ) → n < lamport → under part_number n xs ≡ under part_number n ys

-- the same of what this home kept of a gear, and of what the gear kept
abbrev pub IsPartingAt : Deployed → List HubHeld → List GearHeld → ℕ → ℕ → Option ℕ → ℕ → Option Joint → Option Joint
    → Type 0
IsPartingAt d hubs gears i g o lamport home other =
    IsPartingOf (home_name i o) (named.Gear i g) (home_parts d hubs gears i g o) (gear_parts gears i g o) lamport home
    other

-- it is of one gear of a deployment, and one home at its site. Where there is no such home it kept nothing
pub record IsParting (d : Deployed) (hubs : List HubHeld) (gears : List GearHeld) (lamport : ℕ)
    (home other : Option Joint)
    : Type 0 where
  pub site : ℕ
  pub gear : ℕ
  pub whose : Option ℕ
  pub site_is : site < d.sites
  pub gear_is : gear < d.gears
  pub parting : IsPartingAt d hubs gears site gear whose lamport home other
