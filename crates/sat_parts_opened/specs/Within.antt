-- The parts of hubs and gears agree where those of all nodes that there are do. So pairs of these nodes are compared,
-- and no other.
use Rattle.std.specs.Prelude.{◌≡◌, ◌<◌, ◌≤◌, ℕ, List, [], Option, Some, None}
use Rattle.sat_act.specs.Deployed.{Deployed}
use Rattle.sat_act.specs.Limits.{IsDeployment}
use Rattle.sat_joint.specs.Pieces.{Piece}
use Rattle.sat_joint.specs.Table.{Node, AtGear}
use Rattle.sat_hub_laws.specs.Parts.{PartsAgree, given_parts, home_node, kept_parts}
use Rattle.sat_opened.specs.Laws.{SerialHeld}
use Rattle.sat_parts_opened.specs.Opened.{PartsOpened, pieces_at}
use Rattle.sat_parts_opened.specs.Laws.{GearHeld, HubHeld}

-- a home at a site of a deployment: the hub, or one of its gears
abbrev pub IsHome : Deployed → Option ℕ → Type 0
IsHome d None = Unit {0}
IsHome d (Some h) = h < d.gears

-- for each gear of a deployment, and each home at its site, what the home kept of the gear and what the gear kept are
-- the same parts; and no gear kept a part of an act of a home that there is not
pub record AgreeWithin (d : Deployed) (lists : Node → List Piece) : Type 0 where
  pub pairs : (i g : ℕ) (o : Option ℕ) → i < d.sites → g < d.gears → IsHome d o →
      given_parts d i g o (lists (home_node i o)) ≡ kept_parts d i g o (lists (AtGear i g))
  pub homes : (i g h : ℕ) → i < d.sites → g < d.gears → d.gears ≤ h
      → kept_parts d i g (Some h) (lists (AtGear i g)) ≡ []

-- of opened nodes the one is as much as the other
abbrev pub AgreeIfWithin : Type 0
AgreeIfWithin = (d : Deployed) (hubs : List HubHeld) (gears : List GearHeld) (serials : List SerialHeld)
    (alone : ℕ → List Piece) → IsDeployment d → PartsOpened d hubs gears serials
    → AgreeWithin d (pieces_at hubs gears serials alone) → PartsAgree d (pieces_at hubs gears serials alone)

-- and the other way
abbrev pub WithinIfAgree : Type 0
WithinIfAgree = (d : Deployed) (hubs : List HubHeld) (gears : List GearHeld) (serials : List SerialHeld)
    (alone : ℕ → List Piece) → PartsOpened d hubs gears serials
    → PartsAgree d (pieces_at hubs gears serials alone) → AgreeWithin d (pieces_at hubs gears serials alone)
