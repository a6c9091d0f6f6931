-- What a walk of parts finds.
use Rattle.std.specs.Prelude.{◌≡◌, ◌<◌, ◌≤◌, ℕ, List, [], ◌∷◌, Option, Some, None, slice_get}
use Rattle.std.specs.Global.{Vec}
use Rattle.std.specs.List.{flat_map}
use Rattle.sat_label.specs.declared.node.NodeName.{NodeName}
use Rattle.sat_label.specs.declared.node.NodeName.TheVariants as named
use Rattle.sat_act.specs.Deployed.{Deployed}
use Rattle.sat_node.specs.declared.kept.Kept.{Kept as Line}
use Rattle.sat_parts.specs.declared.gear_answer.GearAnswer.{GearAnswer}
use Rattle.sat_parts.specs.Acts.{GearActSeen}
use Rattle.sat_opened.specs.Opened.{entries_at}
use Rattle.sat_parts_opened.specs.Laws.{GearHeld, HubHeld}
use Rattle.sat_finish.specs.declared.site_marks.Marks.{Marks}
use Rattle.sat_finish.specs.declared.walk.Parting.{Parting}
use Rattle.sat_finish.specs.Marks.{HubMarks, WrittenMarks}
use Rattle.sat_finish.specs.Parts.{PartSeen, SameParts, gear_parts, home_parts, kept_part}
use Rattle.sat_finish.specs.Partings.{IsParting, IsPartingAt, IsPartingOf}

-- one part, or none
abbrev pub parts_in : Option PartSeen → List PartSeen
parts_in None = []
parts_in (Some p) = p ∷ []

-- nothing where two nodes kept the same parts, and else where they are apart
abbrev pub IsWalked : NodeName → NodeName → List PartSeen → List PartSeen → Option Parting → Type 0
IsWalked home gear xs ys None = xs ≡ ys
IsWalked home gear xs ys (Some p) = IsPartingOf home gear xs ys p.lamport p.home p.other

-- the parts that a gear kept of acts of one other gear, by its entries
abbrev pub parts_of : ℕ → ℕ → ℕ → List (Line GearActSeen GearAnswer) → List PartSeen
parts_of i g h es = flat_map (kept_part i g (Some h)) es

-- nothing where a gear kept no part of an act of a gear of this number or a greater one, and else such a part, of which
-- no home is there
abbrev pub IsStray : ℕ → ℕ → ℕ → List (Line GearActSeen GearAnswer) → Option Parting → Type 0
IsStray n i g es None = (h : ℕ) → n ≤ h → parts_of i g h es ≡ []
IsStray n i g es (Some p) =
    (h : ℕ) × (n ≤ h) × IsPartingOf (named.Gear i h) (named.Gear i g) [] (parts_of i g h es) p.lamport p.home p.other

-- the marked places of each gear of site i that a list has
abbrev pub AreGearMarks : List GearHeld → ℕ → List (Vec ℕ) → Type 0
AreGearMarks gears i list =
    (h : ℕ) (marks : Vec ℕ) → slice_get list h ≡ Some marks
    → WrittenMarks (entries_at (named.Gear i h) gears) marks.items

-- and of its hub
pub record AreMarks (hubs : List HubHeld) (gears : List GearHeld) (i : ℕ) (marks : Marks) : Type 0 where
  pub at_hub : HubMarks (entries_at (named.Site i) hubs) marks.hub.items
  pub at_gears : AreGearMarks gears i marks.gears.items

module _ (d : Deployed) (hubs : List HubHeld) (gears : List GearHeld) where
  -- a node that stands at a place is the one of its name, and no gear has a number that is too great
  pub record HasNames : Type 0 where
    pub hub : (n i : ℕ) (h : HubHeld) → slice_get hubs n ≡ Some h → h.node.name ≡ named.Site i
        → entries_at (named.Site i) hubs ≡ h.node.entries
    pub gear : (n i g : ℕ) (h : GearHeld) → slice_get gears n ≡ Some h → h.node.name ≡ named.Gear i g
        → entries_at (named.Gear i g) gears ≡ h.node.entries
    pub far : (i g : ℕ) → d.gears ≤ g → entries_at (named.Gear i g) gears ≡ []

  -- nothing where this home and a gear kept the same parts, and else where they are apart
  abbrev pub IsWalkedAt : ℕ → ℕ → Option ℕ → Option Parting → Type 0
  IsWalkedAt i g o None = home_parts d hubs gears i g o ≡ gear_parts gears i g o
  IsWalkedAt i g o (Some p) = IsPartingAt d hubs gears i g o p.lamport p.home p.other

  -- the same of a gear and the first so many gears of its site
  abbrev pub IsWalkedGears : ℕ → ℕ → ℕ → Option Parting → Type 0
  IsWalkedGears n i g None = (h : ℕ) → h < n → home_parts d hubs gears i g (Some h) ≡ gear_parts gears i g (Some h)
  IsWalkedGears n i g (Some p) = (h : ℕ) × IsPartingAt d hubs gears i g (Some h) p.lamport p.home p.other

  -- of a gear and the gears that there are not
  abbrev pub IsWalkedFar : ℕ → ℕ → Option Parting → Type 0
  IsWalkedFar i g None = (h : ℕ) → d.gears ≤ h → home_parts d hubs gears i g (Some h) ≡ gear_parts gears i g (Some h)
  IsWalkedFar i g (Some p) = (h : ℕ) × IsPartingAt d hubs gears i g (Some h) p.lamport p.home p.other

  -- of a gear and all homes
  abbrev pub IsWalkedGear : ℕ → ℕ → Option Parting → Type 0
  IsWalkedGear i g None = (o : Option ℕ) → home_parts d hubs gears i g o ≡ gear_parts gears i g o
  IsWalkedGear i g (Some p) = (o : Option ℕ) × IsPartingAt d hubs gears i g o p.lamport p.home p.other

  -- of the gears of a site
  abbrev pub IsWalkedSite : ℕ → Option Parting → Type 0
  IsWalkedSite i None = (g : ℕ) (o : Option ℕ) → g < d.gears → home_parts d hubs gears i g o ≡ gear_parts gears i g o
  IsWalkedSite i (Some p) = IsParting d hubs gears p.lamport p.home p.other

  -- and of all
  abbrev pub IsWalkedAll : Option Parting → Type 0
  IsWalkedAll None = SameParts d hubs gears
  IsWalkedAll (Some p) = IsParting d hubs gears p.lamport p.home p.other
