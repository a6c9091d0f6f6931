-- Opened nodes as contracts see them.
use Rattle.std.specs.Prelude.{ℕ, List}
use Rattle.sat_opened.specs.Laws.{SerialHeld}
use Rattle.sat_parts_opened.specs.Laws.{GearHeld, HubHeld}

-- all nodes, and how many sessions were given
pub record OpenedSeen : Type 0 where
  pub hubs : List HubHeld
  pub gears : List GearHeld
  pub serials : List SerialHeld
  pub given : ℕ
