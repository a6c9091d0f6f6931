-- What lies under a hub's lock: its node, and what its passes have looked at.
use Rattle.std.specs.Prelude.{ℕ, ◌≡◌, ◌≤◌, length, take}
use Rattle.sat_parts_passes.specs.Sendings.{HubHeld}
use Rattle.sat_parts_pump.specs.Times.{most_in}

-- the first n entries of the node's journal were looked at, and this is the greatest timestamp of what came by these
pub record IsWatched (held : HubHeld) (n most : ℕ) : Type 0 where
  pub upto : n ≤ length held.node.entries
  pub ts : most ≡ most_in 0 (take n held.node.entries)
