use Rattle.std.proofs.Common.{◌≡◌, ◌<◌, ◌≤◌, ◌^◌, ℕ, length, Some, slice_get}
use Rattle.sat_gear.specs.Gear.{GearSeen}
use Rattle.sat_world.specs.Clocks.{IsTop}
use Rattle.sat_world.proofs.clocks.top.Given as goal

abbrev pub invariant-loop-gear : goal.invariant-loop-gear
invariant-loop-gear l = record {
  top : IsTop l.site l.gear l.greatest;
  above : (g : ℕ) (x : GearSeen) → slice_get l.site.gears g ≡ Some x → g < l.gear → x.promise ≤ l.greatest;
  count : 0 < l.gear → length l.site.gears ≡ l.site.shape.gears;
  limit : l.greatest ≤ 2 ^ 62;
}
