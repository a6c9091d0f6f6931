use Rattle.std.proofs.Common.{ℕ, ◌≡◌, ◌<◌, Some}
use Rattle.std.specs.List.{slice_get}
use Rattle.sat_gear.specs.Gear.{GearSeen, IsGear}
use Rattle.sat_site.proofs.gears.all_limits.Given as goal

abbrev pub invariant-loop-gear : goal.invariant-loop-gear
invariant-loop-gear l = (g : ℕ) (gear : GearSeen) → g < l.gear-index → slice_get l.gears g ≡ Some gear → IsGear gear
