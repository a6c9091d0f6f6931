use Rattle.std.proofs.Common.{◌≡◌, ◌<◌, ℕ, Option}
use Rattle.sat_finish.specs.Parts.{gear_parts, home_parts}
use Rattle.sat_finish.proofs.walk.at_site.Given as goal

abbrev pub invariant-loop-gear : goal.invariant-loop-gear
invariant-loop-gear g l = (n : ℕ) → n < l.gear → (o : Option ℕ) → home_parts l.d l.hubs l.gears l.site n o ≡ gear_parts l.gears l.site n o
