use Rattle.std.proofs.Common.{None}
use Rattle.sat_finish.specs.Walking.{IsWalkedGears}
use Rattle.sat_finish.proofs.walk.at_gears.Given as goal

abbrev pub invariant-loop-home : goal.invariant-loop-home
invariant-loop-home g l = IsWalkedGears l.d l.hubs l.gears l.home l.site l.gear None
