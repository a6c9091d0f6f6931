use Rattle.std.proofs.Common.{◌≡◌, length, take}
use Rattle.std.specs.List.{flat_map}
use Rattle.sat_site.specs.Changes.{fresh_of}
use Rattle.sat_site.proofs.gears.count_labels.Given as goal

abbrev pub invariant-loop-gear : goal.invariant-loop-gear
invariant-loop-gear l = l.count ≡ length (flat_map fresh_of (take l.gear-index l.gears))
