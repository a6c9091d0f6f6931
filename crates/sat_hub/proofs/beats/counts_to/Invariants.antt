use Rattle.std.proofs.Common.{◌≡◌, map, take}
use Rattle.sat_hub.specs.Changes.{count_to}
use Rattle.sat_hub.proofs.beats.counts_to.Given as goal

abbrev pub invariant-loop-row : goal.invariant-loop-row
invariant-loop-row l = l.list ≡ map (count_to l.to) (take l.row-index l.counts)
