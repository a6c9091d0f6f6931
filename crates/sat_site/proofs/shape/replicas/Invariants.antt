use Rattle.std.proofs.Common.{◌≡◌, map, take}
use Rattle.sat_model.specs.Interests.{replicas_of}
use Rattle.sat_site.proofs.shape.replicas.Given as goal

abbrev pub invariant-loop-item : goal.invariant-loop-item
invariant-loop-item l = l.sets.items ≡ map replicas_of (take l.item-index l.item-items)
