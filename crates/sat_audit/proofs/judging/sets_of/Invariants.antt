use Rattle.std.specs.Prelude.{◌≡◌, map, take}
use Rattle.sat_audit.specs.Judging.{replicas_of}
use Rattle.sat_audit.proofs.judging.sets_of.Given as goal

abbrev pub invariant-loop-item : goal.invariant-loop-item
invariant-loop-item l = l.sets.items ≡ map replicas_of (take l.item-index l.items)
