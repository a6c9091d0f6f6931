use Rattle.std.proofs.Common.{◌≡◌, ◌++◌}
use Rattle.sat_draw.specs.Head.{serializers_elements}
use Rattle.sat_draw.proofs.head.push_serializers.Given as goal

abbrev pub invariant-loop-z : goal.invariant-loop-z
invariant-loop-z l = l.out.items ≡ l.fn.out.items ++ serializers_elements l.d l.top l.bottom l.epoch l.y l.tree l.z
