use Rattle.std.proofs.Common.{◌≡◌, map}
use Rattle.sat_label.specs.Words.{below}
use Rattle.sat_serial.specs.Outboxes.{fresh}
use Rattle.sat_net.proofs.net.serializers.Given as goal

abbrev pub invariant-loop-number : goal.invariant-loop-number
invariant-loop-number l = l.serializers.items ≡ map (fresh l.tree) (below l.number)
