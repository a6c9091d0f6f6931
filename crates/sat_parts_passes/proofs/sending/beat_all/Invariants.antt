use Rattle.std.proofs.Common.{◌≡◌}
use Rattle.sat_parts_passes.specs.Sendings.{AreTold, Sent, StaysSent}
use Rattle.sat_parts_passes.proofs.sending.beat_all.Given as goal

abbrev pub invariant-loop-to : goal.invariant-loop-to
invariant-loop-to g l =
    Sent l.fn.held l.held × (l.held.outs ≡ l.fn.held.outs) × (l.held.ins ≡ l.fn.held.ins)
    × AreTold l.to l.held.node.machine × StaysSent g.N.Laid.deployment.sites l.fn.held.node.machine l.held.node.machine
