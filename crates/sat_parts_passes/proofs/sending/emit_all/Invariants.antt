use Rattle.std.proofs.Common.{◌≡◌}
use Rattle.sat_parts_passes.specs.Sendings.{Sent, pending_count}
use Rattle.sat_parts_passes.proofs.sending.emit_all.Given as goal

abbrev pub invariant-emitting : goal.invariant-emitting
invariant-emitting g l = Sent l.fn.held l.held × (l.held.outs ≡ l.fn.held.outs) × (l.held.ins ≡ l.fn.held.ins)

abbrev pub decreases-emitting : goal.decreases-emitting
decreases-emitting g l = pending_count l.held.node.machine
