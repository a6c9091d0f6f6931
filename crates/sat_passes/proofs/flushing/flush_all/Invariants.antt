use Rattle.std.proofs.Common.{◌≡◌}
use Rattle.sat_node.specs.Puts.{Stopped}
use Rattle.sat_passes.proofs.Members.{First}
use Rattle.sat_passes.proofs.flushing.flush_all.Given as goal

abbrev pub invariant-loop-link : goal.invariant-loop-link
invariant-loop-link g l =
    (l.held.node ≡ l.fn.held.node) × (l.held.ins ≡ l.fn.held.ins)
    × First l.link (λ k p o. Stopped l.fn.held.node.entries p o) l.fn.held.outs l.held.outs
