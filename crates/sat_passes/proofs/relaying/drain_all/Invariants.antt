use Rattle.std.proofs.Common.{◌≡◌}
use Rattle.sat_passes.specs.Relays.{Hops, IsDrained}
use Rattle.sat_passes.proofs.Members.{First}
use Rattle.sat_passes.proofs.relaying.drain_all.Given as goal

abbrev pub invariant-loop-link : goal.invariant-loop-link
invariant-loop-link g l =
    Hops l.fn.held l.held × (l.held.outs ≡ l.fn.held.outs) × First l.link (λ k j i. IsDrained g.N.Laid.deployment l.held.node.machine k j i) l.fn.held.ins l.held.ins
