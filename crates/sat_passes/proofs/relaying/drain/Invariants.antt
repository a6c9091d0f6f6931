use Rattle.std.proofs.Common.{◌≡◌}
use Rattle.sat_node.specs.Links.{OnlyAt}
use Rattle.sat_passes.specs.Relays.{Hops, SameEmpties}
use Rattle.sat_passes.proofs.relaying.drain.Given as goal

abbrev pub invariant-draining : goal.invariant-draining
invariant-draining g l = Hops l.fn.held l.held × (l.held.outs ≡ l.fn.held.outs) × OnlyAt l.link SameEmpties l.fn.held.ins l.held.ins
