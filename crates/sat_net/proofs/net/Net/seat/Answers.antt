use Rattle.std.proofs.Common.{◌≡◌, subst}
use Rattle.sat_tree.specs.Cut.{seat_of}
use Rattle.sat_net.specs.Nets.{NetSeen}
use Rattle.sat_net.proofs.Edges.{read-seat}
use Rattle.sat_net.proofs.net.Net.seat.Goals as goal

pub returns-clause-seat : goal.returns-clause-seat
returns-clause-seat c = subst (λ (n : NetSeen). c.seat.result ≡ seat_of n.tree c.args.site) c.self.view_is (read-seat _ _ _ c.seat.ensures.seat)
