use Rattle.std.proofs.Common.{Option, ap, ◌∙◌, arith}
use Rattle.sat_act.specs.Settling.{capped}
use Rattle.sat_net.specs.Nets.{NetSeen}
use Rattle.sat_world.specs.Left.{net_underway}
use Rattle.sat_world.proofs.Lefts.{net-more}
use Rattle.sat_world.proofs.underway.on_links.Goals as goal

pub loop-net-preserved : goal.loop-net-preserved
loop-net-preserved c =
    net-more c.args.nets.now c.loop-net.net-index c.loop-net.sum c.in_net.result c.saturating_add-sum.result c.net-item.result (omega arith) c.loop-net.invariant
    (c.in_net.ensures ∙ ap (λ (o : Option NetSeen). capped (net_underway o)) c.net-item.is) c.saturating_add-sum.ensures
