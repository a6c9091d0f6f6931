use Rattle.sat_machines.proofs.Peers.{far}
use Rattle.sat_machines.proofs.site_node.has_peer.Goals as goal

pub returns-then-link-ge64 : goal.returns-then-link-ge64
returns-then-link-ge64 c = far c.args.bits c.args.site c.args.link c.ranges.bits.fits c.if-link-ge64.true
