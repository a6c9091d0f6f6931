use Rattle.std.proofs.Common.{refl}
use Rattle.sat_net.proofs.Kept.{net-send, same-net}
use Rattle.sat_net.proofs.net.Net.send.Goals as goal

pub invariant_of-self-2 : goal.invariant_of-self-2
invariant_of-self-2 c = same-net _ _ _ _ _ refl c.in_ok-send.ensures.ok (net-send _ c.args.site c.args.label c.self.invariant)
