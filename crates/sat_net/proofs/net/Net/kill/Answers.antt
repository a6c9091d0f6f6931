use Rattle.std.proofs.Common.{refl}
use Rattle.sat_net.proofs.Kept.{net-kill, same-net}
use Rattle.sat_net.proofs.net.Net.kill.Goals as goal

pub invariant_of-self : goal.invariant_of-self
invariant_of-self c = same-net _ _ _ _ _ c.kill.ensures refl (net-kill _ c.args.z c.self.invariant)
