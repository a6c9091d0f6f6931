use Rattle.std.proofs.Common.{length, take, refl}
use Rattle.sat_net.proofs.Kept.{same-net}
use Rattle.sat_net.proofs.Calls.{arrives-at}
use Rattle.sat_net.proofs.Handed.{net-handed}
use Rattle.sat_net.proofs.net.Net.hand_all.Goals as goal

pub hand_all-requires-clause-arrives : goal.hand_all-requires-clause-arrives
hand_all-requires-clause-arrives c = λ s l at is. arrives-at _ _ _ _ _ _ c.self.view_is c.self.invariant (c.requires.arrives l is) s at

pub invariant_of-self : goal.invariant_of-self
invariant_of-self c = same-net _ _ _ _ _ c.in-Err.ensures.err.1.after refl (net-handed _ c.args.interest.now c.args.from c.args.to (take c.in-Err.ensures.err.0 c.args.labels.now.members) c.self.invariant)

pub invariant_of-self-2 : goal.invariant_of-self-2
invariant_of-self-2 c = same-net _ _ _ _ _ c.in_default.ensures.ok.after refl (net-handed _ c.args.interest.now c.args.from c.args.to (take (length c.args.labels.now.members) c.args.labels.now.members) c.self.invariant)
