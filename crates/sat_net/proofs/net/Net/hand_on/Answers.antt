use Rattle.std.proofs.Common.{refl}
use Rattle.sat_net.proofs.Kept.{net-copies, same-net}
use Rattle.sat_net.proofs.Calls.{arrives-at, routes-at}
use Rattle.sat_net.proofs.net.Net.hand_on.Goals as goal

pub hand_on-requires-clause-arrives : goal.hand_on-requires-clause-arrives
hand_on-requires-clause-arrives c = arrives-at _ _ _ _ _ _ c.self.view_is c.self.invariant c.requires.arrives

pub invariant_of-self-2 : goal.invariant_of-self-2
invariant_of-self-2 c = same-net _ _ _ _ _ c.in_ok-nodes.ensures.ok refl (net-copies _ c.args.interest.now c.args.from c.args.to c.args.label c.self.invariant)

pub returns-clause-nodes : goal.returns-clause-nodes
returns-clause-nodes c = routes-at _ _ _ _ _ _ _ c.self.view_is c.self.invariant c.requires.within c.in_ok-nodes.ensures.nodes
