use Rattle.std.proofs.Common.{◌<◌, ◌∙◌, sym, subst, length}
use Rattle.sat_tree.specs.Cut.{IsTree}
use Rattle.sat_net.specs.Nets.{NetSeen}
use Rattle.sat_net.proofs.Edges.{edge-within}
use Rattle.sat_net.proofs.Calls.{may-arrive}
use Rattle.sat_net.proofs.net.Net.hop.Goals as goal

pub is_dead-requires : goal.is_dead-requires
is_dead-requires c = edge-within _ _ _ (subst (λ (n : NetSeen). IsTree n.tree) c.self.view_is c.self.invariant.tree) c.requires.edge

pub front-requires-clause-to : goal.front-requires-clause-to
front-requires-clause-to c = edge-within _ _ _ c.is_dead.ensures.limits.tree c.requires.edge

pub hand_on-requires-clause-within : goal.hand_on-requires-clause-within
hand_on-requires-clause-within c = edge-within _ _ _ c.is_dead.ensures.limits.tree c.requires.edge

pub hand_on-requires-clause-arrives : goal.hand_on-requires-clause-arrives
hand_on-requires-clause-arrives c = may-arrive _ _ _ _ _ c.requires (sym c.is_dead.ensures.dead ∙ c.if-is_dead.false) (sym c.front.ensures ∙ c.in-Some.is)

pub give-requires-clause-to : goal.give-requires-clause-to
give-requires-clause-to c = subst (λ (n : NetSeen). c.args.to < length n.tree.parents) (sym c.in_ok-nodes.ensures.ok) (edge-within _ _ _ c.is_dead.ensures.limits.tree c.requires.edge)
