use Rattle.sat_wires.proofs.Names.{new_held}
use Rattle.sat_wires.proofs.Pairs.{ins_new, outs_new}
use Rattle.sat_parts_wires.proofs.made.make_hub.Goals as goal

pub new-requires-2-clause-outs : goal.new-requires-2-clause-outs
new-requires-2-clause-outs g c = outs_new c.in_ok-outs.outs.items c.in_ok-outs.ensures.fresh

pub new-requires-2-clause-ins : goal.new-requires-2-clause-ins
new-requires-2-clause-ins g c = ins_new c.in_ok-ins.ins.items c.in_ok-ins.ensures.fresh

pub returns-clause-fresh : goal.returns-clause-fresh
returns-clause-fresh g c = new_held c.new-2.result c.new-node.result c.in_ok-outs.outs.items c.in_ok-ins.ins.items c.new-2.ensures c.new-node.ensures.entries c.in_ok-outs.ensures.fresh c.in_ok-ins.ensures.fresh

pub new-requires-2-clause-places : goal.new-requires-2-clause-places
new-requires-2-clause-places g c = rw (c.new-node.ensures.name, c.requires.deployment) (c.in_ok-outs.ensures.places, c.in_ok-ins.ensures.places)
