use Rattle.sat_wires.proofs.Names.{new_held}
use Rattle.sat_wires.proofs.Pairs.{outs_new}
use Rattle.sat_parts_wires.proofs.Found.{gear_ins, no_ins}
use Rattle.sat_parts_wires.proofs.made.make_gear.Goals as goal

pub new-requires-2-clause-outs : goal.new-requires-2-clause-outs
new-requires-2-clause-outs g c = outs_new c.in_ok-outs.outs.items c.in_ok-outs.ensures.fresh

pub new-requires-2-clause-places : goal.new-requires-2-clause-places
new-requires-2-clause-places g c =
    rw (c.new-node.ensures.name, c.requires.deployment) (c.in_ok-outs.ensures.places, gear_ins c.args.d.now c.args.site c.args.gear c.new-ins.result.items c.new-ins.ensures.items)

pub returns-clause-fresh : goal.returns-clause-fresh
returns-clause-fresh g c = new_held c.new-2.result c.new-node.result c.in_ok-outs.outs.items c.new-ins.result.items c.new-2.ensures c.new-node.ensures.entries c.in_ok-outs.ensures.fresh (no_ins c.new-ins.result.items c.new-ins.ensures.items)
