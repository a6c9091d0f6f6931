use Rattle.sat_node.specs.Links.{in_places, out_places}
use Rattle.sat_wires.proofs.Names.{new_held}
use Rattle.sat_wires.proofs.Pairs.{ins_new, outs_new}
use Rattle.sat_wires.proofs.Places.{serial_ins, serial_outs}
use Rattle.sat_wires.proofs.made.make_serial.Goals as goal

pub new-requires-2-clause-outs : goal.new-requires-2-clause-outs
new-requires-2-clause-outs g c = outs_new c.in_ok-outs.outs.items c.in_ok-outs.ensures.fresh

pub new-requires-2-clause-ins : goal.new-requires-2-clause-ins
new-requires-2-clause-ins g c = ins_new c.in_ok-ins.ins.items c.in_ok-ins.ensures.fresh

pub returns-clause-fresh : goal.returns-clause-fresh
returns-clause-fresh g c = new_held c.new-2.result c.new-node.result c.in_ok-outs.outs.items c.in_ok-ins.ins.items c.new-2.ensures c.new-node.ensures.entries c.in_ok-outs.ensures.fresh c.in_ok-ins.ensures.fresh

pub new-requires-2-clause-places : goal.new-requires-2-clause-places
new-requires-2-clause-places g c =
    let d = c.args.d.now in
    rw (c.new-node.ensures.name, c.requires.deployment) (
      serial_outs d c.args.epoch c.args.number c.args.tree.now c.args.all.now c.in_ok-own.own (out_places c.in_ok-outs.outs.items) c.requires.tree c.requires.links c.in_ok-own.ensures c.in_ok-outs.ensures.places,
      serial_ins d c.args.epoch c.args.number c.args.tree.now c.args.all.now c.in_ok-own.own (in_places c.in_ok-ins.ins.items) c.requires.tree c.requires.links c.in_ok-own.ensures c.in_ok-ins.ensures.places,
    )
