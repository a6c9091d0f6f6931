use Rattle.std.proofs.Common.{◌∙◌}
use Rattle.sat_node.specs.Links.{in_places}
use Rattle.sat_parts_wires.proofs.Found.{hub_ins}
use Rattle.sat_parts_wires.proofs.made.hub_ins.Goals as goal

pub returns-clause-places : goal.returns-clause-places
returns-clause-places g c =
    hub_ins c.args.d.now c.args.site c.len.result c.args.ways.now c.in_ok-own.own c.args.lanes.now c.as_slice.result.now (in_places c.in_ok-ins.ins.items) c.as_slice-2.result.now (in_places c.add_ins.new.ins.items) c.requires.links c.in_ok-own.ensures c.len.ensures
    c.requires.lanes (c.as_slice.ensures.value ∙ c.in_ok-coming.ensures) c.in_ok-ins.ensures.places (c.as_slice-2.ensures.value ∙ c.in_ok-places.ensures) c.in_ok-add_ins.ensures.places
