use Rattle.std.proofs.Common.{◌∙◌}
use Rattle.sat_node.specs.Links.{out_places}
use Rattle.sat_parts_wires.proofs.Found.{gear_outs}
use Rattle.sat_parts_wires.proofs.made.gear_outs.Goals as goal

pub returns-clause-places : goal.returns-clause-places
returns-clause-places g c =
    gear_outs c.args.d.now c.args.site c.args.gear c.args.first c.args.lanes.now c.as_slice.result.now c.as_slice-2.result.now (out_places c.in_ok-outs.outs.items) c.requires.first c.requires.lanes
    (c.as_slice.ensures.value ∙ c.in_ok-own.ensures) (c.as_slice-2.ensures.value ∙ c.in_ok-places.ensures) c.in_ok-outs.ensures.places
