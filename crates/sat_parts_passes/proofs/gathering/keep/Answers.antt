use Rattle.sat_node.specs.Together.{lent}
use Rattle.sat_parts_passes.proofs.Drained.{drains_sure, fails_all, gather_fits, gathered_is}
use Rattle.sat_parts_passes.proofs.gathering.keep.Goals as goal

pub take_all-requires-clause-own : goal.take_all-requires-clause-own
take_all-requires-clause-own g c = gather_fits g.N.Laid.deployment c.args.hub.now c.args.own _ c.part_inputs.ensures.gathers c.requires.own c.requires.fits

pub take_all-requires-clause-parts : goal.take_all-requires-clause-parts
take_all-requires-clause-parts g c = drains_sure g.N.Laid.deployment _ c.args.parts.items _ _ c.part_inputs.ensures.parts c.requires.parts

pub returns-clause-done : goal.returns-clause-done
returns-clause-done g c =
    gathered_is g.N.Laid.deployment c.args.hub.now _ _ _ c.args.own c.args.parts.items c.sound.ensures.hub c.sound.ensures.stands c.requires.fits c.requires.own c.requires.parts
    c.take_all.result c.take_all.ensures.home c.take_all.ensures.others

pub returns-clause-fault : goal.returns-clause-fault
returns-clause-fault g c = fails_all c.take_all.result c.args.hub.now (lent c.args.gears.now.items) c.take_all.ensures.worn c.take_all.ensures.only
