use Rattle.sat_parts.specs.Hubs.{hub_meaning}
use Rattle.sat_passes.proofs.Faults.{take_fails}
use Rattle.sat_parts_hearing.proofs.Hearing.{message_is_of, take_dealt, take_heard}
use Rattle.sat_parts_hearing.proofs.messages.take_message.Goals as goal

pub handle-requires-clause-front : goal.handle-requires-clause-front
handle-requires-clause-front g c =
    let m = c.requires.message in (
      m.0,
      m.1.front,
      message_is_of g.N.Laid.deployment c.args.held.now c.args.source c.args.link m.0 c.args.act c.sound.ensures.stands c.requires.end m.1,
    )

pub returns-clause-heard : goal.returns-clause-heard
returns-clause-heard g c =
    let m = c.requires.message in
    take_heard c.handle.result _ _ c.args.held.now c.handle.new.self c.args.source c.args.link m.0 c.args.act m.1 c.handle.ensures.takes

pub returns-clause-dealt : goal.returns-clause-dealt
returns-clause-dealt g c =
    let m = c.requires.message in
    take_dealt g.N.Laid.deployment c.handle.result _ _ c.args.held.now c.handle.new.self c.args.source c.args.link m.0 c.args.act m.1 c.requires.fits c.handle.ensures.takes c.handle.ensures.outs c.handle.ensures.ins

pub returns-clause-fault : goal.returns-clause-fault
returns-clause-fault g c =
    let m = c.requires.message in
    take_fails (hub_meaning g.N.Laid.deployment) c.handle.result c.args.act _ c.args.held.now c.handle.new.self c.args.link m.0 c.sound.ensures.tied m.1.front c.handle.ensures.takes c.handle.ensures.err
