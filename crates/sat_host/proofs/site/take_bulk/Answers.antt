use Rattle.sat_host.proofs.Bulking.{message_of}
use Rattle.sat_host.proofs.site.take_bulk.Goals as goal

pub handle-requires-clause-carries : goal.handle-requires-clause-carries
handle-requires-clause-carries g c =
    let n = c.args.host.now.node in
    message_of g.N.Laid.deployment n.name n.machine n.entries n.number n.room c.args.link c.args.message.now.sent.body c.args.act c.sound.ensures.stands c.requires.input
