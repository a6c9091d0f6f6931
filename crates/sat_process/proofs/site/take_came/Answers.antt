use Rattle.sat_process.specs.Sites.{asked_at_site, took_at_site}
use Rattle.sat_process.proofs.SiteTurns.{came_not_asked, came_took, never_early, never_unfit, reception_of}
use Rattle.sat_process.proofs.Takings.{message_taken}
use Rattle.sat_process.proofs.site.take_came.Goals as goal

pub unreachable-requires : goal.unreachable-requires
unreachable-requires g c = never_early _ c.in-Ok-Early.field-0-is (reception_of _ _ c.args.host.now c.args.link c.args.message.now _ c.requires.deployment c.requires.would (rw c.from.ensures at c.in-Ok-Early.ensures.received))

pub unreachable-requires-in-Ok-Unfit : goal.unreachable-requires-in-Ok-Unfit
unreachable-requires-in-Ok-Unfit g c = never_unfit _ c.in-Ok-Unfit.field-0-is (reception_of _ _ c.args.host.now c.args.link c.args.message.now _ c.requires.deployment c.requires.would (rw c.from.ensures at c.in-Ok-Unfit.ensures.received))

pub returns-in-Ok-Taken-clause-taken : goal.returns-in-Ok-Taken-clause-taken
returns-in-Ok-Taken-clause-taken g c =
    message_taken asked_at_site took_at_site _ c.args.link c.args.message.now _ c.args.host.now c.receive_at_site.new.host (came_not_asked c.args.host.now.node.name c.args.link c.args.message.now.sent.body) (came_took c.args.host.now.node.name c.args.link c.args.message.now.sent.body)
    (rw c.in-Ok-Taken.field-0-is at (rw c.from.ensures at c.in-Ok-Taken.ensures.receives))
