use Rattle.sat_process.specs.Serials.{asked_at_serializer, took_at_serializer}
use Rattle.sat_process.proofs.SerialTurns.{hop_not_asked, hop_took}
use Rattle.sat_process.proofs.Takings.{message_taken}
use Rattle.sat_process.proofs.serial.take_came.Goals as goal

pub returns-in-Ok-Taken-clause-taken : goal.returns-in-Ok-Taken-clause-taken
returns-in-Ok-Taken-clause-taken g c =
    let d = g.N.Laid.deployment in
    let x = c.args.host.now.node.machine in
    let b = c.args.message.now.sent.body in
    message_taken asked_at_serializer took_at_serializer _ c.args.link c.args.message.now _ c.args.host.now c.receive_at_serializer.new.host (hop_not_asked d x c.args.link b) (hop_took d x c.args.link b)
    (rw c.in-Ok-Taken.field-0-is at (rw c.from.ensures at c.in-Ok-Taken.ensures.receives))
