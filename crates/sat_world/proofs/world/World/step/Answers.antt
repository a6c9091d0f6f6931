use Rattle.sat_world.proofs.Counted.{applies-in}
use Rattle.sat_world.proofs.world.World.step.Goals as goal

pub returns-in-Tick-clause-applies : goal.returns-in-Tick-clause-applies
returns-in-Tick-clause-applies c = applies-in _ _ _ _ c.tick.result c.in-Tick.is c.tick.ensures.applies

pub returns-in-Clock-clause-applies : goal.returns-in-Clock-clause-applies
returns-in-Clock-clause-applies c = applies-in _ _ _ _ c.clock.result c.in-Clock.is c.clock.ensures.applies

pub returns-in-Write-clause-applies : goal.returns-in-Write-clause-applies
returns-in-Write-clause-applies c = applies-in _ _ _ _ c.write.result c.in-Write.is c.write.ensures.applies

pub returns-in-Writes-clause-applies : goal.returns-in-Writes-clause-applies
returns-in-Writes-clause-applies c = applies-in _ _ _ _ c.writes.result c.in-Writes.is c.writes.ensures.applies

pub returns-in-Read-clause-applies : goal.returns-in-Read-clause-applies
returns-in-Read-clause-applies c = applies-in _ _ _ _ c.read.result c.in-Read.is c.read.ensures.applies

pub returns-in-Move-clause-applies : goal.returns-in-Move-clause-applies
returns-in-Move-clause-applies c = applies-in _ _ _ _ c.migrate.result c.in-Move.is c.migrate.ensures.applies

pub returns-in-Leave-clause-applies : goal.returns-in-Leave-clause-applies
returns-in-Leave-clause-applies c = applies-in _ _ _ _ c.leave.result c.in-Leave.is c.leave.ensures.applies

pub returns-in-Attach-clause-applies : goal.returns-in-Attach-clause-applies
returns-in-Attach-clause-applies c = applies-in _ _ _ _ c.attach.result c.in-Attach.is c.attach.ensures.applies

pub returns-in-Gather-clause-applies : goal.returns-in-Gather-clause-applies
returns-in-Gather-clause-applies c = applies-in _ _ _ _ c.gather.result c.in-Gather.is c.gather.ensures.applies

pub returns-in-Emit-clause-applies : goal.returns-in-Emit-clause-applies
returns-in-Emit-clause-applies c = applies-in _ _ _ _ c.emit.result c.in-Emit.is c.emit.ensures.applies

pub returns-in-Pulse-clause-applies : goal.returns-in-Pulse-clause-applies
returns-in-Pulse-clause-applies c = applies-in _ _ _ _ c.pulse.result c.in-Pulse.is c.pulse.ensures.applies

pub returns-in-Hop-clause-applies : goal.returns-in-Hop-clause-applies
returns-in-Hop-clause-applies c = applies-in _ _ _ _ c.hop.result c.in-Hop.is c.hop.ensures.applies

pub returns-in-Turn-clause-applies : goal.returns-in-Turn-clause-applies
returns-in-Turn-clause-applies c = applies-in _ _ _ _ c.turn.result c.in-Turn.is c.turn.ensures.applies

pub returns-in-Bulk-clause-applies : goal.returns-in-Bulk-clause-applies
returns-in-Bulk-clause-applies c = applies-in _ _ _ _ c.bulk.result c.in-Bulk.is c.bulk.ensures.applies

pub returns-in-Beat-clause-applies : goal.returns-in-Beat-clause-applies
returns-in-Beat-clause-applies c = applies-in _ _ _ _ c.beat.result c.in-Beat.is c.beat.ensures.applies

pub returns-in-BeatIn-clause-applies : goal.returns-in-BeatIn-clause-applies
returns-in-BeatIn-clause-applies c = applies-in _ _ _ _ c.beat_in.result c.in-BeatIn.is c.beat_in.ensures.applies

pub returns-in-Stamp-clause-applies : goal.returns-in-Stamp-clause-applies
returns-in-Stamp-clause-applies c = applies-in _ _ _ _ c.stamp.result c.in-Stamp.is c.stamp.ensures.applies

pub returns-in-Close-clause-applies : goal.returns-in-Close-clause-applies
returns-in-Close-clause-applies c = applies-in _ _ _ _ c.close.result c.in-Close.is c.close.ensures.applies

pub returns-in-Fall-clause-applies : goal.returns-in-Fall-clause-applies
returns-in-Fall-clause-applies c = applies-in _ _ _ _ c.fall.result c.in-Fall.is c.fall.ensures.applies

pub returns-in-Advance-clause-applies : goal.returns-in-Advance-clause-applies
returns-in-Advance-clause-applies c = applies-in _ _ _ _ c.advance.result c.in-Advance.is c.advance.ensures.applies

pub returns-in-Kill-clause-applies : goal.returns-in-Kill-clause-applies
returns-in-Kill-clause-applies c = applies-in _ _ _ _ c.kill.result c.in-Kill.is c.kill.ensures.applies
