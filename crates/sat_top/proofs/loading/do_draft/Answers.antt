use Rattle.std.proofs.Common.{ap, refl}
use Rattle.sat_settle.specs.LoadDraft.{drafted}
use Rattle.sat_top.proofs.Drafts.{applied, settled_here}
use Rattle.sat_top.proofs.loading.do_draft.Goals as goal

pub returns-in-Read : goal.returns-in-Read
returns-in-Read c = applied c.args.world.now c.read.new.self _ _ c.read.result (ap drafted c.in-Read.is) refl c.read.ensures.applies

pub returns-in-Move : goal.returns-in-Move
returns-in-Move c = applied c.args.world.now c.migrate.new.self _ _ c.migrate.result (ap drafted c.in-Move.is) refl c.migrate.ensures.applies

pub returns-in-Attach : goal.returns-in-Attach
returns-in-Attach c = applied c.args.world.now c.attach.new.self _ _ c.attach.result (ap drafted c.in-Attach.is) refl c.attach.ensures.applies

pub returns-in-Tick : goal.returns-in-Tick
returns-in-Tick c = applied c.args.world.now c.tick.new.self _ _ c.tick.result (ap drafted c.in-Tick.is) refl c.tick.ensures.applies

pub returns-in-Gather : goal.returns-in-Gather
returns-in-Gather c = applied c.args.world.now c.gather.new.self _ _ c.gather.result (ap drafted c.in-Gather.is) refl c.gather.ensures.applies

pub returns-in-Emit : goal.returns-in-Emit
returns-in-Emit c = applied c.args.world.now c.emit.new.self _ _ c.emit.result (ap drafted c.in-Emit.is) refl c.emit.ensures.applies

pub returns-in-Pulse : goal.returns-in-Pulse
returns-in-Pulse c = applied c.args.world.now c.pulse.new.self _ _ c.pulse.result (ap drafted c.in-Pulse.is) refl c.pulse.ensures.applies

pub returns-in-Hop : goal.returns-in-Hop
returns-in-Hop c = applied c.args.world.now c.hop.new.self _ _ c.hop.result (ap drafted c.in-Hop.is) refl c.hop.ensures.applies

pub returns-in-Bulk : goal.returns-in-Bulk
returns-in-Bulk c = applied c.args.world.now c.bulk.new.self _ _ c.bulk.result (ap drafted c.in-Bulk.is) refl c.bulk.ensures.applies

pub returns-in-Turn : goal.returns-in-Turn
returns-in-Turn c = applied c.args.world.now c.turn.new.self _ _ c.turn.result (ap drafted c.in-Turn.is) refl c.turn.ensures.applies

pub returns-in-Close : goal.returns-in-Close
returns-in-Close c = applied c.args.world.now c.close.new.self _ _ c.close.result (ap drafted c.in-Close.is) refl c.close.ensures.applies

pub returns-in-Settle : goal.returns-in-Settle
returns-in-Settle c = settled_here c.args.world.now c.settle.new.world _ c.settle.result (ap drafted c.in-Settle.is) c.settle.ensures.answer c.settle.ensures.stands c.settle.ensures.deployment
