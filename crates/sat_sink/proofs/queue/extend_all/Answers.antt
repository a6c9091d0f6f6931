use Rattle.std.proofs.Common.{ap, sym, ◌∙◌, arith, List, ◌++◌, get_or}
use Rattle.sat_label.specs.declared.label.Label.{Label}
use Rattle.sat_sink.proofs.Fronts.{extended, room-left}
use Rattle.sat_sink.proofs.Queues.{joined-none}
use Rattle.sat_sink.proofs.queue.extend_all.Goals as goal

pub loop-gear-init : goal.loop-gear-init
loop-gear-init c = record { labels = sym (joined-none _); room = c.requires.room }

pub loop-gear-preserved : goal.loop-gear-preserved
loop-gear-preserved c = record {
  labels = extended c.args.queues.now c.loop-gear.queues c.args.drained.now c.loop-gear.gear c.index-queues-gear.result c.extend.new.self c.index-drained-gear.result (omega arith) (omega arith) (omega arith) c.index-drained-gear.is c.loop-gear.invariant.labels (c.extend.ensures ∙ ap (λ (ls : List Label). (get_or c.loop-gear.queues c.loop-gear.gear c.index-queues-gear.result).members ++ ls) c.as_slice.ensures);
  room = room-left c.loop-gear.queues c.args.drained.now c.loop-gear.gear c.extend.new.self c.loop-gear.invariant.room;
}
