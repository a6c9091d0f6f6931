use Rattle.std.proofs.Common.{ap, ◌∙◌, arith, length, List}
use Rattle.sat_label.specs.declared.label.Label.{Label}
use Rattle.sat_sink.proofs.Fronts.{same-labels, room-more}
use Rattle.sat_sink.proofs.queue.reserve_all.Goals as goal

pub returns-in_err-reserve-clause-labels : goal.returns-in_err-reserve-clause-labels
returns-in_err-reserve-clause-labels c =
    same-labels c.loop-gear.queues c.loop-gear.gear c.index-queues-gear.result c.reserve.new.self (omega arith) c.reserve.ensures.members ∙ c.loop-gear.invariant.labels

pub loop-gear-preserved : goal.loop-gear-preserved
loop-gear-preserved c = record {
  labels = same-labels c.loop-gear.queues c.loop-gear.gear c.index-queues-gear.result c.reserve.new.self (omega arith) c.reserve.ensures.members ∙ c.loop-gear.invariant.labels;
  room = room-more c.loop-gear.queues c.args.drained.now c.loop-gear.gear c.reserve.new.self c.index-drained-gear.result (omega arith) (omega arith) c.index-drained-gear.is c.loop-gear.invariant.room
      (omega (arith, c.in_ok-reserve.ensures.room, ap (λ (ls : List Label). length ls) c.as_slice.ensures));
}
