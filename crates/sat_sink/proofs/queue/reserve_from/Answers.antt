use Rattle.std.proofs.Common.{ap, ◌∙◌, arith, length, List, map}
use Rattle.sat_label.specs.declared.label.Label.{Label}
use Rattle.sat_gear.specs.Gear.{drained_of}
use Rattle.sat_sink.proofs.Fronts.{same-labels, room-more, drained-length, drained-here}
use Rattle.sat_sink.proofs.queue.reserve_from.Goals as goal

pub returns-in_err-reserve-clause-labels : goal.returns-in_err-reserve-clause-labels
returns-in_err-reserve-clause-labels c =
    same-labels c.loop-place.queues c.loop-place.place c.index-queues-place.result c.reserve.new.self (omega arith) c.reserve.ensures.members ∙ c.loop-place.invariant.labels

pub returns-clause-room : goal.returns-clause-room
returns-clause-room c = λ g q d from less. c.loop-place.invariant.room g q d (omega arith)

pub loop-place-preserved : goal.loop-place-preserved
loop-place-preserved c = record {
  labels = same-labels c.loop-place.queues c.loop-place.place c.index-queues-place.result c.reserve.new.self (omega arith) c.reserve.ensures.members ∙ c.loop-place.invariant.labels;
  room = room-more c.loop-place.queues (map drained_of c.args.gears.now) c.loop-place.place c.reserve.new.self (drained_of c.index-gears-place.result) (omega arith) (omega (arith, drained-length c.args.gears.now)) (drained-here c.args.gears.now c.loop-place.place c.index-gears-place.result (omega arith) c.index-gears-place.is) c.loop-place.invariant.room
      (omega (arith, c.in_ok-reserve.ensures.room, ap (λ (ls : List Label). length ls) c.fresh.ensures));
}
