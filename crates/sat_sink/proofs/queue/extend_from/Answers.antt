use Rattle.std.proofs.Common.{ap, sym, ◌∙◌, arith, length, List, ◌++◌, get_or, map}
use Rattle.sat_label.specs.declared.label.Label.{Label}
use Rattle.sat_bulk.specs.declared.Drained.{Drained}
use Rattle.sat_gear.specs.Gear.{drained_of}
use Rattle.sat_sink.proofs.Fronts.{extended, room-left, drained-length, drained-here}
use Rattle.sat_sink.proofs.Queues.{joined-none}
use Rattle.sat_sink.proofs.queue.extend_from.Goals as goal

pub loop-place-init : goal.loop-place-init
loop-place-init c = record { labels = sym (joined-none _); room = c.requires.room }

pub extend-requires : goal.extend-requires
extend-requires c =
    let fits = c.loop-place.invariant.room c.loop-place.place c.index-queues-place.result (drained_of c.index-gears-place.result) (omega arith) (omega arith) in
    omega (arith, fits, ap (λ (d : Drained). length d.labels) (drained-here c.args.gears.now c.loop-place.place c.index-gears-place.result (omega arith) c.index-gears-place.is), ap (λ (ls : List Label). length ls) c.fresh.ensures)

pub loop-place-preserved : goal.loop-place-preserved
loop-place-preserved c = record {
  labels = extended c.args.queues.now c.loop-place.queues (map drained_of c.args.gears.now) c.loop-place.place c.index-queues-place.result c.extend.new.self (drained_of c.index-gears-place.result) (omega arith) (omega (arith, drained-length c.args.gears.now)) (omega arith) (drained-here c.args.gears.now c.loop-place.place c.index-gears-place.result (omega arith) c.index-gears-place.is) c.loop-place.invariant.labels (c.extend.ensures ∙ ap (λ (ls : List Label). (get_or c.loop-place.queues c.loop-place.place c.index-queues-place.result).members ++ ls) c.fresh.ensures);
  room = room-left c.loop-place.queues (map drained_of c.args.gears.now) c.loop-place.place c.extend.new.self c.loop-place.invariant.room;
}
