use Rattle.std.proofs.Common.{◌<◌, ◌∙◌, length, get_or, arith}
use Rattle.std.proofs.Math.Seq.{map-set_same}
use Rattle.std.proofs.lemmas.List.{length-set}
use Rattle.sat_label.specs.declared.label.Label.{Label}
use Rattle.sat_queue.specs.Queued.{Queued}
use Rattle.sat_serial.proofs.Places.{room-more}
use Rattle.sat_serial.proofs.router.make_room.Goals as goal

pub returns-in_err-reserve-clause-members : goal.returns-in_err-reserve-clause-members
returns-in_err-reserve-clause-members c =
    map-set_same (λ (q : Queued Label). q.members) c.loop-place.outboxes _ c.reserve.new.self c.index-outboxes-place.result c.reserve.ensures.members
    ∙ c.loop-place.invariant.members

pub loop-place-preserved : goal.loop-place-preserved
loop-place-preserved c =
    let within : c.loop-place.place-index < length c.args.places.now = omega arith in
    let inside : get_or c.args.places.now c.loop-place.place-index 0 < length c.args.outboxes.now = c.requires c.loop-place.place-index 0 within in
    record {
      size = length-set _ _ _ ∙ c.loop-place.invariant.size;
      members =
          map-set_same (λ (q : Queued Label). q.members) c.loop-place.outboxes _ c.reserve.new.self c.index-outboxes-place.result c.reserve.ensures.members
          ∙ c.loop-place.invariant.members;
      room = room-more c.loop-place.outboxes c.args.places.now c.loop-place.place-index 0 c.reserve.new.self within (omega (arith, inside, c.loop-place.invariant.size)) c.in_ok-reserve.ensures.room c.loop-place.invariant.room;
    }
