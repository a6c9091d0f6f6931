use Rattle.std.proofs.Common.{◌<◌, ◌∙◌, ◌++◌, ◌∷◌, [], length, map, get_or, ap, sym, arith}
use Rattle.std.proofs.lemmas.List.{length-set}
use Rattle.sat_label.specs.declared.label.Label.{Label}
use Rattle.sat_queue.specs.Queued.{Queued, members_of}
use Rattle.sat_serial.proofs.Places.{next-copy, room-behind}
use Rattle.sat_serial.proofs.router.push_at.Goals as goal

pub loop-place-preserved : goal.loop-place-preserved
loop-place-preserved c =
    let within : c.loop-place.place-index < length c.args.places.now = omega arith in
    let inside : get_or c.args.places.now c.loop-place.place-index 0 < length c.args.outboxes.now = c.requires.inside c.loop-place.place-index 0 within in
    record {
      size = length-set _ _ _ ∙ c.loop-place.invariant.size;
      labels =
          next-copy (λ box. box ++ c.args.label.now ∷ []) c.loop-place.outboxes (map members_of c.args.outboxes.now) c.args.places.now c.loop-place.place-index 0 c.index-outboxes-place.result c.push.new.self
          within (omega (arith, c.loop-place.invariant.size)) c.index-outboxes-place.is
          (c.push.ensures ∙ ap (λ (q : Queued Label). q.members ++ c.args.label.now ∷ []) (sym c.index-outboxes-place.is)) c.loop-place.invariant.labels;
      room = room-behind c.loop-place.outboxes c.args.places.now c.loop-place.place-index 0 c.push.new.self c.requires.apart within c.loop-place.invariant.room;
    }
