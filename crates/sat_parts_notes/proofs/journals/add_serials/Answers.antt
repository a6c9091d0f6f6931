use Rattle.std.proofs.Common.{◌∙◌, ◌++◌, ◌∷◌, [], List, ap, map, sym, take, append_assoc}
use Rattle.sat_opened.specs.Laws.{SerialHeld}
use Rattle.sat_parts_notes.specs.Collecting.{Lines, lines_at_serial, at_places}
use Rattle.sat_parts_notes.proofs.Loops.{add-place, taken-more, map-step}
use Rattle.sat_parts_notes.proofs.journals.add_serials.Goals as goal

pub loop-serial-preserved : goal.loop-serial-preserved
loop-serial-preserved g c = λ lines e.
    add-place c.loop-serial.list.items c.add.new.list.items (lines ++ map lines_at_serial (take c.loop-serial.serial-index c.args.serials.now)) (lines_at_serial c.serial-item.result) c.in_ok-kept.kept (c.loop-serial.invariant lines e) c.in_ok-add.ensures c.in_ok-kept.ensures
    ∙ ap (at_places 0) (append_assoc lines (map lines_at_serial (take c.loop-serial.serial-index c.args.serials.now)) (lines_at_serial c.serial-item.result ∷ [])
    ∙ ap (λ (ls : List Lines). lines ++ ls) (sym (taken-more (map lines_at_serial) (λ (h : SerialHeld). lines_at_serial h ∷ []) (map-step lines_at_serial) c.args.serials.now c.loop-serial.serial-index c.serial-item.result c.loop-serial-test.true c.serial-item.is)))
