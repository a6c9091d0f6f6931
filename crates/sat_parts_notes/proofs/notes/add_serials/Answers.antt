use Rattle.std.specs.List.{flat_map}
use Rattle.sat_session.specs.Notes.{notes_at_serial}
use Rattle.sat_parts_notes.proofs.Loops.{grow, flat-step}
use Rattle.sat_parts_notes.proofs.notes.add_serials.Goals as goal

pub loop-serial-preserved : goal.loop-serial-preserved
loop-serial-preserved g c =
    grow (flat_map notes_at_serial) notes_at_serial (flat-step notes_at_serial) c.args.serials.now c.loop-serial.serial-index c.serial-item.result c.loop-serial-test.true c.serial-item.is
    c.args.list.now.items c.loop-serial.list.items c.add_serial.new.list.items c.loop-serial.invariant c.in_ok-add_serial.ensures
