use Rattle.sat_node.specs.declared.kept.Kept.{Kept as Line}
use Rattle.sat_machines.specs.declared.serial_act.SerialAct.{SerialAct}
use Rattle.sat_machines.specs.declared.serial_act.SerialAnswer.{SerialAnswer}
use Rattle.sat_opened.specs.Keeping.{serial_owner}
use Rattle.sat_session.specs.Notes.{owned_by, serial_note, serial_notes}
use Rattle.sat_parts_notes.proofs.Loops.{grow, serial-step}
use Rattle.sat_parts_notes.proofs.notes.add_serial_notes.Goals as goal

pub loop-place-preserved : goal.loop-place-preserved
loop-place-preserved c =
    grow (serial_notes c.args.name) (λ (k : Line SerialAct SerialAnswer). owned_by (serial_owner k.input) (serial_note c.args.name k)) (serial-step c.args.name) c.args.journal.now c.loop-place.place c.index-journal-place.result
    c.loop-place-test.true c.index-journal-place.is c.args.list.now.items c.loop-place.list.items c.add_serial_note.new.list.items c.loop-place.invariant c.in_ok-add_serial_note.ensures
