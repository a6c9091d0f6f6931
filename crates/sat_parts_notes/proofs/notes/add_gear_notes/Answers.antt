use Rattle.std.specs.List.{flat_map}
use Rattle.sat_parts_notes.specs.Notes.{gear_owned}
use Rattle.sat_parts_notes.proofs.Loops.{grow, flat-step}
use Rattle.sat_parts_notes.proofs.notes.add_gear_notes.Goals as goal

pub loop-kept-preserved : goal.loop-kept-preserved
loop-kept-preserved g c =
    grow (flat_map (gear_owned c.args.name)) (gear_owned c.args.name) (flat-step (gear_owned c.args.name)) c.args.journal.now c.loop-kept.kept-index c.kept-item.result c.loop-kept-test.true c.kept-item.is
    c.args.list.now.items c.loop-kept.list.items c.add_gear_note.new.list.items c.loop-kept.invariant c.in_ok-add_gear_note.ensures
