use Rattle.std.specs.List.{flat_map}
use Rattle.sat_parts_notes.specs.Notes.{notes_at_gear}
use Rattle.sat_parts_notes.proofs.Loops.{grow, flat-step}
use Rattle.sat_parts_notes.proofs.notes.add_gears.Goals as goal

pub loop-gear-preserved : goal.loop-gear-preserved
loop-gear-preserved g c =
    grow (flat_map notes_at_gear) notes_at_gear (flat-step notes_at_gear) c.args.gears.now c.loop-gear.gear-index c.gear-item.result c.loop-gear-test.true c.gear-item.is
    c.args.list.now.items c.loop-gear.list.items c.add_gear.new.list.items c.loop-gear.invariant c.in_ok-add_gear.ensures
