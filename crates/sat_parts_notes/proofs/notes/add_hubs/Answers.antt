use Rattle.std.specs.List.{flat_map}
use Rattle.sat_parts_notes.specs.Notes.{notes_at_hub}
use Rattle.sat_parts_notes.proofs.Loops.{grow, flat-step}
use Rattle.sat_parts_notes.proofs.notes.add_hubs.Goals as goal

pub loop-hub-preserved : goal.loop-hub-preserved
loop-hub-preserved g c =
    grow (flat_map notes_at_hub) notes_at_hub (flat-step notes_at_hub) c.args.hubs.now c.loop-hub.hub-index c.hub-item.result c.loop-hub-test.true c.hub-item.is
    c.args.list.now.items c.loop-hub.list.items c.add_hub.new.list.items c.loop-hub.invariant c.in_ok-add_hub.ensures
