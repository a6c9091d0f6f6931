use Rattle.std.proofs.Common.{◌∙◌, ◌++◌, ◌∷◌, [], List, ap, map, sym, take, append_assoc}
use Rattle.sat_parts_opened.specs.Laws.{GearHeld}
use Rattle.sat_parts_notes.specs.Collecting.{Lines, lines_at_gear, at_places}
use Rattle.sat_parts_notes.proofs.Loops.{add-place, taken-more, map-step}
use Rattle.sat_parts_notes.proofs.journals.add_gears.Goals as goal

pub loop-gear-preserved : goal.loop-gear-preserved
loop-gear-preserved g c = λ lines e.
    add-place c.loop-gear.list.items c.add.new.list.items (lines ++ map lines_at_gear (take c.loop-gear.gear-index c.args.gears.now)) (lines_at_gear c.gear-item.result) c.in_ok-kept.kept (c.loop-gear.invariant lines e) c.in_ok-add.ensures c.in_ok-kept.ensures
    ∙ ap (at_places 0) (append_assoc lines (map lines_at_gear (take c.loop-gear.gear-index c.args.gears.now)) (lines_at_gear c.gear-item.result ∷ [])
    ∙ ap (λ (ls : List Lines). lines ++ ls) (sym (taken-more (map lines_at_gear) (λ (h : GearHeld). lines_at_gear h ∷ []) (map-step lines_at_gear) c.args.gears.now c.loop-gear.gear-index c.gear-item.result c.loop-gear-test.true c.gear-item.is)))
