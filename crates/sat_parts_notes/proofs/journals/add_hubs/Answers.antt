use Rattle.std.proofs.Common.{◌∙◌, ◌∷◌, [], ap, map, sym, take}
use Rattle.sat_parts_opened.specs.Laws.{HubHeld}
use Rattle.sat_parts_notes.specs.Collecting.{lines_at_hub, at_places}
use Rattle.sat_parts_notes.proofs.Loops.{add-place, taken-more, map-step}
use Rattle.sat_parts_notes.proofs.journals.add_hubs.Goals as goal

pub loop-hub-preserved : goal.loop-hub-preserved
loop-hub-preserved g c =
    add-place c.loop-hub.list.items c.add.new.list.items (map lines_at_hub (take c.loop-hub.hub-index c.args.hubs.now)) (lines_at_hub c.hub-item.result) c.in_ok-kept.kept c.loop-hub.invariant c.in_ok-add.ensures c.in_ok-kept.ensures
    ∙ ap (at_places 0) (sym (taken-more (map lines_at_hub) (λ (h : HubHeld). lines_at_hub h ∷ []) (map-step lines_at_hub) c.args.hubs.now c.loop-hub.hub-index c.hub-item.result c.loop-hub-test.true c.hub-item.is))
