use Rattle.std.proofs.Common.{◌∙◌, ℕ, ap}
use Rattle.sat_gear.specs.Gear.{places}
use Rattle.sat_gear.proofs.Gears.{started-by}
use Rattle.sat_gear.proofs.gear.Gear.new.Goals as goal

pub invariant_of-result : goal.invariant_of-result
invariant_of-result c =
    started-by c.in_ok-shape.shape c.args.shape.now c.args.gear c.places-places.result c.new-3.result.items c.in_ok-lanes.lanes c.in_ok-store.store
    c.in_ok-shape.ensures c.requires.shape c.requires.gear c.new-3.ensures.items c.in_ok-lanes.ensures c.in_ok-store.ensures
    (c.places-places.ensures ∙ ap (λ (n : ℕ). places n c.in_ok-shape.shape.gears) c.items.ensures.items)
