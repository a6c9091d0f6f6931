use Rattle.std.proofs.Common.{◌≡◌, ◌/◌, ◌∙◌, ap, sym, ℕ, slice_set}
use Rattle.sat_store.specs.Stored.{newer, version_at}
use Rattle.sat_gear.specs.Gear.{GearSeen}
use Rattle.sat_gear.proofs.Gears.{shown-by}
use Rattle.sat_gear.proofs.gear.Gear.show.Goals as goal

pub invariant_of-self : goal.invariant_of-self
invariant_of-self c =
    let place : c.place-place.result ≡ c.args.item / c.self.inside.shape.gears = c.place-place.ensures.place ∙ sym (ap (λ (s : GearSeen). c.args.item / s.shape.gears) c.self.view_is) in
    shown-by _ c.args.item c.args.version c.put.new.self c.self.invariant
    (c.put.ensures.new ∙ ap (λ (k : ℕ). slice_set c.self.inside.store k (newer (version_at c.self.inside.store k) c.args.version)) place)
