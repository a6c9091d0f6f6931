use Rattle.sat_gear.proofs.Gears.{drained-by}
use Rattle.sat_gear.proofs.gear.Gear.drained.Goals as goal

pub invariant_of-self : goal.invariant_of-self
invariant_of-self c = drained-by _ c.clear.new.self.items c.self.invariant c.clear.ensures.items
