use Rattle.sat_gear.proofs.Gears.{ticked-by}
use Rattle.sat_gear.proofs.gear.Gear.tick.Goals as goal

pub invariant_of-self : goal.invariant_of-self
invariant_of-self c = ticked-by _ c.args.t c.max-self-inside.result c.self.invariant c.requires c.max-self-inside.ensures
