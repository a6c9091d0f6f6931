use Rattle.sat_pool.proofs.Parts.{kept_out}
use Rattle.sat_pool.proofs.row.Row.remove.Goals as goal

pub invariant_of-self-2 : goal.invariant_of-self-2
invariant_of-self-2 c = kept_out _ _ _ _ _ _ _ c.args.point.now c.self.invariant c.take_out-taken.ensures.parts c.take_out-taken.ensures.new c.first_left-self-inside.ensures
