use Rattle.sat_pool.proofs.Parts.{kept_put, kept_stays}
use Rattle.sat_pool.proofs.row.Row.insert_first.Goals as goal

pub invariant_of-self : goal.invariant_of-self
invariant_of-self c = kept_stays _ _ _ _ _ _ c.self.invariant c.put.ensures.parts c.in_err-before.ensures.err

pub invariant_of-self-2 : goal.invariant_of-self-2
invariant_of-self-2 c = kept_put _ _ _ _ _ _ _ c.args.payload c.self.invariant c.put.ensures.parts c.in_ok-before.ensures.ok (rw c.label-label.ensures at c.first_with-self-inside.ensures)
