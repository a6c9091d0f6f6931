use Rattle.std.proofs.Common.{sym, ◌∙◌}
use Rattle.sat_pool.proofs.Parts.{kept_behind}
use Rattle.sat_pool.proofs.row.Row.insert.Goals as goal

pub invariant_of-self : goal.invariant_of-self
invariant_of-self c = kept_behind _ _ _ _ _ _ c.args.payload c.put.result c.self.invariant c.put.ensures.parts c.put.ensures.ok c.put.ensures.err (sym (rw c.label.ensures at c.may_lead.ensures) ∙ c.if-may_lead.false)
