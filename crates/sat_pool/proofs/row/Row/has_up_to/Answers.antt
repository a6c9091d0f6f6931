use Rattle.std.proofs.Common.{◌∙◌}
use Rattle.sat_pool.proofs.Firsts.{first_up}
use Rattle.sat_pool.proofs.row.Row.has_up_to.Goals as goal

pub returns-in-Some : goal.returns-in-Some
returns-in-Some c = c.is_up_to.ensures ∙ first_up c.args.point.now _ c.in-Some.label c.in-Some.ensures.first c.in-Some.ensures.ascends
