use Rattle.sat_pool.proofs.Firsts.{first_early}
use Rattle.sat_pool.proofs.row.Row.has_ts_to.Goals as goal

pub returns-in-Some : goal.returns-in-Some
returns-in-Some c = first_early c.args.ts _ c.in-Some.label c.in-Some.ensures.first c.in-Some.ensures.ascends
