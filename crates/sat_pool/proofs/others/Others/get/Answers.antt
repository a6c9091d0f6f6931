use Rattle.sat_pool.proofs.Keyed.{empty_none}
use Rattle.sat_pool.proofs.others.Others.get.Goals as goal

pub returns-then-is_empty : goal.returns-then-is_empty
returns-then-is_empty c = empty_none _ _ c.args.point.now c.self.view_is (c.is_empty.ensures.0 c.if-is_empty.true)
