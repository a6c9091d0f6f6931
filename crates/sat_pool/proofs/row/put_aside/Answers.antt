use Rattle.std.proofs.Common.{◌∙◌}
use Rattle.sat_pool.proofs.Parts.{found_or, put_beside}
use Rattle.sat_pool.proofs.row.put_aside.Goals as goal

pub returns-clause-parts : goal.returns-clause-parts
returns-clause-parts c = (put_beside _ _ _ _ c.args.payload c.requires (rw c.label.ensures at c.take_rising-queued.ensures.new) c.in_ok-aside.ensures.ok).parts

pub returns-clause-before : goal.returns-clause-before
returns-clause-before c = c.or.ensures ∙ found_or _ _ c.args.payload.label.point _ _ c.requires (rw c.label.ensures at c.take_rising-queued.ensures.found) c.in_ok-aside.ensures.before

pub returns-clause-ok : goal.returns-clause-ok
returns-clause-ok c = (put_beside _ _ _ _ c.args.payload c.requires (rw c.label.ensures at c.take_rising-queued.ensures.new) c.in_ok-aside.ensures.ok).view
