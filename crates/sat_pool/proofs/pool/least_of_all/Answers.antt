use Rattle.std.proofs.Common.{sym}
use Rattle.sat_label.proofs.Least.{least-nil}
use Rattle.sat_pool.specs.Pool.{is_before}
use Rattle.sat_pool.proofs.pool.least_of_all.Goals as goal

pub loop-row-init : goal.loop-row-init
loop-row-init c = sym (least-nil (is_before c.args.closes.now))
