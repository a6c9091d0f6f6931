use Rattle.sat_pool.proofs.Parts.{take_rows}
use Rattle.sat_pool.proofs.row.take_rising.Goals as goal

pub returns-clause-new : goal.returns-clause-new
returns-clause-new c = take_rows c.args.rising.now.items c.args.point.now.gear c.args.point.now c.index_mut-queue.result.now c.take.new.self c.index_mut-queue.ensures.value c.take.ensures.new
