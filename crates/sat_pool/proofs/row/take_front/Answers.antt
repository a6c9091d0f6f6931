use Rattle.std.proofs.Common.{arith}
use Rattle.sat_pool.proofs.Parts.{found_front, left_front_rows, take_front_rows}
use Rattle.sat_pool.proofs.row.take_front.Goals as goal

pub returns-clause-found : goal.returns-clause-found
returns-clause-found c = found_front c.args.rising.now.items c.args.label.now.point.gear c.args.label.now.point c.index_mut-queue.result.now c.take_first_if.result (omega (arith, c.len.ensures, c.if-label-len.false)) c.index_mut-queue.ensures.value c.take_first_if.ensures.found

pub returns-clause-new : goal.returns-clause-new
returns-clause-new c = take_front_rows c.args.rising.now.items c.args.label.now.point.gear c.args.label.now.point c.index_mut-queue.result.now c.take_first_if.new.self c.take_first_if.result c.index_mut-queue.ensures.value c.take_first_if.ensures.new

pub returns-clause-none : goal.returns-clause-none
returns-clause-none c = left_front_rows c.args.rising.now.items c.args.label.now.point.gear c.index_mut-queue.result.now c.take_first_if.new.self c.take_first_if.result c.index_mut-queue.ensures.value c.take_first_if.ensures.none
