use Rattle.sat_pool.proofs.Parts.{push_before, push_parts, push_view}
use Rattle.sat_pool.proofs.row.push.Goals as goal

pub returns-clause-parts : goal.returns-clause-parts
returns-clause-parts c = rw c.requires.point (push_parts c.args.rising.now.items c.args.others.now c.args.payload c.index_mut-queue.result.now c.push.new.self c.push.result c.requires.parts (rw c.requires.point at c.requires.may) (rw c.requires.point at c.index_mut-queue.ensures.value) c.push.ensures.ok c.push.ensures.err)

pub returns-clause-before : goal.returns-clause-before
returns-clause-before c = push_before c.args.rising.now.items c.args.others.now c.args.payload c.requires.parts (rw c.requires.point at c.requires.may)

pub returns-clause-ok : goal.returns-clause-ok
returns-clause-ok c = rw c.requires.point (push_view c.args.rising.now.items c.args.others.now c.args.payload c.index_mut-queue.result.now c.push.new.self c.push.result c.requires.parts (rw c.requires.point at c.requires.may) (rw c.requires.point at c.index_mut-queue.ensures.value) c.push.ensures.ok)
