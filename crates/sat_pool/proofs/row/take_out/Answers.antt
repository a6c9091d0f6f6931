use Rattle.std.proofs.Common.{sym, ◌∙◌}
use Rattle.sat_pool.proofs.Parts.{out_aside, out_queued}
use Rattle.sat_pool.proofs.row.take_out.Goals as goal

pub returns-then-is_some-clause-parts : goal.returns-then-is_some-clause-parts
returns-then-is_some-clause-parts c = (out_queued _ _ _ c.args.point.now c.take_rising-queued.result c.requires c.take_rising-queued.ensures.found c.take_rising-queued.ensures.new (sym c.is_some.ensures ∙ c.if-is_some.true)).parts

pub returns-then-is_some-clause-found : goal.returns-then-is_some-clause-found
returns-then-is_some-clause-found c = (out_queued _ _ _ c.args.point.now c.take_rising-queued.result c.requires c.take_rising-queued.ensures.found c.take_rising-queued.ensures.new (sym c.is_some.ensures ∙ c.if-is_some.true)).found

pub returns-then-is_some-clause-new : goal.returns-then-is_some-clause-new
returns-then-is_some-clause-new c = (out_queued _ _ _ c.args.point.now c.take_rising-queued.result c.requires c.take_rising-queued.ensures.found c.take_rising-queued.ensures.new (sym c.is_some.ensures ∙ c.if-is_some.true)).view

pub returns-clause-parts : goal.returns-clause-parts
returns-clause-parts c = (out_aside _ _ _ _ c.args.point.now c.take_rising-queued.result c.remove.result c.requires c.take_rising-queued.ensures.found c.take_rising-queued.ensures.new (sym c.is_some.ensures ∙ c.if-is_some.false) c.remove.ensures.found c.remove.ensures.new).parts

pub returns-clause-found : goal.returns-clause-found
returns-clause-found c = (out_aside _ _ _ _ c.args.point.now c.take_rising-queued.result c.remove.result c.requires c.take_rising-queued.ensures.found c.take_rising-queued.ensures.new (sym c.is_some.ensures ∙ c.if-is_some.false) c.remove.ensures.found c.remove.ensures.new).found

pub returns-clause-new : goal.returns-clause-new
returns-clause-new c = (out_aside _ _ _ _ c.args.point.now c.take_rising-queued.result c.remove.result c.requires c.take_rising-queued.ensures.found c.take_rising-queued.ensures.new (sym c.is_some.ensures ∙ c.if-is_some.false) c.remove.ensures.found c.remove.ensures.new).view
