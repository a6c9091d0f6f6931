use Rattle.std.proofs.Common.{sym, ◌∙◌, arith, rules}
use Rattle.sat_sink.proofs.Deeds.{cuts, late-next}
use Rattle.sat_sink.proofs.sink.LabelSink.cut.Goals as goal

pub overflow_sub-label : goal.overflow_sub-label
overflow_sub-label c = let w = late-next _ _ _ c.self.view_is c.self.invariant (sym c.next.ensures ∙ c.in-Some.is) in omega (arith, w)

pub returns-in-None-clause-pending : goal.returns-in-None-clause-pending
returns-in-None-clause-pending c = cuts _ _ _ c.self.view_is c.self.invariant (search rules)

pub returns-in-Some-clause-pending : goal.returns-in-Some-clause-pending
returns-in-Some-clause-pending c = cuts _ _ _ c.self.view_is c.self.invariant (search rules)
