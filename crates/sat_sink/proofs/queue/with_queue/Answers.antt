use Rattle.std.proofs.Common.{◌∙◌, sym}
use Rattle.sat_sink.proofs.Finding.{found_more, found_none, found_stays}
use Rattle.sat_sink.proofs.queue.with_queue.Goals as goal

pub returns-in_default : goal.returns-in_default
returns-in_default c = λ queues less here rise order had. found_none _ queues _ c.args.queue.now c.args.found less here c.in_default.ensures had

pub returns-then-not-goes_before : goal.returns-then-not-goes_before
returns-then-not-goes_before c = λ queues less here rise order had.
    found_stays _ queues _ c.args.queue.now c.args.found _ less here rise order c.in-Some.ensures (sym c.goes_before.ensures ∙ c.if-not-goes_before.true) had

pub returns : goal.returns
returns c = λ queues less here rise order had.
    found_more _ queues _ c.args.queue.now c.args.found _ less here rise c.in-Some.ensures (sym c.goes_before.ensures ∙ c.if-not-goes_before.false) had
