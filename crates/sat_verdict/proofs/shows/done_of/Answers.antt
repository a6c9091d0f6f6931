use Rattle.sat_verdict.proofs.Clear.{same-more}
use Rattle.sat_verdict.proofs.shows.done_of.Goals as goal

pub loop-preserved : goal.loop-preserved
loop-preserved c = same-more c.loop.done.items c.push.new.self.items c.args.heads.now c.in_ok-of.field-0 c.loop.invariant c.in_ok-of.ensures c.in_ok-push.ensures.items
