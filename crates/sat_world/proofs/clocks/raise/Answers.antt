use Rattle.std.proofs.Common.{arith}
use Rattle.sat_world.proofs.Clocked.{raised-none, raised-more, raised-all, left-up-to}
use Rattle.sat_world.proofs.clocks.raise.Goals as goal

pub loop-site-init : goal.loop-site-init
loop-site-init c = raised-none _ _

pub clock-requires-clause-promises : goal.clock-requires-clause-promises
clock-requires-clause-promises c = left-up-to _ _ _ _ _ c.loop-site.invariant (omega arith) c.requires.above

pub loop-site-preserved : goal.loop-site-preserved
loop-site-preserved c = raised-more _ _ _ _ _ _ c.loop-site.invariant (omega arith) c.clock.ensures.site c.clock.ensures.after

pub returns : goal.returns
returns c = raised-all _ _ _ _ c.loop-site.invariant (omega (arith, c.loop-site.invariant.count))
