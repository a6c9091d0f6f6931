use Rattle.std.proofs.Common.{arith}
use Rattle.sat_site.proofs.Loops.{limits-more}
use Rattle.sat_hub.proofs.Lists.{get-within}
use Rattle.sat_site.proofs.gears.all_limits.Goals as goal

pub loop-gear-preserved : goal.loop-gear-preserved
loop-gear-preserved c = limits-more c.args.gears.now c.loop-gear.gear-index c.gear-item.result (omega arith) c.gear-item.is c.loop-gear.invariant c.limits.ensures

pub returns : goal.returns
returns c = λ g gear at. c.loop-gear.invariant g gear (let k = get-within c.args.gears.now g gear at in omega arith) at
