use Rattle.sat_world.proofs.Clocked.{RaisedTo}
use Rattle.sat_world.proofs.clocks.raise.Given as goal

abbrev pub invariant-loop-site : goal.invariant-loop-site
invariant-loop-site l = RaisedTo l.site-index l.ts l.fn.sites l.sites
