use Rattle.sat_world.specs.Starts.{AreFresh}
use Rattle.sat_world.proofs.start.sites.Given as goal

abbrev pub invariant-loop-site : goal.invariant-loop-site
invariant-loop-site l = AreFresh l.d l.site l.sites.items
