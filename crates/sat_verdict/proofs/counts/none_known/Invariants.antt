use Rattle.sat_verdict.specs.Tables.{AreBlankTo}
use Rattle.sat_verdict.proofs.counts.none_known.Given as goal

abbrev pub invariant-loop : goal.invariant-loop
invariant-loop l = AreBlankTo l.clients l.counter l.now.items
