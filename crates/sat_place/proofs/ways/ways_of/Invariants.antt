use Rattle.sat_place.proofs.Waymarks.{AreFirst}
use Rattle.sat_place.proofs.ways.ways_of.Given as goal

abbrev pub invariant-loop-pair : goal.invariant-loop-pair
invariant-loop-pair l = AreFirst l.d l.tree l.pair-items l.pair-index l.ways.items
