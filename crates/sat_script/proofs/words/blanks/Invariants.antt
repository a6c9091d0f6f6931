use Rattle.sat_script.proofs.BlankPlaces.{AreSeen}
use Rattle.sat_script.proofs.words.blanks.Given as goal

abbrev pub invariant-loop-place : goal.invariant-loop-place
invariant-loop-place l = AreSeen l.line l.places l.count l.place
