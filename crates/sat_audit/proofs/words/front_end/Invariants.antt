use Rattle.sat_audit.proofs.Fronts.{IsLeft}
use Rattle.sat_audit.proofs.words.front_end.Given as goal

abbrev pub invariant-loop-place : goal.invariant-loop-place
invariant-loop-place l = IsLeft l.line l.count l.place l.left
