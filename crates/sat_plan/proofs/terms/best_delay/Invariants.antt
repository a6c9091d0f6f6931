use Rattle.sat_plan.proofs.Loops.{IsBestOf}
use Rattle.sat_plan.proofs.terms.best_delay.Given as goal

abbrev pub invariant-loop-term : goal.invariant-loop-term
invariant-loop-term l = IsBestOf l.terms l.term-index l.best
