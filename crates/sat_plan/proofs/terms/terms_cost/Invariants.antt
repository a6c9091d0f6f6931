use Rattle.std.proofs.Common.{◌≡◌, take, sum_by}
use Rattle.sat_plan.specs.Drafts.{term_cost}
use Rattle.sat_plan.proofs.terms.terms_cost.Given as goal

abbrev pub invariant-loop-term : goal.invariant-loop-term
invariant-loop-term l = l.total ≡ sum_by (term_cost l.delay) (take l.term-index l.terms)
