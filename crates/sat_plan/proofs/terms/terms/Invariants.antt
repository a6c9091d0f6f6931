use Rattle.std.proofs.Common.{◌≡◌, map, take}
use Rattle.std.specs.List.{All}
use Rattle.sat_plan.specs.Drafts.{term_of, IsSmallTerm}
use Rattle.sat_plan.proofs.terms.terms.Given as goal

abbrev pub invariant-loop-pair : goal.invariant-loop-pair
invariant-loop-pair l = (l.terms.items ≡ map (term_of l.d l.routes l.delays l.edge) (take l.pair-index l.pairs)) × All IsSmallTerm l.terms.items
