use Rattle.std.proofs.Common.{◌≤◌}
use Rattle.sat_chain.proofs.Firsts.{NoneLives}
use Rattle.sat_chain.proofs.chain.Chain.first_from.Given as goal

abbrev pub invariant-loop-k : goal.invariant-loop-k
invariant-loop-k l = (l.start ≤ l.k) × NoneLives l.self.rows l.start l.k
