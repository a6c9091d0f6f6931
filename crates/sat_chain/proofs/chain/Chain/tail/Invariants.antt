use Rattle.std.proofs.Common.{◌≡◌}
use Rattle.sat_chain_laws.specs.Rows.{tail}
use Rattle.sat_chain.specs.Chained.{row_of, number_of}
use Rattle.sat_chain.proofs.chain.Chain.tail.Given as goal

abbrev pub invariant-loop-k : goal.invariant-loop-k
invariant-loop-k l = l.last ≡ number_of (tail l.k (row_of l.self.rows))
