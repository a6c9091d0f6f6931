use Rattle.std.proofs.Common.{◌≡◌, replicate}
use Rattle.sat_chain.specs.Chained.{fresh_chain}
use Rattle.sat_chain.proofs.row.Row.new.Given as goal

abbrev pub invariant-loop : goal.invariant-loop
invariant-loop l = l.chains.items ≡ replicate l.counter (fresh_chain l.replicas)
