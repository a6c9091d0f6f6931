use Rattle.sat_chain.proofs.Tallied.{tells-none}
use Rattle.std.proofs.Common.{subst, sym, List}
use Rattle.sat_chain_laws.specs.declared.pair.Pair.{Pair}
use Rattle.sat_chain.specs.Tallies.{TellsFrom}
use Rattle.sat_chain.proofs.replica.Replica.new.Goals as goal

pub invariant_of-result : goal.invariant_of-result
invariant_of-result c = subst (λ (xs : List Pair). TellsFrom xs c.zeros.result) (sym c.new.ensures.items) (tells-none c.zeros.result c.zeros.ensures)
