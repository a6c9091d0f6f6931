use Rattle.sat_chain_laws.proofs.Theorem.{chains}
use Rattle.sat_chain_laws.proofs.chains_are_good.Goals as goal

pub returns : goal.returns
returns c = chains
