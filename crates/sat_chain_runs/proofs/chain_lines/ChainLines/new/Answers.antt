use Rattle.std.proofs.Common.{refl}
use Rattle.sat_chain_runs.proofs.Going.{begins}
use Rattle.sat_chain_runs.proofs.chain_lines.ChainLines.new.Goals as goal

pub returns-clause-begins : goal.returns-clause-begins
returns-clause-begins c = begins c.args.replicas _ c.of.ensures refl c.of-2.ensures
