use Rattle.std.proofs.Common.{refl}
use Rattle.sat_chain_runs.proofs.Going.{held_line}
use Rattle.sat_chain_runs.proofs.chain_lines.ChainLines.keep.Goals as goal

pub invariant_of-self : goal.invariant_of-self
invariant_of-self c = held_line _ _ c.args.line.now c.line.result c.self.invariant c.line.ensures refl refl
