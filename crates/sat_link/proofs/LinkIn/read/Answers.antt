use Rattle.sat_link.proofs.Moves.{reads_back}
use Rattle.sat_link.proofs.LinkIn.read.Goals as goal

pub absorb-requires-clause-rule : goal.absorb-requires-clause-rule
absorb-requires-clause-rule g c = reads_back _ _ _ _
