use Rattle.sat_link.proofs.Moves.{acknowledges}
use Rattle.sat_link.proofs.LinkOut.acknowledge.Goals as goal

pub another-requires-clause-rule : goal.another-requires-clause-rule
another-requires-clause-rule g c = acknowledges _ _ c.self.invariant.1
