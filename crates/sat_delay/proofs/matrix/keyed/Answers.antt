use Rattle.sat_delay.proofs.Shapes.{matrix_is}
use Rattle.sat_delay.proofs.matrix.keyed.Goals as goal

pub returns-clause-shape : goal.returns-clause-shape
returns-clause-shape c = matrix_is _ _ _ c.in_ok-lists.ensures
