use Rattle.sat_place.proofs.Trees.{suits}
use Rattle.sat_place.proofs.shape.read_shape.Goals as goal

pub returns-clause-seats : goal.returns-clause-seats
returns-clause-seats c = (suits _ _ _ c.in_ok-tree.ensures.ok).seats

pub returns-clause-serializers : goal.returns-clause-serializers
returns-clause-serializers c = (suits _ _ _ c.in_ok-tree.ensures.ok).serializers
