use Rattle.sat_tree.proofs.Unique.{well-cut}
use Rattle.sat_tree.proofs.tree_laws.Goals as goal

pub returns : goal.returns
returns c = well-cut
