use Rattle.std.proofs.Common.{sym}
use Rattle.sat_tree.proofs.Small.{small_tree}
use Rattle.sat_tree.proofs.tree.Tree.new.Goals as goal

pub new-requires : goal.new-requires
new-requires c = small_tree _ (sym c.in-None.ensures) c.requires
