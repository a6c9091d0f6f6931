use Rattle.std.proofs.Common.{◌<◌, length, arith, ◌∙◌}
use Rattle.sat_tree.specs.Cut.{neighbours}
use Rattle.sat_tree.proofs.Rows.{row-within, row-is}
use Rattle.sat_tree.proofs.tree.Tree.neighbours.Goals as goal

pub index-requires : goal.index-requires
index-requires c =
    let within : c.args.z < length c.self.inside.adjacent.items = row-within _ _ (length c.self.inside.layout.parents) c.args.z c.self.invariant.0 (rw c.self.view_is c.requires) in
    omega (arith, c.self.inside.adjacent.ok.0)

pub returns-clause-neighbours : goal.returns-clause-neighbours
returns-clause-neighbours c = c.as_slice.ensures ∙ rw (← c.self.view_is) (row-is (neighbours c.self.inside.layout) _ (length c.self.inside.layout.parents) c.args.z _ c.self.invariant.0 (rw c.self.view_is c.requires) c.index.ensures)
