use Rattle.std.proofs.Common.{Some, ◌≡◌}
use Rattle.sat_tree.specs.Cut.{parent_of}
use Rattle.sat_tree.proofs.layout.Layout.above.Goals as goal

pub unreachable-requires : goal.unreachable-requires
unreachable-requires c =
    let hung = c.in-None.ensures.limits.tree.hung c.args.z c.requires.no_root c.requires.within in
    absurd (let e : parent_of c.args.self.now.parents c.args.z ≡ Some hung.0 = hung.1 in let f = c.in-None.ensures.above in cc)
