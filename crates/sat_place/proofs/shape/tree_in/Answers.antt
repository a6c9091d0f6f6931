use Rattle.std.proofs.Common.{arith, ap, length, subst}
use Rattle.sat_place.proofs.Trees.{AreSeats, parents_are, seats_are, small_tree}
use Rattle.sat_place.proofs.shape.tree_in.Goals as goal

pub overflow_cast-others : goal.overflow_cast-others
overflow_cast-others c =
    let are = parents_are _ _ c.in_ok-parents.ensures in
    let few = are.few in
    let same = ap length c.as_slice.ensures in
    omega arith

pub tree_of-requires : goal.tree_of-requires
tree_of-requires c =
    rw (c.as_slice-2.ensures, c.as_slice-3.ensures)
    (small_tree c.in_ok-parents.parents c.in_ok-seats.seats c.sites.result (let same = c.sites.ensures.sites in let few = c.sites.ensures.limits.few_sites in omega arith)
    (parents_are _ _ c.in_ok-parents.ensures)
    (subst (λ n. AreSeats n c.sites.result c.in_ok-seats.seats) (ap length c.as_slice.ensures) (seats_are _ _ _ _ c.in_ok-seats.ensures)))
