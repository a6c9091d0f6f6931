use Rattle.std.proofs.Common.{arith}
use Rattle.sat_wire.proofs.Sizes.{counts_few}
use Rattle.sat_wire.proofs.beats.CountsWire.size.Goals as goal

pub overflow_add-result : goal.overflow_add-result
overflow_add-result c =
    let few = counts_few c.as_slice.result.now c.members_size.result (rw c.as_slice.ensures c.requires) c.members_size.ensures.fits c.members_size.ensures.size in
    omega (arith, few)

pub returns-clause-most : goal.returns-clause-most
returns-clause-most c =
    let few = counts_few c.as_slice.result.now c.members_size.result (rw c.as_slice.ensures c.requires) c.members_size.ensures.fits c.members_size.ensures.size in
    omega (arith, few)

pub returns-clause-small : goal.returns-clause-small
returns-clause-small c =
    let few = counts_few c.as_slice.result.now c.members_size.result (rw c.as_slice.ensures c.requires) c.members_size.ensures.fits c.members_size.ensures.size in
    omega (arith, few)
