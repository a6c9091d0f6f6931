use Rattle.std.proofs.Common.{arith}
use Rattle.sat_wire.specs.Exact.{rest_short}
use Rattle.sat_letter.specs.Letters.{exact_letter, letter}
use Rattle.sat_letter.proofs.wholes.exactly.Goals as goal

pub placed-requires : goal.placed-requires
placed-requires c =
    rest_short (letter.spell c.in-Ok.message) c.in-Ok.rest.now c.args.bytes.now
    (exact_letter.only c.args.bytes.now c.in-Ok.rest.now c.in-Ok.message (λ i. omega (arith, c.type_inv.bytes i)) c.in-Ok.ensures.ok).0

pub placed-requires-in-Err-Stop : goal.placed-requires-in-Err-Stop
placed-requires-in-Err-Stop c = exact_letter.inside c.args.bytes.now c.in-Err-Stop.stop (λ i. omega (arith, c.type_inv.bytes i)) (rw c.in-Err-Stop.field-0-is at c.in-Err-Stop.ensures.err)
