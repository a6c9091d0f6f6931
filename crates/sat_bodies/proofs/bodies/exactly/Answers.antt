use Rattle.std.proofs.Common.{arith}
use Rattle.sat_wire.specs.Exact.{rest_short}
use Rattle.sat_bodies.specs.Bodies.{exact_input, input}
use Rattle.sat_bodies.proofs.bodies.exactly.Goals as goal

pub placed-requires : goal.placed-requires
placed-requires c =
    rest_short (input.spell c.in-Ok.given) c.in-Ok.rest.now c.args.bytes.now
    (exact_input.only c.args.bytes.now c.in-Ok.rest.now c.in-Ok.given (λ i. omega (arith, c.type_inv.bytes i)) c.in-Ok.ensures.ok).0

pub placed-requires-in-Err-Stop : goal.placed-requires-in-Err-Stop
placed-requires-in-Err-Stop c = exact_input.inside c.args.bytes.now c.in-Err-Stop.stop (λ i. omega (arith, c.type_inv.bytes i)) (rw c.in-Err-Stop.field-0-is at c.in-Err-Stop.ensures.err)
