use Rattle.std.proofs.Common.{arith}
use Rattle.sat_wire.specs.Exact.{rest_short}
use Rattle.sat_wire.proofs.whole.exactly.Goals as goal

pub placed-requires : goal.placed-requires
placed-requires g c =
    rest_short (g.T.Wire.code.spell c.in-Ok.value) c.in-Ok.rest.now c.args.bytes.now
    (g.met.T.Wire.exact.only c.args.bytes.now c.in-Ok.rest.now c.in-Ok.value (λ i. omega (arith, c.type_inv.bytes i)) c.in-Ok.ensures.ok).0
