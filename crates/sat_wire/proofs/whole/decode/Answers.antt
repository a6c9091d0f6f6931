use Rattle.std.proofs.Common.{arith}
use Rattle.std.proofs.lemmas.Result.{IfOk-weaker, IfErr-weaker}
use Rattle.sat_wire.specs.Wholes.{whole_only, value_is, not_refused}
use Rattle.sat_wire.proofs.whole.decode.Goals as goal

pub returns-clause-spelled : goal.returns-clause-spelled
returns-clause-spelled g c =
    IfOk-weaker c.exactly.result _ _ (λ value read. (whole_only g.T.Wire.code g.met.T.Wire.exact c.args.bytes.now value (λ i. omega (arith, c.type_inv.bytes i)) read).0) c.exactly.ensures.ok

pub returns-clause-fits : goal.returns-clause-fits
returns-clause-fits g c =
    IfOk-weaker c.exactly.result _ _ (λ value read. (whole_only g.T.Wire.code g.met.T.Wire.exact c.args.bytes.now value (λ i. omega (arith, c.type_inv.bytes i)) read).1) c.exactly.ensures.ok

pub returns-clause-found : goal.returns-clause-found
returns-clause-found g c value fits is =
    IfOk-weaker c.exactly.result _ _ (λ found read. value_is g.T.Wire.code g.met.T.Wire.exact c.args.bytes.now value found fits is read) c.exactly.ensures.ok

pub returns-clause-refused : goal.returns-clause-refused
returns-clause-refused g c value fits is =
    IfErr-weaker c.exactly.result _ _ (λ fault refuses. not_refused g.T.Wire.code g.met.T.Wire.exact c.args.bytes.now value fault fits is refuses) c.exactly.ensures.err
