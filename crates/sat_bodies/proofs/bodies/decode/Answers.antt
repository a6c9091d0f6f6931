use Rattle.std.proofs.Common.{arith}
use Rattle.std.proofs.lemmas.Result.{IfErr-weaker, IfOk-weaker}
use Rattle.sat_wire.specs.Wholes.{not_refused, value_is, whole_only}
use Rattle.sat_bodies.specs.Bodies.{exact_input, input}
use Rattle.sat_bodies.proofs.bodies.decode.Goals as goal

pub returns-clause-spelled : goal.returns-clause-spelled
returns-clause-spelled c = IfOk-weaker c.exactly.result _ _ (λ given read. (whole_only input exact_input c.args.bytes.now given (λ i. omega (arith, c.type_inv.bytes i)) read).0) c.exactly.ensures.ok

pub returns-clause-fits : goal.returns-clause-fits
returns-clause-fits c = IfOk-weaker c.exactly.result _ _ (λ given read. (whole_only input exact_input c.args.bytes.now given (λ i. omega (arith, c.type_inv.bytes i)) read).1) c.exactly.ensures.ok

pub returns-clause-found : goal.returns-clause-found
returns-clause-found c given fits is = IfOk-weaker c.exactly.result _ _ (λ found read. value_is input exact_input c.args.bytes.now given found fits is read) c.exactly.ensures.ok

pub returns-clause-refused : goal.returns-clause-refused
returns-clause-refused c given fits is = IfErr-weaker c.exactly.result _ _ (λ fault refuses. not_refused input exact_input c.args.bytes.now given fault fits is refuses) c.exactly.ensures.err
