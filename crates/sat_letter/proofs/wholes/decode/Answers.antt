use Rattle.std.proofs.Common.{arith}
use Rattle.std.proofs.lemmas.Result.{IfErr-weaker, IfOk-weaker}
use Rattle.sat_wire.specs.Wholes.{not_refused, value_is, whole_only}
use Rattle.sat_letter.specs.Letters.{exact_letter, letter}
use Rattle.sat_letter.proofs.wholes.decode.Goals as goal

pub returns-clause-spelled : goal.returns-clause-spelled
returns-clause-spelled c = IfOk-weaker c.exactly.result _ _ (λ message read. (whole_only letter exact_letter c.args.bytes.now message (λ i. omega (arith, c.type_inv.bytes i)) read).0) c.exactly.ensures.ok

pub returns-clause-fits : goal.returns-clause-fits
returns-clause-fits c = IfOk-weaker c.exactly.result _ _ (λ message read. (whole_only letter exact_letter c.args.bytes.now message (λ i. omega (arith, c.type_inv.bytes i)) read).1) c.exactly.ensures.ok

pub returns-clause-found : goal.returns-clause-found
returns-clause-found c message fits is = IfOk-weaker c.exactly.result _ _ (λ found read. value_is letter exact_letter c.args.bytes.now message found fits is read) c.exactly.ensures.ok

pub returns-clause-refused : goal.returns-clause-refused
returns-clause-refused c message fits is = IfErr-weaker c.exactly.result _ _ (λ fault refuses. not_refused letter exact_letter c.args.bytes.now message fault fits is refuses) c.exactly.ensures.err
