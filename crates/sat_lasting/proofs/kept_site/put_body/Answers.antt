use Rattle.std.proofs.Common.{refl}
use Rattle.sat_bodies.specs.Bodies.{body_again}
use Rattle.sat_lasting.proofs.kept_site.put_body.Goals as goal

pub returns-in_err-reserve-clause-again : goal.returns-in_err-reserve-clause-again
returns-in_err-reserve-clause-again c = body_again c.args.input.now _ c.size-bytes.ensures.fits refl

pub returns-clause-again : goal.returns-clause-again
returns-clause-again c = body_again c.args.input.now _ c.size-bytes.ensures.fits refl
