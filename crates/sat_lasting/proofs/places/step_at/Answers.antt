use Rattle.sat_lasting.proofs.Placing.{lent, lent-fits}
use Rattle.sat_lasting.proofs.places.step_at.Goals as goal

pub step-requires-clause-fits : goal.step-requires-clause-fits
step-requires-clause-fits c = lent-fits _ c.args.site _ _ c.requires.place c.index_mut-slot.ensures.value c.requires.fits

pub returns-clause-steps : goal.returns-clause-steps
returns-clause-steps c = lent c.args.site _ _ _ _ c.requires.place c.index_mut-slot.ensures.value c.in_ok-there.ensures
