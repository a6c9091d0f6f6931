use Rattle.sat_lasting.proofs.Placing.{lent}
use Rattle.sat_lasting.proofs.places.stop_at.Goals as goal

pub returns-clause-stops : goal.returns-clause-stops
returns-clause-stops c = lent c.args.site _ _ _ _ c.requires.place c.index_mut-slot.ensures.value c.in_ok-count.ensures
