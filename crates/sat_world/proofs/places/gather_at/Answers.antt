use Rattle.sat_world.proofs.Handed.{does-at}
use Rattle.sat_world.proofs.places.gather_at.Goals as goal

pub returns-clause-ok : goal.returns-clause-ok
returns-clause-ok c = does-at _ _ _ _ _ _ c.requires.within c.index_mut-site.ensures.value c.sound.ensures c.requires.fits c.in_ok-answer.ensures.does
