use Rattle.sat_site.specs.Does.{writing}
use Rattle.sat_site.proofs.Fitting.{fits-write}
use Rattle.sat_world.proofs.Handed.{does-at, fits-at}
use Rattle.sat_world.proofs.places.write_at.Goals as goal

pub write-requires-clause-items : goal.write-requires-clause-items
write-requires-clause-items c = (fits-write _ c.args.carried _ _ (fits-at _ _ _ _ c.requires.within c.index_mut-site.ensures.value c.sound.ensures c.requires.fits)).0

pub write-requires-clause-values : goal.write-requires-clause-values
write-requires-clause-values c = (fits-write _ c.args.carried _ _ (fits-at _ _ _ _ c.requires.within c.index_mut-site.ensures.value c.sound.ensures c.requires.fits)).1

pub returns-clause-ok : goal.returns-clause-ok
returns-clause-ok c = does-at _ _ _ _ _ _ c.requires.within c.index_mut-site.ensures.value c.sound.ensures c.requires.fits (writing c.in_ok-answer.ensures.writes)
