use Rattle.sat_site.proofs.Fitting.{fits-tick}
use Rattle.sat_world.proofs.Handed.{does-at, fits-at}
use Rattle.sat_world.proofs.places.tick_at.Goals as goal

pub tick-requires-clause-gear : goal.tick-requires-clause-gear
tick-requires-clause-gear c = (fits-tick _ _ c.args.ts (fits-at _ _ _ _ c.requires.within c.index_mut-site.ensures.value c.sound.ensures c.requires.fits)).0

pub tick-requires-clause-limit : goal.tick-requires-clause-limit
tick-requires-clause-limit c = (fits-tick _ c.args.gear _ (fits-at _ _ _ c.index_mut-site.result.now c.requires.within c.index_mut-site.ensures.value c.sound.ensures c.requires.fits)).1

pub returns : goal.returns
returns c = does-at _ _ _ _ _ _ c.requires.within c.index_mut-site.ensures.value c.sound.ensures c.requires.fits c.tick.ensures
