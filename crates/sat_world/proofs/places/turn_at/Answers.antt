use Rattle.sat_site.specs.SiteSteps.{site_after, site_answers}
use Rattle.sat_site.proofs.Fitting.{fits-turn}
use Rattle.sat_world.proofs.Handed.{fits-at, steps-at}
use Rattle.sat_world.proofs.places.turn_at.Goals as goal

pub turn-requires : goal.turn-requires
turn-requires c = fits-turn _ _ (fits-at _ _ _ _ c.requires.within c.index_mut-site.ensures.value c.sound.ensures c.requires.fits)

pub returns : goal.returns
unfolding site_answers site_after
returns c = steps-at _ _ _ _ _ _ c.requires.within c.index_mut-site.ensures.value c.sound.ensures c.requires.fits c.turn.ensures.answer c.turn.ensures.after
