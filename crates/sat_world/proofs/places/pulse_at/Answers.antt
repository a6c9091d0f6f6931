use Rattle.sat_site.specs.SiteSteps.{site_after, site_answers}
use Rattle.sat_world.proofs.Handed.{steps-at}
use Rattle.sat_world.proofs.places.pulse_at.Goals as goal

pub returns : goal.returns
unfolding site_answers site_after
returns c = steps-at _ _ _ _ _ _ c.requires.within c.index_mut-site.ensures.value c.sound.ensures c.requires.fits c.pulse.ensures.answer c.pulse.ensures.after
