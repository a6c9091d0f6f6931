use Rattle.sat_site.specs.SiteSteps.{site_after, site_answers}
use Rattle.sat_site.proofs.Fitting.{fits-bulk}
use Rattle.sat_world.proofs.Handed.{fits-at, steps-at}
use Rattle.sat_world.proofs.places.bulk_at.Goals as goal

pub bulk-requires : goal.bulk-requires
bulk-requires c = fits-bulk _ _ _ _ _ (fits-at _ _ _ _ c.requires.within c.index_mut-site.ensures.value c.sound.ensures c.requires.fits)

pub returns-clause-ok : goal.returns-clause-ok
unfolding site_answers site_after
returns-clause-ok c = steps-at _ _ _ _ _ _ c.requires.within c.index_mut-site.ensures.value c.sound.ensures c.requires.fits c.in_ok-answer.ensures.answer c.in_ok-answer.ensures.after
