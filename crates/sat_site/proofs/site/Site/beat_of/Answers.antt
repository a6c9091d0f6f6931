use Rattle.std.proofs.Common.{Some, refl, sym, ap, ◌∙◌}
use Rattle.sat_site.specs.SiteSteps.{site_beat}
use Rattle.sat_site.proofs.Deeds.{given-fits}
use Rattle.sat_site.proofs.Fitting.{fits-beat}
use Rattle.sat_site.proofs.Sending.{no-beat}
use Rattle.sat_site.proofs.site.Site.beat_of.Goals as goal

pub beat-requires : goal.beat-requires
beat-requires c = fits-beat _ _ (given-fits _ _ _ c.in-Beat.is c.requires)

pub returns-in_ok-beat-in-Beat-clause-beat : goal.returns-in_ok-beat-in-Beat-clause-beat
unfolding site_beat
returns-in_ok-beat-in-Beat-clause-beat c = ap Some c.in_ok-beat-in-Beat.ensures.beat ∙ ap (site_beat c.args.self.now) (sym c.in-Beat.is)

pub returns-in_default : goal.returns-in_default
returns-in_default c = record { beat = no-beat c.args.self.now c.args.input.now c.in_default.not-Beat; spare = λ e. refl }
