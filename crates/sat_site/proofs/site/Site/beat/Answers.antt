use Rattle.std.proofs.Common.{◌≡◌, ◌<◌, subst, sym, IfOk}
use Rattle.sat_site.specs.Changes.{beat_for}
use Rattle.sat_site.specs.Seen.{SiteSeen}
use Rattle.sat_site.proofs.site.Site.beat.Goals as goal

pub beat-requires : goal.beat-requires
beat-requires c = subst (λ (x : SiteSeen). c.args.to < x.shape.sites) (sym c.self.view_is) c.requires

pub returns-clause-beat : goal.returns-clause-beat
returns-clause-beat c = subst (λ (x : SiteSeen). IfOk c.beat.result (λ beat. beat ≡ beat_for x c.args.to)) c.self.view_is c.beat.ensures.beat
