use Rattle.std.proofs.Common.{sym, ap, ◌∙◌}
use Rattle.sat_epoch.specs.Epochs.{is_stamp}
use Rattle.sat_sink.specs.Sink.{ready_of}
use Rattle.sat_site.specs.Seen.{SiteSeen}
use Rattle.sat_site.specs.SiteSteps.{emit_sends, site_sends}
use Rattle.sat_site.proofs.site.Site.sends_next.Goals as goal

pub sends_next-requires : goal.sends_next-requires
sends_next-requires c = c.requires ∙ ap (λ (x : SiteSeen). ready_of x.sink) (sym c.self.view_is)

pub returns : goal.returns
unfolding site_sends
returns c = c.sends_next.ensures ∙ ap (λ (x : SiteSeen). emit_sends (is_stamp x.views x.views.emission) x.shape (ready_of x.sink)) c.self.view_is
