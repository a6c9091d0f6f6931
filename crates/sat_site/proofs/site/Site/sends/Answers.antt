use Rattle.std.proofs.Common.{sym, ap, ◌∙◌}
use Rattle.sat_epoch.specs.Epochs.{close_fault, is_stamp}
use Rattle.sat_sink.specs.Sink.{ready_of}
use Rattle.sat_site.specs.Seen.{SiteSeen}
use Rattle.sat_site.specs.SiteSteps.{emit_sends, next_close, next_pulse, site_sends}
use Rattle.sat_site.proofs.Sending.{no-send}
use Rattle.sat_site.proofs.site.Site.sends.Goals as goal

pub returns-in-Emit : goal.returns-in-Emit
unfolding site_sends
returns-in-Emit c = c.sends_ready.ensures ∙ (ap (λ (x : SiteSeen). emit_sends (is_stamp x.views x.views.emission) x.shape (ready_of x.sink)) c.self.view_is ∙ ap (site_sends c.args.self.now) (sym c.in-Emit.is))

pub returns-in-Pulse : goal.returns-in-Pulse
unfolding site_sends
returns-in-Pulse c = c.sends_pulse.ensures ∙ (ap (λ (x : SiteSeen). emit_sends (is_stamp x.views x.views.emission) x.shape (next_pulse x.sink)) c.self.view_is ∙ ap (site_sends c.args.self.now) (sym c.in-Pulse.is))

pub returns-in-Close : goal.returns-in-Close
unfolding site_sends
returns-in-Close c =
    c.sends_close.ensures ∙ (ap (λ (x : SiteSeen). emit_sends (is_stamp x.views x.views.emission) x.shape (next_close (close_fault x.views) x)) c.self.view_is ∙ ap (site_sends c.args.self.now) (sym c.in-Close.is))

pub returns-in_default : goal.returns-in_default
returns-in_default c = no-send c.args.self.now c.args.input.now c.in_default.not-Emit c.in_default.not-Pulse c.in_default.not-Close
