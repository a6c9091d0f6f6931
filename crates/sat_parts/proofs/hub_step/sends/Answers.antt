use Rattle.std.proofs.Common.{sym, ap, ◌∙◌}
use Rattle.sat_parts.specs.HubSteps.{hub_sends}
use Rattle.sat_parts.proofs.HubCode.{no-send}
use Rattle.sat_parts.proofs.hub_step.sends.Goals as goal

pub returns-in-Emit : goal.returns-in-Emit
unfolding hub_sends
returns-in-Emit c = c.sends_ready.ensures ∙ ap (hub_sends c.args.hub.now) (sym c.in-Emit.is)

pub returns-in-Pulse : goal.returns-in-Pulse
unfolding hub_sends
returns-in-Pulse c = c.sends_pulse.ensures ∙ ap (hub_sends c.args.hub.now) (sym c.in-Pulse.is)

pub returns-in-Close : goal.returns-in-Close
unfolding hub_sends
returns-in-Close c = c.sends_close.ensures ∙ ap (hub_sends c.args.hub.now) (sym c.in-Close.is)

pub returns-in_default : goal.returns-in_default
returns-in_default c = no-send c.args.hub.now c.args.input.now c.in_default.not-Emit c.in_default.not-Pulse c.in_default.not-Close
