use Rattle.std.proofs.Common.{◌∙◌}
use Rattle.sat_site.proofs.Asked.{advance-would, emit-would, pulse-would, same-would, stamp-would, turn-would}
use Rattle.sat_site.proofs.site.Site.can.Goals as goal

pub returns-in-Emit : goal.returns-in-Emit
returns-in-Emit c = c.can_emit.ensures ∙ (emit-would _ ∙ same-would _ _ _ _ c.self.view_is c.in-Emit.is)

pub returns-in-Pulse : goal.returns-in-Pulse
returns-in-Pulse c = c.can_pulse.ensures ∙ (pulse-would _ ∙ same-would _ _ _ _ c.self.view_is c.in-Pulse.is)

pub returns-in-Turn : goal.returns-in-Turn
returns-in-Turn c = c.can_turn.ensures ∙ (turn-would _ _ ∙ same-would _ _ _ _ c.self.view_is c.in-Turn.is)

pub returns-in-Stamp : goal.returns-in-Stamp
returns-in-Stamp c = c.can_stamp.ensures ∙ (stamp-would _ ∙ same-would _ _ _ _ c.self.view_is c.in-Stamp.is)

pub returns-in-Advance : goal.returns-in-Advance
returns-in-Advance c = c.can_advance.ensures ∙ (advance-would _ ∙ same-would _ _ _ _ c.self.view_is c.in-Advance.is)
