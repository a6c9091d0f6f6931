use Rattle.sat_parts_passes.proofs.Idling.{idle_is}
use Rattle.sat_parts_passes.proofs.Sent.{sent_then, shape_sites}
use Rattle.sat_parts_passes.proofs.sending.make_all.Goals as goal

pub returns-in-Err-pulse-clause-sent : goal.returns-in-Err-pulse-clause-sent
returns-in-Err-pulse-clause-sent g c = sent_then _ _ _ c.emit_all.ensures.sent c.pulse.ensures.sent

pub returns-in-Err-beat_all-clause-sent : goal.returns-in-Err-beat_all-clause-sent
returns-in-Err-beat_all-clause-sent g c = sent_then _ _ _ (sent_then _ _ _ c.emit_all.ensures.sent c.pulse.ensures.sent) c.beat_all.ensures.sent

pub returns-clause-sent : goal.returns-clause-sent
returns-clause-sent g c = sent_then _ _ _ (sent_then _ _ _ c.emit_all.ensures.sent c.pulse.ensures.sent) c.beat_all.ensures.sent

pub returns-clause-idle : goal.returns-clause-idle
returns-clause-idle g c =
    idle_is g.N.Laid.deployment.sites c.emit_all.new.held.node.machine c.pulse.new.held.node.machine c.beat_all.new.held.node.machine (shape_sites g.N.Laid.deployment _ _ _ c.sound.ensures.stands)
    c.in_default.ensures.none c.in_default-pulse.ensures.emit c.in_default-pulse.ensures.none c.in_default-beat_all.ensures.stays c.in_default-beat_all.ensures.told
