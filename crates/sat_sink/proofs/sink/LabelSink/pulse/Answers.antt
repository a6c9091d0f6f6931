use Rattle.std.proofs.Common.{sym, ◌∙◌}
use Rattle.sat_sink.proofs.Deeds.{pulses}
use Rattle.sat_sink.proofs.sink.LabelSink.pulse.Goals as goal

pub invariant_of-self : goal.invariant_of-self
invariant_of-self c = pulses _ _ _ c.self.view_is c.self.invariant (sym c.pulse_ready.ensures ∙ c.if-not-pulse_ready.false) c.stable-stable.ensures
