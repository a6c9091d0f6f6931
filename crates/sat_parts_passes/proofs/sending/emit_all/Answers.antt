use Rattle.std.proofs.Common.{◌∙◌}
use Rattle.sat_parts_passes.proofs.Sent.{sent_then}
use Rattle.sat_parts_passes.proofs.sending.emit_all.Goals as goal

pub emitting-preserved : goal.emitting-preserved
emitting-preserved g c = (
  sent_then _ _ _ c.emitting.invariant.0 c.emit.ensures.sent,
  c.emit.ensures.outs ∙ c.emitting.invariant.1,
  c.emit.ensures.ins ∙ c.emitting.invariant.2,
)

pub returns-in-Ok-false-clause-sent : goal.returns-in-Ok-false-clause-sent
returns-in-Ok-false-clause-sent g c = sent_then _ _ _ c.emitting.invariant.0 c.emit.ensures.sent

pub returns-in-Err-clause-sent : goal.returns-in-Err-clause-sent
returns-in-Err-clause-sent g c = sent_then _ _ _ c.emitting.invariant.0 c.emit.ensures.sent
