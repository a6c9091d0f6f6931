use Rattle.std.proofs.Common.{◌∙◌}
use Rattle.sat_node.proofs.Sending.{if_true}
use Rattle.sat_passes.proofs.Drains.{empties_more}
use Rattle.sat_passes.proofs.Hops.{hops_then}
use Rattle.sat_passes.proofs.relaying.drain.Goals as goal

pub draining-preserved : goal.draining-preserved
draining-preserved g c = (
  hops_then _ _ _ c.draining.invariant.0 c.handle_front.ensures.hops,
  c.handle_front.ensures.outs ∙ c.draining.invariant.1,
  empties_more c.args.link _ _ _ c.draining.invariant.2 (if_true _ _ c.in-Ok-true.field-0 c.in-Ok-true.field-0-test c.in-Ok-true.ensures.handled),
)

pub returns-in-Ok-false-clause-hops : goal.returns-in-Ok-false-clause-hops
returns-in-Ok-false-clause-hops g c = hops_then _ _ _ c.draining.invariant.0 c.handle_front.ensures.hops

pub returns-in-Err-clause-hops : goal.returns-in-Err-clause-hops
returns-in-Err-clause-hops g c = hops_then _ _ _ c.draining.invariant.0 c.handle_front.ensures.hops
