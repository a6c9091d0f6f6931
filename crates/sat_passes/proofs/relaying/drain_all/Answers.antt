use Rattle.std.proofs.Common.{◌∙◌}
use Rattle.sat_passes.proofs.Drains.{drained_more}
use Rattle.sat_passes.proofs.Hops.{hops_then}
use Rattle.sat_passes.proofs.relaying.drain_all.Goals as goal

pub loop-link-preserved : goal.loop-link-preserved
loop-link-preserved g c = (
  hops_then _ _ _ c.loop-link.invariant.0 c.drain.ensures.hops,
  c.drain.ensures.outs ∙ c.loop-link.invariant.1,
  drained_more g.N.Laid.deployment _ _ c.loop-link.link _ _ _ c.drain.ensures.hops.serial c.loop-link.invariant.2 c.in_default.ensures.drained,
)

pub returns-in-Err-clause-hops : goal.returns-in-Err-clause-hops
returns-in-Err-clause-hops g c = hops_then _ _ _ c.loop-link.invariant.0 c.drain.ensures.hops
