use Rattle.std.proofs.Common.{refl}
use Rattle.sat_parts.proofs.HubGathers.{asks-gather, asks-not}
use Rattle.sat_parts.proofs.hub_step.gathers.Goals as goal

pub returns-then-not-may_gather : goal.returns-then-not-may_gather
returns-then-not-may_gather c = asks-not c.args.hub.now _ c.args.drained.now refl c.shape.ensures.hub c.if-not-may_gather.ensures

pub returns : goal.returns
returns c = asks-gather c.args.hub.now _ c.args.drained.now _ refl c.shape.ensures.hub c.if-not-may_gather.ensures c.are_promises.ensures
