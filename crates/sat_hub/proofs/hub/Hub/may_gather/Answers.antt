use Rattle.sat_hub.proofs.Gathering.{may-gather, may-not}
use Rattle.sat_hub.proofs.hub.Hub.may_gather.Goals as goal

pub returns-then-not-may_gather : goal.returns-then-not-may_gather
returns-then-not-may_gather c = may-not _ _ c.args.drained.now c.self.view_is c.if-not-may_gather.ensures

pub returns : goal.returns
returns c = may-gather _ _ c.args.drained.now c.are_given.result c.self.view_is c.self.invariant c.if-not-may_gather.ensures c.are_given.ensures
