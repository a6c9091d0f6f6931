use Rattle.std.proofs.Common.{◌∙◌}
use Rattle.sat_parts.proofs.HubCode.{sent-in, turn-epoch}
use Rattle.sat_parts.proofs.hub_step.epoch_of.Goals as goal

pub returns-in-Turn : goal.returns-in-Turn
returns-in-Turn c = c.view.ensures ∙ turn-epoch c.args.hub.now c.args.input.now _ c.in-Turn.is

pub returns-in-None : goal.returns-in-None
returns-in-None c = sent-in c.args.hub.now c.args.input.now _ _ c.in_default.not-Turn c.requires c.in-None.is

pub returns-in-Some : goal.returns-in-Some
returns-in-Some c = c.emission.ensures ∙ sent-in c.args.hub.now c.args.input.now _ _ c.in_default.not-Turn c.requires c.in-Some.is
