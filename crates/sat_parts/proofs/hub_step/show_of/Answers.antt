use Rattle.sat_parts.specs.HubSteps.{hub_shows}
use Rattle.sat_parts.proofs.HubCode.{no-show, ok-show, takes-turn}
use Rattle.sat_parts.proofs.hub_step.show_of.Goals as goal

pub showing-requires : goal.showing-requires
showing-requires c = takes-turn c.args.hub.now c.args.input.now _ c.in-Turn.is c.requires

pub returns-in-Turn : goal.returns-in-Turn
unfolding hub_shows
returns-in-Turn c = ok-show c.args.hub.now _ _ c.copy_of.result _ c.in-Turn.is c.copy_of.ensures c.showing.ensures.shows

pub returns-in-Stamp : goal.returns-in-Stamp
unfolding hub_shows
returns-in-Stamp c = ok-show c.args.hub.now _ _ c.copy_of-in-Stamp.result _ c.in-Stamp.is c.copy_of-in-Stamp.ensures c.stamping.ensures.shows

pub returns-in_default : goal.returns-in_default
returns-in_default c = no-show c.args.hub.now c.args.input.now c.in_default.not-Turn c.in_default.not-Stamp
