use Rattle.std.proofs.Common.{sym, ap}
use Rattle.sat_parts.specs.HubSteps.{hub_takes}
use Rattle.sat_parts.proofs.HubCode.{asks-attach, asks-beat, asks-beat-in, asks-bulk, asks-drains, asks-front, asks-none}
use Rattle.sat_parts.proofs.hub_step.takes.Goals as goal

pub returns-in-Attach : goal.returns-in-Attach
returns-in-Attach c = asks-attach _ _ _ _ _ c.shape-shape.ensures.shape c.in-Attach.is c.is_carried.ensures

pub returns-in-Beat : goal.returns-in-Beat
returns-in-Beat c = asks-beat _ _ _ _ _ c.shape-shape.ensures.shape c.in-Beat.is c.is_other.ensures

pub returns-in-Gather : goal.returns-in-Gather
returns-in-Gather c = asks-drains _ _ _ _ _ c.as_slice.ensures c.in-Gather.is c.gathers.ensures

pub returns-in-None : goal.returns-in-None
returns-in-None c = asks-none _ _ _ c.in-Turn.is c.in-None.is

pub returns-in-Some : goal.returns-in-Some
returns-in-Some c = asks-front _ _ _ _ _ c.in-Turn.is c.in-Some.is c.is_front.ensures

pub returns-in-Emit : goal.returns-in-Emit
unfolding hub_takes
returns-in-Emit c = ap (hub_takes c.args.hub.now) (sym c.in-Emit.is)

pub returns-in-Pulse : goal.returns-in-Pulse
unfolding hub_takes
returns-in-Pulse c = ap (hub_takes c.args.hub.now) (sym c.in-Pulse.is)

pub returns-in-Stamp : goal.returns-in-Stamp
unfolding hub_takes
returns-in-Stamp c = ap (hub_takes c.args.hub.now) (sym c.in-Stamp.is)

pub returns-in-Close : goal.returns-in-Close
unfolding hub_takes
returns-in-Close c = ap (hub_takes c.args.hub.now) (sym c.in-Close.is)

pub returns-in-Fall : goal.returns-in-Fall
unfolding hub_takes
returns-in-Fall c = ap (hub_takes c.args.hub.now) (sym c.in-Fall.is)

pub returns-in-Advance : goal.returns-in-Advance
unfolding hub_takes
returns-in-Advance c = ap (hub_takes c.args.hub.now) (sym c.in-Advance.is)

pub returns-in-Bulk : goal.returns-in-Bulk
returns-in-Bulk c = asks-bulk _ _ _ _ _ _ _ c.in-Bulk.is c.is_bulk.ensures

pub returns-in-BeatIn : goal.returns-in-BeatIn
returns-in-BeatIn c = asks-beat-in _ _ _ _ _ _ c.in-BeatIn.is c.is_beat_in.ensures
