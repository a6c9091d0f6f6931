use Rattle.std.proofs.Common.{Some, sym, ap, ◌∙◌}
use Rattle.sat_parts.specs.HubSteps.{hub_beat}
use Rattle.sat_parts.proofs.HubCode.{no-beat, takes-beat}
use Rattle.sat_parts.proofs.hub_step.beat_of.Goals as goal

pub beat-requires : goal.beat-requires
beat-requires c = takes-beat c.args.hub.now c.args.input.now _ c.in-Beat.is c.requires

pub returns-in_ok-beat-in-Beat : goal.returns-in_ok-beat-in-Beat
unfolding hub_beat
returns-in_ok-beat-in-Beat c = ap Some c.in_ok-beat-in-Beat.ensures.beat ∙ ap (hub_beat c.args.hub.now) (sym c.in-Beat.is)

pub returns-in_default : goal.returns-in_default
returns-in_default c = no-beat c.args.hub.now c.args.input.now c.in_default.not-Beat
