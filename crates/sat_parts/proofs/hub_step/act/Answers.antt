use Rattle.std.proofs.Common.{sym, ap, ◌∙◌}
use Rattle.sat_parts.specs.HubSteps.{hub_after, hub_answers}
use Rattle.sat_parts.proofs.HubCode.{after-drains, ok-after, ok-answer, ok-drains, takes-attach, takes-beat, takes-beat-in, takes-bulk, takes-drains, takes-turn}
use Rattle.sat_parts.proofs.hub_step.act.Goals as goal

pub attach-requires : goal.attach-requires
attach-requires c = takes-attach c.args.hub.now c.args.input _ c.in-Attach.is c.requires

pub gather-requires : goal.gather-requires
gather-requires c = takes-drains c.args.hub.now c.args.input _ _ c.in-Gather.is c.as_slice.ensures c.shape.ensures.hub c.requires

pub turn-requires : goal.turn-requires
turn-requires c = takes-turn c.args.hub.now c.args.input _ c.in-Turn.is c.requires

pub bulk-requires : goal.bulk-requires
bulk-requires c = takes-bulk c.args.hub.now c.args.input _ _ _ _ c.in-Bulk.is c.requires

pub make_beat-requires : goal.make_beat-requires
make_beat-requires c = takes-beat c.args.hub.now c.args.input _ c.in-Beat.is c.requires

pub beat_in-requires-clause-from : goal.beat_in-requires-clause-from
beat_in-requires-clause-from c = (takes-beat-in c.args.hub.now c.args.input _ _ _ c.in-BeatIn.is c.requires).0

pub beat_in-requires-clause-counts : goal.beat_in-requires-clause-counts
beat_in-requires-clause-counts c = (takes-beat-in c.args.hub.now c.args.input _ _ _ c.in-BeatIn.is c.requires).1

pub returns-in-Attach-clause-answer : goal.returns-in-Attach-clause-answer
unfolding hub_answers
returns-in-Attach-clause-answer c = c.attach.ensures ∙ ap (hub_answers c.args.hub.now) (sym c.in-Attach.is)

pub returns-in-Attach-clause-after : goal.returns-in-Attach-clause-after
unfolding hub_after
returns-in-Attach-clause-after c = ap (hub_after c.args.hub.now) (sym c.in-Attach.is)

pub returns-in-Emit-clause-answer : goal.returns-in-Emit-clause-answer
unfolding hub_answers
returns-in-Emit-clause-answer c = c.emit.ensures.answer ∙ ap (hub_answers c.args.hub.now) (sym c.in-Emit.is)

pub returns-in-Emit-clause-after : goal.returns-in-Emit-clause-after
unfolding hub_after
returns-in-Emit-clause-after c = c.emit.ensures.after ∙ ap (hub_after c.args.hub.now) (sym c.in-Emit.is)

pub returns-in-Pulse-clause-answer : goal.returns-in-Pulse-clause-answer
unfolding hub_answers
returns-in-Pulse-clause-answer c = c.pulse.ensures.answer ∙ ap (hub_answers c.args.hub.now) (sym c.in-Pulse.is)

pub returns-in-Pulse-clause-after : goal.returns-in-Pulse-clause-after
unfolding hub_after
returns-in-Pulse-clause-after c = c.pulse.ensures.after ∙ ap (hub_after c.args.hub.now) (sym c.in-Pulse.is)

pub returns-in-Turn-clause-answer : goal.returns-in-Turn-clause-answer
unfolding hub_answers
returns-in-Turn-clause-answer c = c.turn.ensures.answer ∙ ap (hub_answers c.args.hub.now) (sym c.in-Turn.is)

pub returns-in-Turn-clause-after : goal.returns-in-Turn-clause-after
unfolding hub_after
returns-in-Turn-clause-after c = c.turn.ensures.after ∙ ap (hub_after c.args.hub.now) (sym c.in-Turn.is)

pub returns-in-Stamp-clause-answer : goal.returns-in-Stamp-clause-answer
unfolding hub_answers
returns-in-Stamp-clause-answer c = c.stamp.ensures.answer ∙ ap (hub_answers c.args.hub.now) (sym c.in-Stamp.is)

pub returns-in-Stamp-clause-after : goal.returns-in-Stamp-clause-after
unfolding hub_after
returns-in-Stamp-clause-after c = c.stamp.ensures.after ∙ ap (hub_after c.args.hub.now) (sym c.in-Stamp.is)

pub returns-in-Close-clause-answer : goal.returns-in-Close-clause-answer
unfolding hub_answers
returns-in-Close-clause-answer c = c.close.ensures.answer ∙ ap (hub_answers c.args.hub.now) (sym c.in-Close.is)

pub returns-in-Close-clause-after : goal.returns-in-Close-clause-after
unfolding hub_after
returns-in-Close-clause-after c = c.close.ensures.after ∙ ap (hub_after c.args.hub.now) (sym c.in-Close.is)

pub returns-in-Fall-clause-answer : goal.returns-in-Fall-clause-answer
unfolding hub_answers
returns-in-Fall-clause-answer c = c.fall.ensures.answer ∙ ap (hub_answers c.args.hub.now) (sym c.in-Fall.is)

pub returns-in-Fall-clause-after : goal.returns-in-Fall-clause-after
unfolding hub_after
returns-in-Fall-clause-after c = c.fall.ensures.after ∙ ap (hub_after c.args.hub.now) (sym c.in-Fall.is)

pub returns-in-Advance-clause-answer : goal.returns-in-Advance-clause-answer
unfolding hub_answers
returns-in-Advance-clause-answer c = c.advance.ensures.answer ∙ ap (hub_answers c.args.hub.now) (sym c.in-Advance.is)

pub returns-in-Advance-clause-after : goal.returns-in-Advance-clause-after
unfolding hub_after
returns-in-Advance-clause-after c = c.advance.ensures.after ∙ ap (hub_after c.args.hub.now) (sym c.in-Advance.is)

pub returns-in-Gather-clause-answer : goal.returns-in-Gather-clause-answer
returns-in-Gather-clause-answer c = ok-drains c.args.hub.now _ _ _ c.gather.result c.in-Gather.is c.as_slice.ensures c.gather.ensures.answer

pub returns-in-Gather-clause-after : goal.returns-in-Gather-clause-after
returns-in-Gather-clause-after c = after-drains c.args.hub.now _ _ _ _ c.gather.result c.in-Gather.is c.as_slice.ensures c.gather.ensures.after

pub returns-in-Bulk-clause-answer : goal.returns-in-Bulk-clause-answer
unfolding hub_answers
returns-in-Bulk-clause-answer c = ok-answer c.args.hub.now _ _ c.bulk.result c.in-Bulk.is c.bulk.ensures.answer

pub returns-in-Bulk-clause-after : goal.returns-in-Bulk-clause-after
unfolding hub_after
returns-in-Bulk-clause-after c = ok-after c.args.hub.now _ _ _ c.bulk.result c.in-Bulk.is c.bulk.ensures.after

pub returns-in-Beat-clause-answer : goal.returns-in-Beat-clause-answer
unfolding hub_answers
returns-in-Beat-clause-answer c = ok-answer c.args.hub.now _ _ c.make_beat.result c.in-Beat.is c.make_beat.ensures.answer

pub returns-in-Beat-clause-after : goal.returns-in-Beat-clause-after
unfolding hub_after
returns-in-Beat-clause-after c = ok-after c.args.hub.now _ _ _ c.make_beat.result c.in-Beat.is c.make_beat.ensures.after

pub returns-in-BeatIn-clause-answer : goal.returns-in-BeatIn-clause-answer
unfolding hub_answers
returns-in-BeatIn-clause-answer c = ok-answer c.args.hub.now _ _ c.beat_in.result c.in-BeatIn.is c.beat_in.ensures.answer

pub returns-in-BeatIn-clause-after : goal.returns-in-BeatIn-clause-after
unfolding hub_after
returns-in-BeatIn-clause-after c = ok-after c.args.hub.now _ _ _ c.beat_in.result c.in-BeatIn.is c.beat_in.ensures.after
