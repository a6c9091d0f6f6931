use Rattle.std.proofs.Common.{length, sym, subst, ap, ◌∙◌}
use Rattle.sat_gear.proofs.Gears.{each-lane}
use Rattle.sat_proxy.proofs.Answering.{each-answers}
use Rattle.sat_proxy.proofs.Following.{each-follows}
use Rattle.sat_site.specs.Does.{reading, writing}
use Rattle.sat_site.specs.Seen.{IsSite}
use Rattle.sat_site.specs.SiteSteps.{site_after, site_answers}
use Rattle.sat_site.proofs.Acted.{does-after, does-answer, done-after, done-answer, ok-after, ok-answer}
use Rattle.sat_site.proofs.Deeds.{by-values, given-fits, ok-map}
use Rattle.sat_site.proofs.Fitting.{fits-attach, fits-beat, fits-beat-in, fits-bulk, fits-move, fits-read, fits-tick, fits-turn, fits-write}
use Rattle.sat_site.proofs.Step.{undone, undone-ok}
use Rattle.sat_site.proofs.Steps.{each-step}
use Rattle.sat_site.proofs.site.Site.act.Goals as goal

pub tick-requires-clause-gear : goal.tick-requires-clause-gear
tick-requires-clause-gear c = (fits-tick _ _ _ (given-fits _ _ _ c.in-Tick.is c.requires)).0

pub tick-requires-clause-limit : goal.tick-requires-clause-limit
tick-requires-clause-limit c = (fits-tick c.args.self.now _ _ (given-fits _ _ _ c.in-Tick.is c.requires)).1

pub write-requires-clause-items : goal.write-requires-clause-items
write-requires-clause-items c = (fits-write _ _ _ _ (given-fits _ _ _ c.in-Write.is c.requires)).0

pub write-requires-clause-values : goal.write-requires-clause-values
write-requires-clause-values c = ap length c.as_slice.ensures ∙ (fits-write _ _ _ _ (given-fits _ _ _ c.in-Write.is c.requires)).1

pub read-requires : goal.read-requires
read-requires c = fits-read _ _ _ (given-fits _ _ _ c.in-Read.is c.requires)

pub move_to-requires : goal.move_to-requires
move_to-requires c = fits-move _ _ _ (given-fits _ _ _ c.in-Move.is c.requires)

pub attach-requires : goal.attach-requires
attach-requires c = fits-attach _ _ (given-fits _ _ _ c.in-Attach.is c.requires)

pub turn-requires : goal.turn-requires
turn-requires c = fits-turn _ _ (given-fits _ _ _ c.in-Turn.is c.requires)

pub bulk-requires : goal.bulk-requires
bulk-requires c = fits-bulk _ _ _ _ _ (given-fits _ _ _ c.in-Bulk.is c.requires)

pub make_beat-requires : goal.make_beat-requires
make_beat-requires c = fits-beat _ _ (given-fits _ _ _ c.in-Beat.is c.requires)

pub beat_in-requires-clause-from : goal.beat_in-requires-clause-from
beat_in-requires-clause-from c = (fits-beat-in _ _ _ _ (given-fits _ _ _ c.in-BeatIn.is c.requires)).0

pub beat_in-requires-clause-counts : goal.beat_in-requires-clause-counts
beat_in-requires-clause-counts c = (fits-beat-in _ _ _ _ (given-fits _ _ _ c.in-BeatIn.is c.requires)).1

pub returns-in-Tick-clause-answer : goal.returns-in-Tick-clause-answer
returns-in-Tick-clause-answer c = does-answer _ _ _ _ _ c.in-Tick.is c.tick.ensures

pub returns-in-Tick-clause-after : goal.returns-in-Tick-clause-after
returns-in-Tick-clause-after c = does-after _ _ _ _ _ c.in-Tick.is c.tick.ensures

pub returns-in-Write-clause-answer : goal.returns-in-Write-clause-answer
returns-in-Write-clause-answer c = done-answer _ c.write.new.self _ _ c.write.result c.in-Write.is (ok-map c.write.result (λ answer w. writing (by-values _ _ _ _ _ _ _ c.as_slice.ensures w)) c.write.ensures.writes)

pub returns-in-Write-clause-after : goal.returns-in-Write-clause-after
returns-in-Write-clause-after c = done-after _ c.write.new.self _ _ c.write.result c.in-Write.is (ok-map c.write.result (λ answer w. writing (by-values _ _ _ _ _ _ _ c.as_slice.ensures w)) c.write.ensures.writes)

pub returns-in-Read-clause-answer : goal.returns-in-Read-clause-answer
returns-in-Read-clause-answer c = done-answer _ c.args.self.now _ _ c.read.result c.in-Read.is (ok-map c.read.result (λ answer w. reading w) c.read.ensures)

pub returns-in-Read-clause-after : goal.returns-in-Read-clause-after
returns-in-Read-clause-after c = done-after _ c.args.self.now _ _ c.read.result c.in-Read.is (ok-map c.read.result (λ answer w. reading w) c.read.ensures)

pub returns-in-Gather-clause-answer : goal.returns-in-Gather-clause-answer
returns-in-Gather-clause-answer c = done-answer _ _ _ _ c.gather.result c.in-Gather.is c.gather.ensures.does

pub returns-in-Gather-clause-after : goal.returns-in-Gather-clause-after
returns-in-Gather-clause-after c = done-after _ _ _ _ c.gather.result c.in-Gather.is c.gather.ensures.does

pub returns-in-Emit-clause-answer : goal.returns-in-Emit-clause-answer
returns-in-Emit-clause-answer c = does-answer _ _ _ _ _ c.in-Emit.is c.emit.ensures

pub returns-in-Emit-clause-after : goal.returns-in-Emit-clause-after
returns-in-Emit-clause-after c = does-after _ _ _ _ _ c.in-Emit.is c.emit.ensures

pub returns-in-Move-clause-answer : goal.returns-in-Move-clause-answer
unfolding site_answers
returns-in-Move-clause-answer c = ok-answer c.args.self.now _ _ c.move_to.result c.in-Move.is c.move_to.ensures.answer

pub returns-in-Move-clause-after : goal.returns-in-Move-clause-after
unfolding site_after
returns-in-Move-clause-after c = ok-after c.args.self.now _ _ _ c.move_to.result c.in-Move.is c.move_to.ensures.after

pub returns-in-Bulk-clause-answer : goal.returns-in-Bulk-clause-answer
unfolding site_answers
returns-in-Bulk-clause-answer c = ok-answer c.args.self.now _ _ c.bulk.result c.in-Bulk.is c.bulk.ensures.answer

pub returns-in-Bulk-clause-after : goal.returns-in-Bulk-clause-after
unfolding site_after
returns-in-Bulk-clause-after c = ok-after c.args.self.now _ _ _ c.bulk.result c.in-Bulk.is c.bulk.ensures.after

pub returns-in-Beat-clause-answer : goal.returns-in-Beat-clause-answer
unfolding site_answers
returns-in-Beat-clause-answer c = ok-answer c.args.self.now _ _ c.make_beat.result c.in-Beat.is c.make_beat.ensures.answer

pub returns-in-Beat-clause-after : goal.returns-in-Beat-clause-after
unfolding site_after
returns-in-Beat-clause-after c = ok-after c.args.self.now _ _ _ c.make_beat.result c.in-Beat.is c.make_beat.ensures.after

pub returns-in-BeatIn-clause-answer : goal.returns-in-BeatIn-clause-answer
unfolding site_answers
returns-in-BeatIn-clause-answer c = ok-answer c.args.self.now _ _ c.beat_in.result c.in-BeatIn.is c.beat_in.ensures.answer

pub returns-in-BeatIn-clause-after : goal.returns-in-BeatIn-clause-after
unfolding site_after
returns-in-BeatIn-clause-after c = ok-after c.args.self.now _ _ _ c.beat_in.result c.in-BeatIn.is c.beat_in.ensures.after

pub returns-in-Attach-clause-answer : goal.returns-in-Attach-clause-answer
unfolding site_answers
returns-in-Attach-clause-answer c = c.attach.ensures ∙ ap (site_answers c.args.self.now) (sym c.in-Attach.is)

pub returns-in-Attach-clause-after : goal.returns-in-Attach-clause-after
unfolding site_after
returns-in-Attach-clause-after c = ap (site_after c.args.self.now) (sym c.in-Attach.is)

pub returns-in-Pulse-clause-answer : goal.returns-in-Pulse-clause-answer
unfolding site_answers
returns-in-Pulse-clause-answer c = c.pulse.ensures.answer ∙ ap (site_answers c.args.self.now) (sym c.in-Pulse.is)

pub returns-in-Pulse-clause-after : goal.returns-in-Pulse-clause-after
unfolding site_after
returns-in-Pulse-clause-after c = c.pulse.ensures.after ∙ ap (site_after c.args.self.now) (sym c.in-Pulse.is)

pub returns-in-Turn-clause-answer : goal.returns-in-Turn-clause-answer
unfolding site_answers
returns-in-Turn-clause-answer c = c.turn.ensures.answer ∙ ap (site_answers c.args.self.now) (sym c.in-Turn.is)

pub returns-in-Turn-clause-after : goal.returns-in-Turn-clause-after
unfolding site_after
returns-in-Turn-clause-after c = c.turn.ensures.after ∙ ap (site_after c.args.self.now) (sym c.in-Turn.is)

pub returns-in-Stamp-clause-answer : goal.returns-in-Stamp-clause-answer
unfolding site_answers
returns-in-Stamp-clause-answer c = c.stamp.ensures.answer ∙ ap (site_answers c.args.self.now) (sym c.in-Stamp.is)

pub returns-in-Stamp-clause-after : goal.returns-in-Stamp-clause-after
unfolding site_after
returns-in-Stamp-clause-after c = c.stamp.ensures.after ∙ ap (site_after c.args.self.now) (sym c.in-Stamp.is)

pub returns-in-Close-clause-answer : goal.returns-in-Close-clause-answer
unfolding site_answers
returns-in-Close-clause-answer c = c.close.ensures.answer ∙ ap (site_answers c.args.self.now) (sym c.in-Close.is)

pub returns-in-Close-clause-after : goal.returns-in-Close-clause-after
unfolding site_after
returns-in-Close-clause-after c = c.close.ensures.after ∙ ap (site_after c.args.self.now) (sym c.in-Close.is)

pub returns-in-Fall-clause-answer : goal.returns-in-Fall-clause-answer
unfolding site_answers
returns-in-Fall-clause-answer c = c.fall.ensures.answer ∙ ap (site_answers c.args.self.now) (sym c.in-Fall.is)

pub returns-in-Fall-clause-after : goal.returns-in-Fall-clause-after
unfolding site_after
returns-in-Fall-clause-after c = c.fall.ensures.after ∙ ap (site_after c.args.self.now) (sym c.in-Fall.is)

pub returns-in-Advance-clause-answer : goal.returns-in-Advance-clause-answer
unfolding site_answers
returns-in-Advance-clause-answer c = c.advance.ensures.answer ∙ ap (site_answers c.args.self.now) (sym c.in-Advance.is)

pub returns-in-Advance-clause-after : goal.returns-in-Advance-clause-after
unfolding site_after
returns-in-Advance-clause-after c = c.advance.ensures.after ∙ ap (site_after c.args.self.now) (sym c.in-Advance.is)

pub returns-in-Write-clause-refused : goal.returns-in-Write-clause-refused
returns-in-Write-clause-refused c = undone-ok _ _ _ c.write.result (each-step each-lane each-answers each-follows) (subst IsSite c.self.view_is c.self.invariant) c.requires
    (done-answer _ c.write.new.self _ _ c.write.result c.in-Write.is (ok-map c.write.result (λ answer w. writing (by-values _ _ _ _ _ _ _ c.as_slice.ensures w)) c.write.ensures.writes))
    (done-after _ c.write.new.self _ _ c.write.result c.in-Write.is (ok-map c.write.result (λ answer w. writing (by-values _ _ _ _ _ _ _ c.as_slice.ensures w)) c.write.ensures.writes))

pub returns-in-Gather-clause-refused : goal.returns-in-Gather-clause-refused
returns-in-Gather-clause-refused c = undone-ok _ _ _ c.gather.result (each-step each-lane each-answers each-follows) (subst IsSite c.self.view_is c.self.invariant) c.requires
    (done-answer _ _ _ _ c.gather.result c.in-Gather.is c.gather.ensures.does) (done-after _ _ _ _ c.gather.result c.in-Gather.is c.gather.ensures.does)

pub returns-in-Move-clause-refused : goal.returns-in-Move-clause-refused
unfolding site_answers site_after
returns-in-Move-clause-refused c = undone-ok _ _ _ c.move_to.result (each-step each-lane each-answers each-follows) (subst IsSite c.self.view_is c.self.invariant) c.requires
    (ok-answer c.args.self.now _ _ c.move_to.result c.in-Move.is c.move_to.ensures.answer) (ok-after c.args.self.now _ _ _ c.move_to.result c.in-Move.is c.move_to.ensures.after)

pub returns-in-Turn-clause-refused : goal.returns-in-Turn-clause-refused
unfolding site_answers site_after
returns-in-Turn-clause-refused c = undone _ _ _ _ (each-step each-lane each-answers each-follows) (subst IsSite c.self.view_is c.self.invariant) c.requires
    (c.turn.ensures.answer ∙ ap (site_answers c.args.self.now) (sym c.in-Turn.is)) (c.turn.ensures.after ∙ ap (site_after c.args.self.now) (sym c.in-Turn.is))
