use Rattle.std.proofs.lemmas.List.{get_or_default}
use Rattle.sat_verdict.proofs.Freshly.{fresh-start, fresh-next, end-fresh}
use Rattle.sat_verdict.proofs.reads.judge_reads.Goals as goal

pub loop-place-init : goal.loop-place-init
loop-place-init c = fresh-start c.args.tales.now

pub loop-place-preserved : goal.loop-place-preserved
loop-place-preserved c =
    fresh-next c.args.tales.now c.args.rows.now c.args.numbers.now c.args.clients c.loop-place.place _ c.loop-place.fresh c.next_fresh-fresh.result
    c.requires.unique c.requires.clients c.requires.numbers c.requires.rows c.loop-place-test.true (get_or_default c.args.tales.now c.loop-place.place _ _ c.loop-place-test.true) c.loop-place.invariant c.next_fresh-fresh.ensures

pub returns : goal.returns
returns c = end-fresh c.args.tales.now c.loop-place.place c.loop-place.fresh c.loop-place-test.false c.loop-place.invariant
