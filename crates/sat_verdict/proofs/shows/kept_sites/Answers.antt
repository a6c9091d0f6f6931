use Rattle.std.proofs.lemmas.List.{get_or_default}
use Rattle.sat_verdict.proofs.Passed.{kept-next}
use Rattle.sat_verdict.proofs.shows.kept_sites.Goals as goal

pub loop-entry-preserved : goal.loop-entry-preserved
loop-entry-preserved c =
    kept-next c.args.sets.now c.args.tales.now c.loop-entry.kept.items c.push.new.self.items _ c.loop-entry.entry-index c.kept_of.result c.loop-entry-test.true (get_or_default c.args.tales.now c.loop-entry.entry-index _ _ c.loop-entry-test.true)
    c.loop-entry.invariant.0 c.loop-entry.invariant.1 c.kept_of.ensures c.in_ok-push.ensures.items
