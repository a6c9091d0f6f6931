use Rattle.std.proofs.Common.{arith, ◌∙◌, ap}
use Rattle.sat_plan.specs.Mismatch.{pairs}
use Rattle.sat_place.proofs.Waymarks.{first_more, first_all, are_ways}
use Rattle.sat_place.proofs.ways.ways_of.Goals as goal

pub loop-pair-preserved : goal.loop-pair-preserved
loop-pair-preserved c =
    first_more c.args.d.now c.args.tree.now c.deref-pair-items.result.now c.loop-pair.pair-index _ c.in_ok-way.way c.loop-pair.ways.items _ c.in_ok-way.ensures.limits c.in_ok-way.ensures.small c.requires
    (c.deref-pair-items.ensures.value ∙ c.in_ok-pairs.ensures ∙ ap pairs c.sites.ensures.sites) c.loop-pair-test.true c.in_ok-way.ensures.way c.in_ok-push.ensures.items c.loop-pair.invariant

pub returns-clause-ways : goal.returns-clause-ways
returns-clause-ways c =
    first_all c.args.d.now c.args.tree.now c.deref-pair-items.result.now c.loop-pair.pair-index c.loop-pair.ways.items (c.deref-pair-items.ensures.value ∙ c.in_ok-pairs.ensures ∙ ap pairs c.sites.ensures.sites)
    (let past = c.loop-pair-test.false in let most = c.loop-pair.auto.pair-index-end in omega arith) c.loop-pair.invariant

pub returns-clause-sound : goal.returns-clause-sound
returns-clause-sound c =
    are_ways c.args.d.now c.args.tree.now c.deref-pair-items.result.now c.loop-pair.pair-index c.loop-pair.ways.items c.sites.ensures.limits (c.deref-pair-items.ensures.value ∙ c.in_ok-pairs.ensures ∙ ap pairs c.sites.ensures.sites)
    (let past = c.loop-pair-test.false in let most = c.loop-pair.auto.pair-index-end in omega arith) c.loop-pair.invariant
