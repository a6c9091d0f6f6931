use Rattle.std.proofs.Common.{arith, sym, ◌∙◌}
use Rattle.sat_tree.proofs.Above.{above-step, above-end, above-last}
use Rattle.sat_tree.proofs.sides.is_above.Goals as goal

pub returns-in-None : goal.returns-in-None
returns-in-None c = sym (above-end c.args.layout.now c.args.z c.loop-at.at c.loop-at-test.true (sym c.in-None.ensures.above)) ∙ c.loop-at.invariant.1

pub loop-at-smaller : goal.loop-at-smaller
loop-at-smaller c = c.in-Some.ensures.limits.tree.down _ _ (sym c.in-Some.ensures.above)

pub loop-at-preserved : goal.loop-at-preserved
loop-at-preserved c =
    let falls = c.in-Some.ensures.limits.tree.down _ _ (sym c.in-Some.ensures.above) in
    (omega arith, above-step c.args.layout.now c.in-Some.ensures.limits.tree c.args.z c.loop-at.at c.in-Some.parent c.loop-at.invariant.0 c.loop-at-test.true (sym c.in-Some.ensures.above) ∙ c.loop-at.invariant.1)

pub returns : goal.returns
returns c = sym (above-last c.args.layout.now c.requires.limits.tree c.args.z c.loop-at.at c.loop-at.invariant.0 c.loop-at-test.false) ∙ c.loop-at.invariant.1
