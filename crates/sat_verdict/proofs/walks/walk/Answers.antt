use Rattle.std.specs.Prelude.{◌≡◌, false, get_or}
use Rattle.std.proofs.Common.{arith, ap, sym, ◌∙◌}
use Rattle.std.proofs.lemmas.List.{get_or_default}
use Rattle.sat_verdict.specs.declared.tale.Tale.{Tale}
use Rattle.sat_verdict.specs.declared.tale.Tale.TheVariants.{Other}
use Rattle.sat_verdict.specs.Walks.{is_open}
use Rattle.sat_verdict.proofs.Linkings.{nearer, walk-start, walk-next, walk-nearer}
use Rattle.sat_verdict.proofs.walks.walk.Goals as goal

pub loop-at-init : goal.loop-at-init
loop-at-init c = λ d own. walk-start c.args.tales.now _ d c.args.from own

pub loop-at-preserved : goal.loop-at-preserved
loop-at-preserved c = λ d own.
    walk-next c.args.tales.now c.args.next.now (λ j. is_open c.args.unshown.now c.args.site (get_or c.args.numbers.now j 0) (get_or c.args.tales.now j Other) ≡ false) d c.args.from c.loop-at.at
    c.requires.links c.if-at-tales.true
    (ap (λ (e : Tale). is_open c.args.unshown.now c.args.site (get_or c.args.numbers.now c.loop-at.at 0) e) (get_or_default c.args.tales.now c.loop-at.at Other _ c.if-at-tales.true) ∙ sym c.if-is_open.ensures)
    (c.loop-at.invariant d own)

pub loop-at-smaller : goal.loop-at-smaller
loop-at-smaller c = nearer _ _ _ c.if-at-tales.true (walk-nearer c.args.tales.now c.args.next.now c.loop-at.at c.requires.links c.if-at-tales.true)

pub returns-else-at-tales : goal.returns-else-at-tales
returns-else-at-tales c = λ d own. ((c.loop-at.invariant d own).own, λ l. c.if-at-tales.false, (c.loop-at.invariant d own).each)

pub returns-after-loop-at : goal.returns-after-loop-at
returns-after-loop-at c = λ d own. ((c.loop-at.invariant d own).own, λ l. absurd (omega (arith, c.loop-at-test.false)), (c.loop-at.invariant d own).each)
