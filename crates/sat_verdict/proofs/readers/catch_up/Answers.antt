use Rattle.std.specs.Prelude.{get_or}
use Rattle.std.proofs.Common.{arith, subst}
use Rattle.std.proofs.lemmas.List.{get_or_default}
use Rattle.sat_verdict.specs.declared.tale.Tale.{Tale}
use Rattle.sat_verdict.specs.declared.tale.Tale.TheVariants.{Other}
use Rattle.sat_verdict.specs.Greatest.{Absorbs}
use Rattle.sat_verdict.proofs.Linkings.{nearer, walk-start, walk-next, walk-nearer}
use Rattle.sat_verdict.proofs.Noting.{walked-rises}
use Rattle.sat_verdict.proofs.readers.catch_up.Goals as goal

pub loop-at-init : goal.loop-at-init
loop-at-init c = (c.requires.size, λ x p r. r, λ d own. walk-start c.args.tales.now _ d c.args.from own)

pub loop-at-preserved : goal.loop-at-preserved
loop-at-preserved c = (
  c.absorb.ensures.size,
  λ x p r. c.absorb.ensures.rises x p (c.loop-at.invariant.1 x p r),
  λ d own.
      walk-next c.args.tales.now c.args.next.now (λ j. Absorbs c.args.tales.now c.absorb.new.noted.items c.args.reader (get_or c.args.numbers.now j 0) (get_or c.args.tales.now j Other)) d c.args.from c.loop-at.at
      c.requires.links c.if-at-tales.true
      (subst (λ (e : Tale). Absorbs c.args.tales.now c.absorb.new.noted.items c.args.reader (get_or c.args.numbers.now c.loop-at.at 0) e) (get_or_default c.args.tales.now c.loop-at.at _ Other c.if-at-tales.true) c.absorb.ensures.absorbs)
      (walked-rises c.args.tales.now c.args.numbers.now c.loop-at.noted.items c.absorb.new.noted.items c.args.reader d c.args.from c.loop-at.at c.absorb.ensures.rises (c.loop-at.invariant.2 d own)),
)

pub loop-at-smaller : goal.loop-at-smaller
loop-at-smaller c = nearer _ _ _ c.if-at-tales.true (walk-nearer c.args.tales.now c.args.next.now c.loop-at.at c.requires.links c.if-at-tales.true)

pub returns-else-at-tales-clause-walked : goal.returns-else-at-tales-clause-walked
returns-else-at-tales-clause-walked c = λ d own. ((c.loop-at.invariant.2 d own).own, λ l. c.if-at-tales.false, (c.loop-at.invariant.2 d own).each)

pub returns-after-loop-at-clause-walked : goal.returns-after-loop-at-clause-walked
returns-after-loop-at-clause-walked c = λ d own. ((c.loop-at.invariant.2 d own).own, λ l. absurd (omega (arith, c.loop-at-test.false)), (c.loop-at.invariant.2 d own).each)
