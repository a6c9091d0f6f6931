use Rattle.std.proofs.Common.{arith}
use Rattle.sat_plan.specs.Drafts.{draft_config}
use Rattle.sat_plan.proofs.Growth.{growing_start, growing_next, growing_stop, growing_full, count_more}
use Rattle.sat_plan.proofs.grow.grown.Goals as goal

pub growing-init : goal.growing-init
growing-init c = growing_start _ _ _ c.in_ok-draft.ensures.fits c.in_ok-draft.ensures.start c.in_ok-cost.ensures

pub returns-then-lower-cost-clause-grown : goal.returns-then-lower-cost-clause-grown
returns-then-lower-cost-clause-grown c =
    growing_stop c.args.d.now (draft_config c.growing.draft) (draft_config c.in_ok-next.next) c.growing.cost c.in_ok-lower.lower c.growing.invariant c.in_ok-next.ensures.best c.in_ok-lower.ensures c.if-lower-cost.true

pub growing-smaller : goal.growing-smaller
growing-smaller c =
    let count = count_more c.args.d.now (draft_config c.growing.draft) (draft_config c.in_ok-next.next) c.in_ok-next.ensures.best in
    let few = c.growing-test.true in
    let said = c.serializers.ensures.serializers in
    omega arith

pub growing-preserved : goal.growing-preserved
growing-preserved c =
    growing_next c.args.d.now (draft_config c.growing.draft) (draft_config c.in_ok-next.next) c.growing.cost c.in_ok-lower.lower c.growing.invariant (omega arith) c.in_ok-next.ensures.fits c.in_ok-next.ensures.best c.in_ok-lower.ensures c.if-lower-cost.false

pub returns-clause-grown : goal.returns-clause-grown
returns-clause-grown c =
    let full = c.growing-test.false in
    let said = c.serializers.ensures.serializers in
    growing_full c.args.d.now (draft_config c.growing.draft) c.growing.cost c.growing.invariant (omega arith)
