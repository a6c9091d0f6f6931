use Rattle.std.proofs.Common.{arith}
use Rattle.sat_plan.specs.Drafts.{draft_config}
use Rattle.sat_plan.proofs.Passes.{passing_start, passing_next, passing_end}
use Rattle.sat_plan.proofs.tune.pass.Goals as goal

pub loop-edge-init : goal.loop-edge-init
loop-edge-init c = passing_start c.args.d.now (draft_config c.args.draft.now) c.args.routes.now c.requires.fits c.requires.routes

pub loop-edge-preserved : goal.loop-edge-preserved
loop-edge-preserved c =
    passing_next _ _ _ _ _ _ c.loop-edge.invariant c.in_ok-tune.ensures.tuned c.in_ok-tune.ensures.fits c.in_ok-tune.ensures.tree c.in_ok-tune.ensures.places c.in_ok-tune.ensures.routes

pub returns-clause-passed : goal.returns-clause-passed
returns-clause-passed c = passing_end _ _ _ _ _ c.loop-edge.invariant (let whole = c.requires.fits.edges in let most = c.loop-edge.auto.edge-end in omega arith)
