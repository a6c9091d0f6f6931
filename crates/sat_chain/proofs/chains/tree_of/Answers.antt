use Rattle.std.proofs.Common.{◌∙◌, Some, sym, ap}
use Rattle.sat_tree.specs.Shape.{TreeShape}
use Rattle.sat_chain.proofs.Ready.{plan-in, plan-is, no-stamp, tree-same}
use Rattle.sat_chain.proofs.chains.tree_of.Goals as goal

pub bounds-plans-epoch : goal.bounds-plans-epoch
bounds-plans-epoch c = plan-in c.args.d.now c.args.epoch c.plans.result.now c.requires.tree c.plans.ensures.plans

pub unreachable-requires : goal.unreachable-requires
unreachable-requires c =
    let w = plan-is c.args.d.now c.args.epoch c.plans.result.now c.index-plans-epoch.result c.requires.tree c.plans.ensures.plans c.index-plans-epoch.is in
    no-stamp w.0 (sym c.in-Stamp.is ∙ w.2)

pub returns : goal.returns
returns c =
    let w = plan-is c.args.d.now c.args.epoch c.plans.result.now c.index-plans-epoch.result c.requires.tree c.plans.ensures.plans c.index-plans-epoch.is in
    record { tree = ap (λ (t : TreeShape). Some t) (tree-same c.in-Tree.tree w.0 (sym c.in-Tree.is ∙ w.2)) ∙ sym w.1 }
