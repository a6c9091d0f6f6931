use Rattle.std.proofs.Common.{◌∙◌, arith, sym}
use Rattle.sat_serial.specs.Routes.{goes}
use Rattle.sat_serial.proofs.Ways.{neighbour-at}
use Rattle.sat_chain.proofs.OnWays.{few-hits, hit, missed}
use Rattle.sat_chain.proofs.tail.ways.Goals.{then-goes, else-goes}
use Rattle.sat_chain.proofs.tail.ways.Goals as goal

pub beyond-side-requires-clause-v : goal.beyond-side-requires-clause-v
beyond-side-requires-clause-v c = (neighbour-at c.args.tree.now c.args.z _ _ _ c.neighbours-node-items.ensures.neighbours (omega arith)).node

pub beyond-side-requires-clause-edge : goal.beyond-side-requires-clause-edge
beyond-side-requires-clause-edge c = (neighbour-at c.args.tree.now c.args.z _ _ _ c.neighbours-node-items.ensures.neighbours (omega arith)).edge

pub overflow_add-count : goal.overflow_add-count
overflow_add-count c = record {
  fits = few-hits (goes c.args.interest.now c.args.tree.now c.args.z c.args.pair.now.from c.args.pair.now.label) c.neighbours-node-items.result.now c.args.tree.now c.args.z c.loop-node.node-index c.loop-node.count
      c.neighbours-node-items.ensures.neighbours c.neighbours-node-items.ensures.limits c.loop-node.invariant c.loop-node-test.true;
}

pub loop-node-preserved : goal.loop-node-preserved
loop-node-preserved c =
    let asks = c.goes.ensures c.args.interest.now c.args.tree.now c.args.z c.args.pair.now.label c.requires.sites c.beyond-side.ensures.beyond c.targets-targets.ensures.targets in
    elim c.if-goes.branch [
      | then-goes w ↦ w.count-is ∙ hit (goes c.args.interest.now c.args.tree.now c.args.z c.args.pair.now.from c.args.pair.now.label) c.neighbours-node-items.result.now c.loop-node.node-index c.loop-node.count _ c.loop-node-test.true (sym asks ∙ w.if-goes.true) c.loop-node.invariant
      | else-goes w ↦ w.count-is ∙ missed (goes c.args.interest.now c.args.tree.now c.args.z c.args.pair.now.from c.args.pair.now.label) c.neighbours-node-items.result.now c.loop-node.node-index c.loop-node.count _ c.loop-node-test.true (sym asks ∙ w.if-goes.false) c.loop-node.invariant
    ]
