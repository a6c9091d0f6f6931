use Rattle.std.proofs.Common.{◌-◌, [], ap, sym, length, arith}
use Rattle.sat_place.specs.Ways.{known}
use Rattle.sat_place.proofs.Blocks.{AreBlocks, block_more, blocks_all}
use Rattle.sat_place.proofs.Found.{tried_start}
use Rattle.sat_place.proofs.Worth.{is_found}
use Rattle.sat_place.proofs.wide.least_wide.Goals as goal

pub loop-block-init : goal.loop-block-init
loop-block-init g c = sym (tried_start (known c.args.d.now c.in_ok-ways.ways.items) c.args.d.now.places (length c.args.tree.now.parents - 1) [] c.worst-best.result)

pub loop-block-preserved : goal.loop-block-preserved
unfolding AreBlocks
loop-block-preserved g c =
    block_more c.args.d.now c.in_ok-ways.ways.items c.deref.result.now (length c.args.tree.now.parents - 1) (c.serializers.result - 1) c.loop-block.block-index c.in_ok-found.found.items c.deref-block-items.result.now
    c.block-item.result c.worst-best.result c.in-Ok.placed c.loop-block.best c.in_ok-best-in-Ok.best
    c.in_ok-found.ensures c.deref.ensures.value (ap (λ n. n - 1) c.serializers.ensures.serializers) c.deref-block-items.ensures.value c.loop-block-test.true c.block-item.is c.in-Ok.is c.loop-block.invariant c.in_ok-best-in-Ok.ensures

pub returns-clause-least : goal.returns-clause-least
unfolding AreBlocks
returns-clause-least g c =
    blocks_all c.args.d.now c.args.tree.now c.in_ok-ways.ways.items c.deref.result.now (c.serializers.result - 1) c.loop-block.block-index c.in_ok-found.found.items c.deref-block-items.result.now
    c.worst-best.result c.loop-block.best
    c.in_ok-found.ensures c.deref-block-items.ensures.value (let past = c.loop-block-test.false in let most = c.loop-block.auto.block-index-end in omega arith)
    c.in_ok-ways.ensures.sound c.serializers.ensures.limits c.in_ok-ways.ensures.ways (ap (λ x. x.mismatch) c.worst-best.ensures) c.loop-block.invariant

pub returns-clause-found : goal.returns-clause-found
returns-clause-found g c = is_found c.args.d.now c.args.tree.now c.loop-block.best.places c.loop-block.best.mismatch c.in_ok-ways.ensures.sound.limits.some_place (returns-clause-least g c)
