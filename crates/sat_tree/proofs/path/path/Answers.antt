use Rattle.std.proofs.Common.{◌≡◌, ◌<◌, ◌++◌, [], ◌∷◌, arith, ap, sym, ◌∙◌}
use Rattle.sat_label.specs.declared.node.NodeId.TheVariants.{Site}
use Rattle.sat_tree.proofs.Ways.{begun, up-here, up-there, met}
use Rattle.sat_tree.proofs.path.path.Goals as goal

pub loop-here-init : goal.loop-here-init
loop-here-init c =
    let one : c.push.new.self ≡ Site c.args.from ∷ [] = c.in_ok-push.ensures.ok ∙ ap (λ l. l ++ Site c.args.from ∷ []) c.new-way.ensures in
    let other : c.push-2.new.self.items ≡ Site c.args.to ∷ [] = c.in_ok-push-2.ensures.items ∙ ap (λ l. l ++ Site c.args.to ∷ []) c.new-back.ensures.items in (
      rw c.seat-here.ensures.at (c.seat-here.ensures.limits.tree.seats c.args.from),
      rw c.seat-there.ensures.at (c.seat-there.ensures.limits.tree.seats c.args.to),
      begun c.args.layout.now c.args.from c.args.to _ _ _ _ c.requires.apart one other c.seat-here.ensures.at c.seat-there.ensures.at,
    )

pub loop-here-preserved-then-there-here : goal.loop-here-preserved-then-there-here
loop-here-preserved-then-there-here c =
    let tree = c.above-here.ensures.limits.tree in
    let falls = tree.down _ _ (sym c.above-here.ensures.above) in (
      omega arith,
      c.loop-here.invariant.1,
      up-here c.args.layout.now _ _ _ _ _ _ _ _ c.loop-here.invariant.2 c.if-there-here.true (sym c.above-here.ensures.above) falls c.in_ok-push-3.ensures.ok,
    )

pub loop-here-preserved : goal.loop-here-preserved
loop-here-preserved c =
    let tree = c.above-there.ensures.limits.tree in
    let falls = tree.down _ _ (sym c.above-there.ensures.above) in
    let less : c.loop-here.here < c.loop-here.there = omega arith in (
      c.loop-here.invariant.0,
      omega arith,
      up-there c.args.layout.now _ _ _ _ _ _ _ _ c.loop-here.invariant.2 less (sym c.above-there.ensures.above) falls c.in_ok-push-4.ensures.items,
    )

pub returns : goal.returns
returns c = met c.args.layout.now _ _ _ _ _ _ _ _ c.loop-here.invariant.2 c.loop-here-test.false c.in_ok-push-5.ensures.ok c.in_ok-add_reversed.ensures
