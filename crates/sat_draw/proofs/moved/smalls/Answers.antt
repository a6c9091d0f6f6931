use Rattle.std.proofs.Common.{[], ◌++◌, ap, ◌∙◌}
use Rattle.sat_draw.specs.declared.moved.Moved.{Moved}
use Rattle.sat_draw.specs.Moved.{moved_at}
use Rattle.sat_draw.proofs.Arrows.{one_more}
use Rattle.sat_draw.proofs.moved.smalls.Goals as goal

pub loop-one-preserved : goal.loop-one-preserved
loop-one-preserved c =
    one_more (moved_at c.args.d.now) [] c.loop-one.all.items c.push_moved.new.out.items c.args.moved.now c.loop-one.one-index c.one-item.result
    c.loop-one-test.true (c.in_ok-push_moved.ensures ∙ ap (λ (m : Moved). c.loop-one.all.items ++ moved_at c.args.d.now m) c.one-item.is) c.loop-one.invariant
