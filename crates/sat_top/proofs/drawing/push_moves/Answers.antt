use Rattle.std.proofs.Common.{refl, arith}
use Rattle.sat_top.proofs.Entering.{no_moves, more_moves}
use Rattle.sat_top.proofs.drawing.push_moves.Goals as goal

pub loop-place-init : goal.loop-place-init
loop-place-init c = no_moves c.args.moved.now.items c.args.row

pub loop-place-preserved : goal.loop-place-preserved
loop-place-preserved c =
    more_moves c.args.moved.now.items c.loop-place.moved.items c.push.new.self.items c.args.row c.loop-place.place c.args.kept.now c.index-kept-place.result c.in_ok-entry.entry c.loop-place.place
    (omega arith) c.index-kept-place.is c.in_ok-entry.ensures refl c.in_ok-push.ensures.items c.loop-place.invariant
