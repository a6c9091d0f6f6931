use Rattle.std.proofs.Common.{arith}
use Rattle.std.proofs.lemmas.List.{take_rest, length-drop}
use Rattle.sat_follow.proofs.Followed.{takes_more}
use Rattle.sat_follow.proofs.writing.write_text.Goals as goal

pub loop-at-preserved : goal.loop-at-preserved
loop-at-preserved g c =
    let rest = take_rest c.args.text.now c.loop-at.at in
    let count = rw rest at c.in_ok-at.ensures.count in (
      omega (arith, count, length-drop c.loop-at.at c.args.text.now),
      takes_more (g.K.Sink.told c.args.sink.now) (g.K.Sink.told c.loop-at.sink) (g.K.Sink.told c.write.new.self) c.args.text.now c.loop-at.at c.in_ok-at.field-0 c.loop-at.invariant.1 (rw rest at c.in_ok-at.ensures.bytes),
      omega (arith, c.in_ok-at.ensures.cause.later),
    )
