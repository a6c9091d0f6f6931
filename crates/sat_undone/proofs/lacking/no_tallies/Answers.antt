use Rattle.std.proofs.Common.{arith}
use Rattle.sat_undone.proofs.Tables.{none_counted}
use Rattle.sat_undone.proofs.lacking.no_tallies.Goals as goal

pub returns : goal.returns
returns c =
    let all = c.loop-number.invariant.0 in
    none_counted c.args.clients c.loop-number.list.items (omega (arith, all, c.loop-number.auto.number-end, c.loop-number-test.false)) c.loop-number.invariant.1
