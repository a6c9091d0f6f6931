use Rattle.std.proofs.Common.{arith, sym}
use Rattle.std.proofs.lemmas.List.{length-take-le}
use Rattle.sat_top.proofs.auditing.heard_in.Goals as goal

pub slice_bounds-read_history-end : goal.slice_bounds-read_history-end
slice_bounds-read_history-end c = sym (length-take-le 268435456 c.args.bytes.now (omega (arith, c.if-bytes-le-MOST_HISTORY_BYTES.false)))
