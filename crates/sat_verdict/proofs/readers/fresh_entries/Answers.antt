use Rattle.sat_verdict.proofs.Noting.{no-marks}
use Rattle.sat_verdict.proofs.readers.fresh_entries.Goals as goal

pub loop-reader-init : goal.loop-reader-init
loop-reader-init c = (c.in_ok-fresh.ensures.size, c.in_ok-noted.ensures, no-marks c.args.tales.now c.args.numbers.now c.args.rows.now c.in_ok-fresh.fresh.items c.in_ok-fresh.ensures.none)

pub loop-reader-preserved : goal.loop-reader-preserved
loop-reader-preserved c = (c.mark_fresh.ensures.marks, c.mark_fresh.ensures.size, c.mark_fresh.ensures.fresh)
