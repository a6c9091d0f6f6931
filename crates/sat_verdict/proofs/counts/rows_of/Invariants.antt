use Rattle.sat_verdict.proofs.Columns.{AreKnown}
use Rattle.sat_verdict.proofs.counts.rows_of.Given as goal

abbrev pub invariant-loop-place : goal.invariant-loop-place
invariant-loop-place l = AreKnown l.tales l.clients l.place l.now.items l.rows.items
