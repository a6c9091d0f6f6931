use Rattle.sat_verdict.proofs.Columns.{RaisedTo}
use Rattle.sat_verdict.proofs.row.Row.raise.Given as goal

abbrev pub invariant-loop-place : goal.invariant-loop-place
invariant-loop-place l = RaisedTo l.place l.initial.self-inside.counts.items l.others l.self-inside.counts.items
