use Rattle.std.proofs.Common.{option_map, ◌≡◌, Ok}
use Rattle.serde_json.specs.View.{view}
use Rattle.sat_delay.specs.Reading.{gathered, row_at}
use Rattle.sat_delay.proofs.matrix.rows_of.Given as goal

abbrev pub invariant-loop-row : goal.invariant-loop-row
invariant-loop-row l = gathered (row_at l.form (option_map (λ v. view v.now) l.rows)) l.row ≡ Ok l.lists
