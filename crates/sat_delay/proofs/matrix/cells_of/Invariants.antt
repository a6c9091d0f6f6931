use Rattle.std.proofs.Common.{option_map, ◌≡◌, Ok}
use Rattle.serde_json.specs.View.{view}
use Rattle.sat_delay.specs.Reading.{gathered, cell_at}
use Rattle.sat_delay.proofs.matrix.cells_of.Given as goal

abbrev pub invariant-loop-column : goal.invariant-loop-column
invariant-loop-column l = gathered (cell_at l.form l.row (option_map (λ v. view v.now) l.cells)) l.column ≡ Ok l.numbers
