use Rattle.std.proofs.Common.{option_map, ◌≡◌, Ok}
use Rattle.serde_json.specs.View.{view}
use Rattle.sat_delay.specs.Reading.{gathered}
use Rattle.sat_place.specs.Shape.{row_number, own_row}
use Rattle.sat_place.proofs.rows.first_parents.Given as goal

abbrev pub invariant-loop-row : goal.invariant-loop-row
invariant-loop-row l = gathered (row_number 6 own_row (option_map (λ v. view v.now) l.list)) l.row ≡ Ok l.numbers
