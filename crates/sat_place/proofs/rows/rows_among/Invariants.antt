use Rattle.std.proofs.Common.{option_map, ◌≡◌, ◌≤◌}
use Rattle.serde_json.specs.View.{view}
use Rattle.sat_place.specs.Shape.{rows_among}
use Rattle.sat_place.proofs.rows.rows_among.Given as goal

abbrev pub invariant-loop-row : goal.invariant-loop-row
invariant-loop-row l = (l.count ≡ rows_among (option_map (λ v. view v.now) l.list) l.row) × (l.count ≤ l.row)
