use Rattle.std.proofs.Common.{◌≡◌, ℕ, take, Some}
use Rattle.std.specs.List.{flat_map}
use Rattle.sat_finish.specs.Marks.{read_at}
use Rattle.sat_finish.specs.Parts.{kept_part}
use Rattle.sat_finish.proofs.marks.handed_marks.Given as goal

abbrev pub invariant-loop-kept : goal.invariant-loop-kept
invariant-loop-kept g l = (l.place ≡ l.kept-index) × ((i n h : ℕ) → read_at (kept_part i n (Some h)) l.journal l.marks.items ≡ flat_map (kept_part i n (Some h)) (take l.kept-index l.journal))
