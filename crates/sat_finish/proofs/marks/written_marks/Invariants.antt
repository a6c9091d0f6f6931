use Rattle.std.proofs.Common.{◌≡◌, ℕ, take}
use Rattle.std.specs.List.{flat_map}
use Rattle.sat_act.specs.Deployed.{Deployed}
use Rattle.sat_finish.specs.Marks.{read_at}
use Rattle.sat_finish.specs.Parts.{written_part}
use Rattle.sat_finish.proofs.marks.written_marks.Given as goal

abbrev pub invariant-loop-kept : goal.invariant-loop-kept
invariant-loop-kept g l = (l.place ≡ l.kept-index) × ((d : Deployed) (i h n : ℕ) → read_at (written_part d i h n) l.journal l.marks.items ≡ flat_map (written_part d i h n) (take l.kept-index l.journal))
