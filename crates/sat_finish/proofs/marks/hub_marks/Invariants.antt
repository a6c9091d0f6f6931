use Rattle.std.proofs.Common.{◌≡◌, ℕ, take}
use Rattle.std.specs.List.{flat_map}
use Rattle.sat_act.specs.Deployed.{Deployed}
use Rattle.sat_finish.specs.Marks.{read_at}
use Rattle.sat_finish.specs.Parts.{hub_part}
use Rattle.sat_finish.proofs.marks.hub_marks.Given as goal

abbrev pub invariant-loop-kept : goal.invariant-loop-kept
invariant-loop-kept g l = (l.place ≡ l.kept-index) × ((d : Deployed) (i n : ℕ) → read_at (hub_part d i n) l.journal l.marks.items ≡ flat_map (hub_part d i n) (take l.kept-index l.journal))
