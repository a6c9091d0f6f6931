use Rattle.std.proofs.Common.{◌≡◌, ◌++◌, ℕ, take}
use Rattle.std.specs.List.{flat_map}
use Rattle.sat_finish.specs.Parts.{kept_part}
use Rattle.sat_finish.proofs.gear_parts.add_kept.Given as goal

abbrev pub invariant-loop-kept : goal.invariant-loop-kept
invariant-loop-kept g l = (n : ℕ) → l.list.items ≡ l.initial.list.items ++ flat_map (kept_part l.site n l.home) (take l.kept-index l.journal)
