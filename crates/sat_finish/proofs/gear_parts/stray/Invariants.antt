use Rattle.std.proofs.Common.{◌≡◌, ◌≤◌, ℕ, [], take}
use Rattle.sat_finish.specs.Walking.{parts_of}
use Rattle.sat_finish.proofs.gear_parts.stray.Given as goal

abbrev pub invariant-loop-kept : goal.invariant-loop-kept
invariant-loop-kept g l = (i n h : ℕ) → l.count ≤ h → parts_of i n h (take l.kept-index l.journal) ≡ []
