use Rattle.std.proofs.Common.{◌≡◌, ℕ, ◌+◌, ◌-◌, length}
use Rattle.sat_host.specs.Cursors.{AreMore, place_of}
use Rattle.sat_host.proofs.host.make_cursors.Given as goal

abbrev pub invariant-loop-alloc : goal.invariant-loop-alloc
invariant-loop-alloc l = ((k : ℕ) → place_of l.cursors.items k ≡ place_of l.initial.cursors.items k) × AreMore l.initial.cursors.items l.cursors.items

abbrev pub decreases-loop-alloc : goal.decreases-loop-alloc
decreases-loop-alloc l = (l.link + 1) - length l.cursors.items
