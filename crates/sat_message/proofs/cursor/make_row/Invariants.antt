use Rattle.std.proofs.Common.{◌≡◌, ℕ, ◌+◌, ◌-◌, get_or, length}
use Rattle.sat_message.proofs.cursor.make_row.Given as goal

abbrev pub invariant-loop-counts : goal.invariant-loop-counts
invariant-loop-counts l = (g : ℕ) → get_or l.counts.items g 0 ≡ get_or l.initial.counts.items g 0

abbrev pub decreases-loop-counts : goal.decreases-loop-counts
decreases-loop-counts l = (l.gear + 1) - length l.counts.items
