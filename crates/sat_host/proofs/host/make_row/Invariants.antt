use Rattle.std.proofs.Common.{◌≡◌, ℕ, ◌+◌, ◌-◌, get_or, length}
use Rattle.sat_host.proofs.host.make_row.Given as goal

abbrev pub invariant-loop-wanted : goal.invariant-loop-wanted
invariant-loop-wanted l = (j : ℕ) → get_or l.wanted.items j 0 ≡ get_or l.initial.wanted.items j 0

abbrev pub decreases-loop-wanted : goal.decreases-loop-wanted
decreases-loop-wanted l = (l.link + 1) - length l.wanted.items
