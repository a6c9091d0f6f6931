use Rattle.std.proofs.Common.{ℕ, ◌≡◌, length, get_or}
use Rattle.sat_undone.specs.Undone.{no_tally}
use Rattle.sat_undone.proofs.lacking.no_tallies.Given as goal

abbrev pub invariant-loop-number : goal.invariant-loop-number
invariant-loop-number l = (length l.list.items ≡ l.number) × ((k : ℕ) → get_or l.list.items k no_tally ≡ no_tally)
