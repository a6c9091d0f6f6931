use Rattle.std.specs.Prelude.{◌≡◌, ◌<◌, ℕ, [], length, get_or}
use Rattle.sat_verdict.proofs.shows.done_of.Given as goal

abbrev pub invariant-loop : goal.invariant-loop
invariant-loop l = (k : ℕ) → k < length l.done.items → get_or l.done.items k [] ≡ l.heads
