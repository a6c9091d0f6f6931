use Rattle.std.specs.Prelude.{◌≡◌, length}
use Rattle.sat_verdict.specs.Passes.{AreKeptTo}
use Rattle.sat_verdict.proofs.shows.kept_sites.Given as goal

abbrev pub invariant-loop-entry : goal.invariant-loop-entry
invariant-loop-entry l = (length l.kept.items ≡ l.entry-index) × AreKeptTo l.sets l.tales l.kept.items l.entry-index
