use Rattle.std.specs.Prelude.{◌≤◌, length}
use Rattle.sat_verdict.specs.Walks.{Linked}
use Rattle.sat_verdict.proofs.links.links_of.Given as goal

abbrev pub invariant-loop-place : goal.invariant-loop-place
invariant-loop-place l = (l.place ≤ length l.tales) × Linked l.tales l.clients l.heads.items l.next.items l.place

abbrev pub decreases-loop-place : goal.decreases-loop-place
decreases-loop-place l = l.place
