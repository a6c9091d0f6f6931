use Rattle.std.specs.Prelude.{◌≡◌, ◌-◌, ℕ, length, get_or}
use Rattle.sat_verdict.specs.declared.tale.Tale.TheVariants.{Other}
use Rattle.sat_verdict.specs.Walks.{IsOwn}
use Rattle.sat_verdict.specs.Greatest.{Absorbs, Rises}
use Rattle.sat_verdict.proofs.Linkings.{Walked}
use Rattle.sat_verdict.proofs.readers.catch_up.Given as goal

abbrev pub invariant-loop-at : goal.invariant-loop-at
invariant-loop-at l =
    (length l.noted.items ≡ 65536) × Rises l.reader l.initial.noted.items l.noted.items ×
    ((c : ℕ) → IsOwn l.tales c l.from → Walked l.tales (λ j. Absorbs l.tales l.noted.items l.reader (get_or l.numbers j 0) (get_or l.tales j Other)) c l.from l.at)

abbrev pub decreases-loop-at : goal.decreases-loop-at
decreases-loop-at l = length l.tales - l.at
