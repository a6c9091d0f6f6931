use Rattle.std.specs.Prelude.{◌≡◌, ◌-◌, ℕ, false, length, get_or}
use Rattle.sat_verdict.specs.declared.tale.Tale.TheVariants.{Other}
use Rattle.sat_verdict.specs.Walks.{is_open, IsOwn}
use Rattle.sat_verdict.proofs.Linkings.{Walked}
use Rattle.sat_verdict.proofs.walks.walk.Given as goal

abbrev pub invariant-loop-at : goal.invariant-loop-at
invariant-loop-at l =
    (c : ℕ) → IsOwn l.tales c l.from → Walked l.tales (λ j. is_open l.unshown l.site (get_or l.numbers j 0) (get_or l.tales j Other) ≡ false) c l.from l.at

abbrev pub decreases-loop-at : goal.decreases-loop-at
decreases-loop-at l = length l.tales - l.at
