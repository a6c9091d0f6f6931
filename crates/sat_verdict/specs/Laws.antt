-- What this crate proves of given histories.
use Rattle.std.specs.Prelude.{◌≡◌, ◌↔◌, ℕ, List, Option, Some}
use Rattle.sat_label.specs.declared.point.Point.{Point}
use Rattle.sat_label.specs.declared.site_set.SiteSet.{SiteSet}
use Rattle.sat_verdict.specs.declared.tale.Tale.{Tale}
use Rattle.sat_verdict.specs.Causes.{Who, Knows}
use Rattle.sat_verdict.specs.Counts.{known, Within}
use Rattle.sat_verdict.specs.Goals.{Causal, Once, Fresh}
use Rattle.sat_verdict.specs.Verdicts.{IsCausalVerdict, IsOnceVerdict, IsFreshVerdict}
use Rattle.sat_verdict.specs.Found.{first_lack, first_again, first_miss}

-- what is known is, of each client, what its entries below one count wrote and read
abbrev pub CountsTellPasts : Type 0
CountsTellPasts = (h : List Tale) (who : Who) (a : Point) → Knows h who a ↔ Within h (known h who) a

-- the verdicts are found by tests and one count a client
abbrev pub VerdictsAreFound : Type 0
VerdictsAreFound =
    (sets : List SiteSet) (h : List Tale) →
    IsCausalVerdict sets h (first_lack sets h h) × IsOnceVerdict sets h (first_again sets h h)
    × IsFreshVerdict h (first_miss h h)

-- where a verdict names entries, its law doesn't hold
abbrev pub NosAreTrue : Type 0
NosAreTrue =
    (sets : List SiteSet) (h : List Tale) →
    ((v : ℕ × ℕ × ℕ) → IsCausalVerdict sets h (Some v) → Causal sets h → ⊥)
    × ((n : ℕ) → IsOnceVerdict sets h (Some n) → Once sets h → ⊥) ×
    ((v : ℕ × ℕ) → IsFreshVerdict h (Some v) → Fresh h → ⊥)

-- a history has one verdict
abbrev pub VerdictsAreUnique : Type 0
VerdictsAreUnique =
    (sets : List SiteSet) (h : List Tale) →
    ((u v : Option (ℕ × ℕ × ℕ)) → IsCausalVerdict sets h u → IsCausalVerdict sets h v → u ≡ v)
    × ((u v : Option ℕ) → IsOnceVerdict sets h u → IsOnceVerdict sets h v → u ≡ v) ×
    ((u v : Option (ℕ × ℕ)) → IsFreshVerdict h u → IsFreshVerdict h v → u ≡ v)
