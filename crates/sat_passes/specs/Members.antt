-- How the members of two lists stand to each other.
use Rattle.std.specs.Prelude.{◌≡◌, ℕ, List, length, Some, slice_get}

-- there are as many as before, and each new member comes from the old one of its number and stands so to it
abbrev pub Both : {X : Type 0} → (ℕ → X → X → Type 0) → List X → List X → Type 0
Both {X} R old new =
    (length new ≡ length old) × ((k : ℕ) (y : X) → slice_get new k ≡ Some y
    → (x : X) × (slice_get old k ≡ Some x) × R k x y)
