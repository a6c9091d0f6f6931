-- Beats whose counts rise with their numbers, as those of every run do: of them the complete ones come first.
use Rattle.std.specs.Prelude.{ℕ, ◌≡◌, ◌≤◌, ◌<◌, ◌-◌, Bool, true, false, List, [], ◌∷◌, length, slice_get, Option, Some}
use Rattle.std.specs.Prelude.{if◌then◌else◌}
use Rattle.sat_label.specs.Members.{In}
use Rattle.sat_beat.specs.declared.Beat.{Beat}
use Rattle.sat_beat.specs.Beats.{TakenBeats, are_reached, is_complete, IsTaken}

-- each beat's counts are at or above those of the beat before it, and the first one's at or above these
abbrev pub RiseFrom : List ℕ → List (ℕ × Beat) → Type 0
RiseFrom counts [] = Unit {0}
RiseFrom counts (b ∷ bs) = (are_reached counts b.1.counts ≡ true) × RiseFrom b.1.counts bs

-- the counts rise with the numbers
abbrev pub CountsRise : List (ℕ × Beat) → Type 0
CountsRise bs = RiseFrom [] bs

-- the number of the last beat before the first that is not complete, or else the one given
abbrev pub last_before : List ℕ → Option ℕ → List (ℕ × Beat) → Option ℕ
last_before fronts o [] = o
last_before fronts o (b ∷ bs) = if is_complete fronts b.1 then last_before fronts (Some b.0) bs else o

-- the first of them is complete
abbrev pub starts_complete : List ℕ → List (ℕ × Beat) → Bool
starts_complete fronts [] = false
starts_complete fronts (b ∷ bs) = is_complete fronts b.1

-- the counts of each beat whose number is below this one are at or below those of this beat
abbrev pub RisesTo : List (ℕ × Beat) → ℕ → Beat → Type 0
RisesTo bs n beat = (c : ℕ × Beat) → In bs c → c.0 < n → are_reached c.1.counts beat.counts ≡ true

-- those of each other beat are at or above them
abbrev pub RisesOn : List (ℕ × Beat) → ℕ → Beat → Type 0
RisesOn bs n beat = (c : ℕ × Beat) → In bs c → n ≤ c.0 → are_reached beat.counts c.1.counts ≡ true

-- each of them has a number below this one
abbrev pub AreBelow : List (ℕ × Beat) → ℕ → Type 0
AreBelow bs n = (c : ℕ × Beat) → In bs c → c.0 < n

-- there are some, and the last of them has a number up to n
abbrev pub EndsTo : List (ℕ × Beat) → ℕ → Type 0
EndsTo bs n = (b : ℕ × Beat) × (slice_get bs (length bs - 1) ≡ Some b) × (b.0 ≤ n)

-- what is kept of one site: where the mark says that the counts rise, they do
pub record IsKept (t : TakenBeats) (rising : Bool) : Type 0 where
  pub taken : IsTaken t
  pub rises : rising ≡ true → CountsRise t.later
