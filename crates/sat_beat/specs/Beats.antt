-- The beats that a site took from another, what its best one is, and what the calls make of them.
use Rattle.std.specs.Prelude.{ℕ, ◌≡◌, ◌≤◌, ◌+◌, ◌||◌, ◌==◌, Bool, true, false, nat_le, nat_lt, List, [], ◌∷◌, length}
use Rattle.std.specs.Prelude.{replicate, get_or, set, Option, Some, None, if◌then◌else◌}
use Rattle.std.specs.List.{list_all}
use Rattle.sat_label.specs.Members.{In}
use Rattle.sat_label.specs.Words.{below}
use Rattle.sat_beat.specs.declared.Beat.{Beat}
use Rattle.sat_beat.specs.declared.beats.BeatTake.{BeatTake}
use Rattle.sat_beat.specs.declared.beats.BeatTake.TheVariants.{New, Again, Old}

-- the best beat of a site, if any, with its number, and the beats of greater numbers that were taken, each with its
-- number
pub record TakenBeats : Type 0 where
  pub best : Option (ℕ × Beat)
  pub later : List (ℕ × Beat)

-- for each sending site what was taken of it, where each site has so many gears
pub record BeatsSeen : Type 0 where
  pub gears : ℕ
  pub rows : List TakenBeats

-- ---- complete beats

-- the count of a gear is at or below its front
abbrev pub is_reached : List ℕ → List ℕ → ℕ → Bool
is_reached counts fronts g = nat_le (get_or counts g 0) (get_or fronts g 0)

-- the counts of all gears are: what a beat counts was taken
abbrev pub are_reached : List ℕ → List ℕ → Bool
are_reached counts fronts = list_all (is_reached counts fronts) (below (length counts))

-- all that a beat counts was taken
abbrev pub is_complete : List ℕ → Beat → Bool
is_complete fronts beat = are_reached beat.counts fronts

-- the last complete one of some beats
abbrev pub newest : List ℕ → List (ℕ × Beat) → Option (ℕ × Beat)
newest fronts [] = None
newest fronts (b ∷ bs) =
    elim (newest fronts bs) [ Some c ↦ Some c | None ↦ if is_complete fronts b.1 then Some b else None ]

-- the beats from the first on whose number is above n
abbrev pub above : ℕ → List (ℕ × Beat) → List (ℕ × Beat)
above n [] = []
above n (b ∷ bs) = if nat_le b.0 n then above n bs else b ∷ bs

-- where a later beat becomes the best, it and those below it are later ones no more
abbrev pub forward : TakenBeats → Option (ℕ × Beat) → TakenBeats
forward t None = t
forward t (Some b) = record { best = Some b; later = above b.0 t.later }

-- the best goes forward to the newest of the later beats that is complete
abbrev pub refreshed : List ℕ → TakenBeats → TakenBeats
refreshed fronts t = forward t (newest fronts t.later)

-- the number of the first beat is up to n
abbrev pub starts_to : List (ℕ × Beat) → ℕ → Bool
starts_to [] n = false
starts_to (b ∷ bs) n = nat_le b.0 n

-- the beats up to n are taken out one by one, and the last of them stays as the best
abbrev pub passed : ℕ → Option (ℕ × Beat) → List (ℕ × Beat) → TakenBeats
passed n best [] = record { best = best; later = [] }
passed n best (b ∷ bs) = if nat_le b.0 n then passed n (Some b) bs else record { best = best; later = b ∷ bs }

-- the best goes forward up to a number, if any
abbrev pub moved : Option ℕ → TakenBeats → TakenBeats
moved None t = t
moved (Some n) t = passed n t.best t.later

-- ---- a beat comes

-- the best beat has this number or a greater one
abbrev pub is_old : Option (ℕ × Beat) → ℕ → Bool
is_old None n = false
is_old (Some b) n = nat_le n b.0

-- so it has once it went forward up to a number, if any
abbrev pub is_old_by : Option ℕ → Option (ℕ × Beat) → ℕ → Bool
is_old_by None best n = is_old best n
is_old_by (Some m) best n = nat_le n m

-- a beat of this number is one of these
abbrev pub has_beat : List (ℕ × Beat) → ℕ → Bool
has_beat [] n = false
has_beat (b ∷ bs) n = (b.0 == n) || has_beat bs n

-- a beat at its place by its number
abbrev pub placed : List (ℕ × Beat) → ℕ → Beat → List (ℕ × Beat)
placed [] n beat = (n, beat) ∷ []
placed (b ∷ bs) n beat =
    if nat_lt n b.0 then (n, beat) ∷ b ∷ bs else (if n == b.0 then (b.0, beat) ∷ bs else b ∷ placed bs n beat)

-- what becomes of a beat that comes: it is old by the best as it is by these fronts; else it came before; else it is
-- new
abbrev pub take_answer : List ℕ → TakenBeats → ℕ → BeatTake
take_answer fronts t n = if is_old (refreshed fronts t).best n then Old else (if has_beat t.later n then Again else New)

-- what is kept then: a new beat stands among the later ones, and the best goes forward
abbrev pub after_take : List ℕ → TakenBeats → ℕ → Beat → TakenBeats
after_take fronts t n beat =
    if is_old (refreshed fronts t).best n || has_beat t.later n
    then refreshed fronts t
    else refreshed fronts (record { best = t.best; later = placed t.later n beat })

-- ---- all sites

-- no beat was taken
abbrev pub none_taken : TakenBeats
none_taken = record { best = None; later = [] }

abbrev pub fresh_beats : ℕ → ℕ → BeatsSeen
fresh_beats sites gears = record { gears = gears; rows = replicate sites none_taken }

-- what was taken of a site
abbrev pub taken_of : BeatsSeen → ℕ → TakenBeats
taken_of b i = get_or b.rows i none_taken

-- with other beats of a site
abbrev pub with_taken : BeatsSeen → ℕ → TakenBeats → BeatsSeen
with_taken b i t = record b { rows = set b.rows i t }

-- ---- what is true of the beats

-- numbers ascend, from one on
abbrev pub RisesFrom : ℕ → List (ℕ × Beat) → Type 0
RisesFrom n [] = Unit {0}
RisesFrom n (b ∷ bs) = (n ≤ b.0) × RisesFrom (b.0 + 1) bs

-- the least number above the best
abbrev pub next_number : Option (ℕ × Beat) → ℕ
next_number None = 0
next_number (Some b) = b.0 + 1

-- the later beats ascend from above the best on
abbrev pub IsTaken : TakenBeats → Type 0
IsTaken t = RisesFrom (next_number t.best) t.later

-- each beat, the best and the later ones, has one count for each gear
pub record AreCounted (gears : ℕ) (t : TakenBeats) : Type 0 where
  pub best : (b : ℕ × Beat) → t.best ≡ Some b → length b.1.counts ≡ gears
  pub later : (b : ℕ × Beat) → In t.later b → length b.1.counts ≡ gears

-- the best beat, if any, is complete
abbrev pub HasComplete : List ℕ → TakenBeats → Type 0
HasComplete fronts t = (b : ℕ × Beat) → t.best ≡ Some b → is_complete fronts b.1 ≡ true

-- the best beat is complete, and none of the later ones, which have greater numbers, is
pub record IsBest (fronts : List ℕ) (t : TakenBeats) : Type 0 where
  pub complete : HasComplete fronts t
  pub greatest : (b : ℕ × Beat) → In t.later b → is_complete fronts b.1 ≡ false

-- no front of these is below what it was
abbrev pub NoneFell : List ℕ → List ℕ → Type 0
NoneFell was fronts = (g : ℕ) → get_or was g 0 ≤ get_or fronts g 0

-- where the best beat, if any, was complete by fronts of which none has fallen since, the best is now the greatest
-- complete one
pub record KeepsBest (fronts : List ℕ) (old new : TakenBeats) : Type 0 where
  pub best : (was : List ℕ) → NoneFell was fronts → HasComplete was old → IsBest fronts new

-- what was taken of one site: its numbers ascend, and its beats are counted
pub record IsRow (gears : ℕ) (t : TakenBeats) : Type 0 where
  pub taken : IsTaken t
  pub counted : AreCounted gears t

-- that holds of each site
pub record IsBeats (b : BeatsSeen) : Type 0 where
  pub each : (i : ℕ) → IsRow b.gears (taken_of b i)

-- above the best the numbers of the beats are those that were there, and one more
abbrev pub HasOneMore : TakenBeats → ℕ → TakenBeats → Type 0
HasOneMore old n new = (k : ℕ) → next_number new.best ≤ k → has_beat new.later k ≡ (has_beat old.later k || (k == n))
