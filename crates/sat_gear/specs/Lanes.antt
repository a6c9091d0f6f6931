-- Lanes, one for each site, as lists: of payloads, or of the places of these among all that were made.
use Rattle.std.specs.Prelude.{ℕ, ◌≡◌, ◌<◌, ◌+◌, Bool, true, List, [], ◌∷◌, ◌++◌, length, get_or, map, slice_get}
use Rattle.std.specs.Prelude.{if◌then◌else◌}
use Rattle.std.specs.Option.{option_to_list}
use Rattle.sat_queue.specs.Queued.{Queued, HasRoom}

-- how many there are
abbrev pub count_of : {X : Type 0} → List X → ℕ
count_of lane = length lane

-- the lanes from that of site k on, with x behind those of the sites that pass
abbrev pub lanes_where : {X : Type 0} → (ℕ → Bool) → X → ℕ → List (List X) → List (List X)
lanes_where test x k [] = []
lanes_where test x k (lane ∷ lanes) = (if test k then lane ++ x ∷ [] else lane) ∷ lanes_where test x (k + 1) lanes

-- of the lanes from that of site k on, those of the sites that pass: how much each holds
abbrev pub numbers_where : {X : Type 0} → (ℕ → Bool) → ℕ → List (List X) → List ℕ
numbers_where test k [] = []
numbers_where test k (lane ∷ lanes) =
    if test k then length lane ∷ numbers_where test (k + 1) lanes else numbers_where test (k + 1) lanes

-- what stands at these places
abbrev pub picked : {X : Type 0} → List X → List ℕ → List X
picked made [] = []
picked made (n ∷ ns) = option_to_list (slice_get made n) ++ picked made ns

-- there is something at each place
abbrev pub AllBelow : ℕ → List (List ℕ) → Type 0
AllBelow count lanes =
    (k n : ℕ) (place : ℕ) → slice_get (get_or lanes k []) n ≡ Rattle.std.specs.Prelude.Some place → place < count

-- what is kept of the lanes: each place is one of so many, and each lane is counted
pub record IsLaid (made : ℕ) (lanes : List (List ℕ)) (counts : List ℕ) : Type 0 where
  pub below : AllBelow made lanes
  pub counted : counts ≡ map count_of lanes

-- below n the lanes of the sites that pass have room for one place more
abbrev pub HaveRoomWhere : (ℕ → Bool) → ℕ → List (Queued ℕ) → Type 0
HaveRoomWhere test n lanes =
    (k : ℕ) (d : Queued ℕ) → k < n → k < length lanes → test k ≡ true → HasRoom (get_or lanes k d)

-- the first n lanes have x behind those of the sites that pass, and the others are as before
pub record Spread {X : Type 0} (test : ℕ → Bool) (x : X) (n : ℕ) (old new : List (List X)) : Type 0 where
  pub count : length new ≡ length old
  pub before : (k : ℕ) → k < n → get_or new k [] ≡ (if test k then get_or old k [] ++ x ∷ [] else get_or old k [])
  pub after : (k : ℕ) → (k < n → ⊥) → get_or new k [] ≡ get_or old k []
