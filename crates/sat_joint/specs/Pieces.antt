-- What a node keeps of an act, where a site is a hub and gears, each a node of its own. Lists are the newest first.
use Rattle.std.specs.Prelude.{◌<◌, ℕ, List, [], ◌∷◌, ◌++◌, Option}
use Rattle.sat_label.specs.declared.label.Label.{Label}
use Rattle.sat_label.specs.Members.{In}
use Rattle.sat_act.specs.declared.act.Act.{Act}
use Rattle.sat_act.specs.declared.answer.Answer.{Answer}
use Rattle.sat_bulk.specs.Payloads.{Payload}
use Rattle.sat_stitch.specs.Kept.{Given, Nothing, Kept, numbered}

-- what a gear gives to a gather: its promise, the labels that were not gathered, and by site how many payloads it made
pub record Drain : Type 0 where
  pub promise : ℕ
  pub labels : List Label
  pub counts : ℕ → ℕ

-- what an act hands to a node: what the act uses, or in an act of several nodes what the others give there. A hub
-- is handed what its gears give to a gather, by gear; a gear is drained by a gather, or shows the payload that its
-- hub shows or another gear writes
pub data Handed : Type 0 where
  Plain : (given : Given) → Handed
  Drains : (drains : ℕ → Drain) → Handed
  Drained : Handed
  Showing : (payload : Payload) → Handed

-- what a node keeps of an act
pub record Piece : Type 0 where
  pub number : ℕ
  pub act : Act
  pub handed : Handed
  pub answer : Answer

abbrev pub number_of : Piece → ℕ
number_of k = k.number

abbrev pub given_of : Handed → Given
given_of (Plain x) = x
given_of _ = Nothing

-- the same, as a node that is the act's only one would keep it
abbrev pub plain : Piece → Kept
plain k = record { number = k.number; act = k.act; given = given_of k.handed; answer = k.answer }

abbrev pub plains : List Piece → List Kept
plains [] = []
plains (k ∷ ks) = plain k ∷ plains ks

-- the numbers rise from each member to the next
abbrev pub Rises : {X : Type 0} → (X → ℕ) → List X → Type 0
Rises number [] = Unit {0}
Rises {X} number (k ∷ ks) = Rises number ks × ((x : X) → In ks x → number x < number k)

-- what pieces give, the oldest first, each with its piece's number
abbrev pub piece_marks : {X : Type 0} → (List Piece → Piece → Option X) → List Piece → List (ℕ × X)
piece_marks f [] = []
piece_marks f (k ∷ ks) = piece_marks f ks ++ numbered k.number (f ks k)

-- each member, with those before it
abbrev pub EachOf : {X : Type 0} → (List X → X → Type 0) → List X → Type 0
EachOf P [] = Unit {0}
EachOf P (k ∷ ks) = EachOf P ks × P ks k
