-- What nodes and sessions keep: under a number an act, what was handed to it, and its answer. These lists are the
-- newest first.
use Rattle.std.specs.Prelude.{◌<◌, ◌≤◌, ℕ, false, List, [], ◌∷◌, ◌++◌, Option, Some, None}
use Rattle.sat_label.specs.declared.label.Label.{Label}
use Rattle.sat_label.specs.declared.carried.Carried.{Carried}
use Rattle.sat_label.specs.Members.{In}
use Rattle.sat_act.specs.declared.act.Act.{Act}
use Rattle.sat_act.specs.declared.answer.Answer.{Answer}
use Rattle.sat_act.specs.declared.entry.Entry.{Entry}
use Rattle.sat_act.specs.Parts.{BeatNote}
use Rattle.sat_bulk.specs.Payloads.{Payload}

-- what was handed to an act: the front of a link, a payload or a beat with its number, what a client carries and its
-- seat
pub data Given : Type 0 where
  Nothing : Given
  OfFront : (front : Option Label) → Given
  OfPayload : (number : ℕ) (payload : Payload) → Given
  OfBeat : (note : BeatNote) → Given
  OfClient : (seen : Carried) (seat : Option ℕ) → Given

-- what a node or a session kept of an act: its Lamport number, the act, what was given to it, and its answer
pub record Kept : Type 0 where
  pub number : ℕ
  pub act : Act
  pub given : Given
  pub answer : Answer

-- the history of kept entries alone
abbrev pub entry_of : Kept → Entry
entry_of k = record { act = k.act; answer = k.answer; inner = false }

abbrev pub history : List Kept → List Entry
history [] = []
history (k ∷ ks) = entry_of k ∷ history ks

-- each entry, with those before it
abbrev pub Each : (List Kept → Kept → Type 0) → List Kept → Type 0
Each P [] = Unit {0}
Each P (k ∷ ks) = Each P ks × P ks k

-- the numbers rise from each entry to the next
abbrev pub Rising : List Kept → Type 0
Rising [] = Unit {0}
Rising (k ∷ ks) = Rising ks × ((x : Kept) → In ks x → x.number < k.number)

-- no member stands twice
abbrev pub Distinct : {X : Type 0} → List X → Type 0
Distinct [] = Unit {0}
Distinct (x ∷ xs) = Distinct xs × (In xs x → ⊥)

-- the numbers rise or stay
abbrev pub Ordered : List Kept → Type 0
Ordered [] = Unit {0}
Ordered (k ∷ ks) = Ordered ks × ((x : Kept) → In ks x → x.number ≤ k.number)

-- what entries give, the oldest first, each with its entry's number
abbrev pub numbered : {X : Type 0} → ℕ → Option X → List (ℕ × X)
numbered n None = []
numbered n (Some x) = (n, x) ∷ []

-- what each of the kept gives, with its Lamport number, the oldest first
abbrev pub marks : {X : Type 0} → (List Kept → Kept → Option X) → List Kept → List (ℕ × X)
marks f [] = []
marks f (k ∷ ks) = marks f ks ++ numbered k.number (f ks k)

abbrev pub acts_of : List Entry → List Act
acts_of [] = []
acts_of (e ∷ h) = e.act ∷ acts_of h
