-- The bulk part of an update: what it is, and where its parts lie.
use Rattle.std.specs.Prelude.{ℕ, ◌≡◌, List, [], ◌∷◌, map, get_or, Option, Some, None}
use Rattle.sat_label.specs.declared.label.Label.{Label}
use Rattle.sat_label.specs.Versions.{Version}
use Rattle.sat_bulk.specs.declared.payload.Kept.{Kept}
use Rattle.sat_bulk.specs.declared.payload.Kept.TheVariants as kept
use Rattle.sat_bulk.specs.declared.payload.Held.{Held}
use Rattle.sat_bulk.specs.declared.payload.Held.TheVariants as held

-- the label of the update, and for each of its items the value, or none where it was taken out
pub record Payload : Type 0 where
  pub label : Label
  pub values : List (Option (List ℕ))

-- ---- parts

-- the version with this label and this value
abbrev pub version_with : Label → List ℕ → Version
version_with l value = record { label = l; value = value }

-- a part with this label and this value
abbrev pub part_of : Label → List ℕ → Option Version
part_of l value = Some (version_with l value)

-- the version of a value, None where there is none
abbrev pub version_for : Label → Option (List ℕ) → Option Version
version_for l None = None
version_for l (Some value) = part_of l value

-- the version that a payload has at a place
abbrev pub version_in : Payload → ℕ → Option Version
version_in p n = version_for p.label (get_or p.values n None)

-- the value of a part
abbrev pub value_of : Option Version → Option (List ℕ)
value_of None = None
value_of (Some v) = Some v.value

-- a version with this label, or none
abbrev pub HasLabel : Label → Option Version → Type 0
HasLabel l None = Unit {0}
HasLabel l (Some v) = v.label ≡ l

-- each part has this label
abbrev pub HaveLabel : Label → List (Option Version) → Type 0
HaveLabel l parts = (n : ℕ) → HasLabel l (get_or parts n None)

-- the payload with this label and these parts
abbrev pub payload_of : Label → List (Option Version) → Payload
payload_of l parts = record { label = l; values = map value_of parts }

-- ---- where they lie

abbrev pub kept_payload : Kept → Payload
kept_payload k = elim k [
  | kept.One version ↦ payload_of version.label (Some version ∷ [])
  | kept.Many group ↦ payload_of group.value.label group.value.parts.items
]

-- all parts have one label
abbrev pub IsOneLabels : Kept → Type 0
IsOneLabels k = elim k [
  | kept.One version ↦ Unit {0}
  | kept.Many group ↦ HaveLabel group.value.label group.value.parts.items
]

abbrev pub held_parts : Held → List (Option Version)
held_parts h = elim h [
  | held.One part ↦ part ∷ []
  | held.Many parts ↦ parts.items
]

abbrev pub held_payload : Label → Held → Payload
held_payload l h = payload_of l (held_parts h)

abbrev pub AreOneLabels : Label → Held → Type 0
AreOneLabels l h = HaveLabel l (held_parts h)
