-- What a host gives for its outgoing links.
use Rattle.std.specs.Prelude.{◌≡◌, ◌⊎◌, ℕ, List, [], map, Some, slice_get, get_or}
use Rattle.sat_label.specs.declared.node.NodeName.{NodeName}
use Rattle.sat_node.specs.declared.kept.Kept.{Kept}
use Rattle.sat_node.specs.Links.{Each}
use Rattle.sat_node.specs.Meanings.{Meaning}
use Rattle.sat_message.specs.Numbering.{CursorSeen, IsAt}

abbrev pub next_of : CursorSeen → ℕ
next_of c = c.next

-- through how many entries it went for link k, none where there is no cursor
abbrev pub place_of : List CursorSeen → ℕ → ℕ
place_of cs k = get_or (map next_of cs) k 0

-- each cursor is one of the link of its number
abbrev pub AreAt : {S I A : Type 0} → Meaning S I A → NodeName → List (Kept I A) → List CursorSeen → Type 0
AreAt m name ks cs = Each cs (λ k c. IsAt (m.puts name k) ks c)

abbrev pub start : CursorSeen
start = record { next = 0; labels = 0; payloads = []; beats = 0 }

-- some cursors more, in front of all entries
abbrev pub AreMore : List CursorSeen → List CursorSeen → Type 0
AreMore old new = (k : ℕ) (c : CursorSeen) → slice_get new k ≡ Some c → (slice_get old k ≡ Some c) ⊎ (c ≡ start)
