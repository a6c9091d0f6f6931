-- What holds of what entries take from a link and put there.
use Rattle.std.specs.Prelude.{◌≡◌, ◌<◌, ℕ, false, List, [], ◌∷◌, ◌++◌, length, Some, slice_get}
use Rattle.sat_node.specs.declared.kept.Envelope.{Envelope}
use Rattle.sat_node.specs.Puts.{Putting, envelope, numbered, sealed}
use Rattle.sat_node.specs.Links.{may_pass, Handed}

-- it carries the same, and has a smaller number
abbrev pub IsFor : Envelope → Envelope → Type 0
IsFor e t = (t.body ≡ e.body) × (e.lamport < t.lamport)

-- what was taken was put, each under a smaller number; of two that were taken, what was put for the later one was put
-- later
abbrev pub TakenCame : Type 0
TakenCame = (took put : List Envelope) → Handed took put →
    (at : ℕ → ℕ) × ((k : ℕ) (t : Envelope) → slice_get took k ≡ Some t
    → (e : Envelope) × (slice_get put (at k) ≡ Some e) × IsFor e t) × ((j k : ℕ) → j < k → at j < at k)

-- where nothing may be passed over, the k-th that was taken is the k-th that was put
abbrev pub LabelsInOrder : Type 0
LabelsInOrder = (took put : List Envelope) → Handed took put
    → ((k : ℕ) (e : Envelope) → slice_get put k ≡ Some e → may_pass e.body ≡ false) →
    (k : ℕ) (t : Envelope) → slice_get took k ≡ Some t → (e : Envelope) × (slice_get put k ≡ Some e) × IsFor e t

-- of what entries put on a link, the k-th as it travels: under the number of its entry, and a payload or a beat under
-- its own, which is how many of its sort were put before it
abbrev pub PutsAreNumbered : Type 0
PutsAreNumbered = (ps : List Putting) (k : ℕ) (e : Envelope) → slice_get (sealed [] ps) k ≡ Some e →
    (before : List Putting) × (p : Putting) × (after : List Putting) × (ps ≡ before ++ p ∷ after) × (length before ≡ k)
    × (e ≡ envelope p.number (numbered before p.made))
