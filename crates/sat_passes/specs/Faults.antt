-- What a pass stops at.
use Rattle.std.specs.Prelude.{◌≡◌, ◌⊎◌, ℕ, List, ◌∷◌, ◌++◌, Some, slice_get}
use Rattle.sat_node.specs.declared.kept.CallFault.{CallFault}
use Rattle.sat_node.specs.declared.kept.CallFault.TheVariants as fault
use Rattle.sat_node.specs.declared.kept.Envelope.{Envelope}
use Rattle.sat_node.specs.Seen.{last_number}
use Rattle.sat_node.specs.Links.{HeldSeen, InSeen}

-- it is in the received list of one of these ends
abbrev pub IsReceived : List InSeen → Envelope → Type 0
IsReceived ins e = (k : ℕ) × (i : InSeen) × (slice_get ins k ≡ Some i) × (before : List Envelope)
    × (after : List Envelope) × (i.link.received ≡ before ++ e ∷ after)

-- the greatest number is that of the node, or of an envelope that it received
abbrev pub IsWorn : {M I A : Type 0} → HeldSeen M I A → Type 0
IsWorn h = (h.node.number ≡ last_number) ⊎ ((e : Envelope) × IsReceived h.ins e × (e.lamport ≡ last_number))

-- memory ran out, or the greatest number is the node's or a received envelope's
abbrev pub Fails : {M I A : Type 0} → HeldSeen M I A → CallFault → Type 0
Fails h f = (f ≡ fault.Memory) ⊎ ((f ≡ fault.Worn last_number) × IsWorn h)
