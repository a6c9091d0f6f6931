-- Whose turn it is among the messages of a link, and what becomes of one.
use Rattle.std.specs.Prelude.{◌≡◌, ◌⊎◌, ℕ, ◌+◌, ◌-◌, ◌^◌, ◌==◌, ◌<◌, max, nat_lt, Bool, true, false, List, ◌∷◌, []}
use Rattle.std.specs.Prelude.{◌++◌, Option, Some, get_or, if◌then◌else◌}
use Rattle.sat_node.specs.declared.kept.Body.{Body}
use Rattle.sat_node.specs.declared.kept.Body.TheVariants as body
use Rattle.sat_node.specs.declared.kept.CallFault.{CallFault}
use Rattle.sat_node.specs.declared.kept.CallFault.TheVariants as fault
use Rattle.sat_node.specs.Meanings.{Meaning}
use Rattle.sat_node.specs.Seen.{entry, last_number}
use Rattle.sat_message.specs.declared.message.Message.{Message}
use Rattle.sat_host.specs.declared.received.Received.{Received}
use Rattle.sat_host.specs.declared.received.Received.TheVariants.{Taken, Early, Again, Unfit}
use Rattle.sat_host_laws.specs.Messages.{HostSeen, messages_on, slip, wanted_then}

abbrev pub is_taken : Received → Bool
is_taken Taken = true
is_taken Early = false
is_taken Again = false
is_taken Unfit = false

-- a label's turn comes once all before it were taken. The greatest number is none's
abbrev pub label_turn : ℕ → ℕ → Received
label_turn wanted number = if nat_lt number wanted then Again else if nat_lt wanted number then Early
    else if number == (2 ^ 64 - 1) then Unfit else Taken

-- a payload and a beat may come at any time
abbrev pub turn_of : ℕ → ℕ → Body → Received
turn_of wanted number (body.Label l) = label_turn wanted number
turn_of wanted number (body.Payload g n p) = Taken
turn_of wanted number (body.Beat n b) = Taken

-- the message, if this is its link
abbrev pub message_at : ℕ → Message → ℕ → List Message
message_at link m j = if link == j then m ∷ [] else []

-- one entry more took the message, as this input, under one above the node's number and the message's. It is the one
-- message more that was taken of its link, and no other link has one more
pub record TakesOne {S M I A : Type 0} (m : Meaning S I A) (link : ℕ) (x : Message) (given : Option I)
    (old new : HostSeen M I A) : Type 0 where
  pub entry : (i : I) × (a : A) × (given ≡ Some i)
      × (new.node.entries ≡ old.node.entries ++ entry (max old.node.number x.sent.lamport + 1) i a ∷ [])
  pub name : new.node.name ≡ old.node.name
  pub slips : new.slips ≡ old.slips ++ slip link x.number x.sent.lamport ∷ []
  pub wanted : (j : ℕ) → get_or new.wanted j 0 ≡ wanted_then link x.sent.body j (get_or old.wanted j 0)
  pub messages : (j : ℕ) → messages_on m new j ≡ messages_on m old j ++ message_at link x j
  pub cursors : new.cursors ≡ old.cursors

-- an entry took it; or nothing changed
abbrev pub Receives : {S M I A : Type 0} → Meaning S I A → ℕ → Message → Option I → HostSeen M I A → HostSeen M I A
    → Received → Type 0
Receives m link x given old new Taken = TakesOne m link x given old new
Receives m link x given old new Early = new ≡ old
Receives m link x given old new Again = (new ≡ old) × (x.number < get_or old.wanted link 0)
Receives m link x given old new Unfit = new ≡ old

-- memory ran out, or the greatest number is the node's or the one heard
abbrev pub FailsBy : {M I A : Type 0} → HostSeen M I A → ℕ → CallFault → Type 0
FailsBy h heard f = (f ≡ fault.Memory) ⊎ ((f ≡ fault.Worn last_number) × (max h.node.number heard ≡ last_number))
