-- What entries put on a link, and what was sent of it.
use Rattle.std.specs.Prelude.{◌≡◌, ℕ, ◌+◌, ◌^◌, ◌<◌, ◌≤◌, ◌==◌, if◌then◌else◌, ◌⊎◌, List, [], ◌∷◌, ◌++◌, length, take}
use Rattle.std.specs.Prelude.{get_or, Option, Some, None, Result, IfOk, OnErr}
use Rattle.sat_link.specs.Ends.{Sender, rise}
use Rattle.sat_node.specs.declared.kept.Kept.{Kept}
use Rattle.sat_node.specs.declared.kept.Made.{Made}
use Rattle.sat_node.specs.declared.kept.Made.TheVariants as made
use Rattle.sat_node.specs.declared.kept.Body.{Body}
use Rattle.sat_node.specs.declared.kept.Body.TheVariants as body
use Rattle.sat_node.specs.declared.kept.Envelope.{Envelope}

-- the sending end of a link: its place in the list of wires, the link's own end, how many entries of the journal it
-- went through, and how many payloads of each gear and how many beats it sent
pub record OutSeen : Type 0 where
  pub place : ℕ
  pub link : Sender Envelope
  pub next : ℕ
  pub payloads : List ℕ
  pub beats : ℕ

-- a body on its way, under this number
abbrev pub envelope : ℕ → Body → Envelope
envelope number b = record { lamport = number; body = b }

-- what an entry of this number put on a link
pub record Putting : Type 0 where
  pub number : ℕ
  pub made : Made

-- the same from its parts, if there is something
abbrev pub putting : ℕ → Option Made → List Putting
putting n None = []
putting n (Some m) = record { number = n; made = m } ∷ []

-- what these entries put on a link, in order
abbrev pub puttings : {I A : Type 0} → (I → A → Option Made) → List (Kept I A) → List Putting
puttings of [] = []
puttings of (k ∷ ks) = putting k.lamport (of k.input k.answer) ++ puttings of ks

-- one for a payload of this gear, one for a beat
abbrev pub is_payload_of : ℕ → Made → ℕ
is_payload_of gear (made.Label label) = 0
is_payload_of gear (made.Payload g payload) = if g == gear then 1 else 0
is_payload_of gear (made.Beat beat) = 0

abbrev pub is_beat : Made → ℕ
is_beat (made.Label label) = 0
is_beat (made.Payload g payload) = 0
is_beat (made.Beat beat) = 1

-- how many payloads of this gear are among them, and how many beats
abbrev pub payloads_of : ℕ → List Putting → ℕ
payloads_of gear [] = 0
payloads_of gear (p ∷ ps) = is_payload_of gear p.made + payloads_of gear ps

abbrev pub beats_of : List Putting → ℕ
beats_of [] = 0
beats_of (p ∷ ps) = is_beat p.made + beats_of ps

-- what is put behind these, under its number: how many of its sort were put before it
abbrev pub numbered : List Putting → Made → Body
numbered before (made.Label label) = body.Label label
numbered before (made.Payload gear payload) = body.Payload gear (payloads_of gear before) payload
numbered before (made.Beat beat) = body.Beat (beats_of before) beat

-- these, as they travel behind others
abbrev pub sealed : List Putting → List Putting → List Envelope
sealed before [] = []
sealed before (p ∷ ps) = envelope p.number (numbered before p.made) ∷ sealed (before ++ p ∷ []) ps

-- what these entries put on a link, as it travels: each thing under the number of its entry, each payload and beat the
-- one of its own number
abbrev pub put_by : {I A : Type 0} → (I → A → Option Made) → List (Kept I A) → List Envelope
put_by of ks = sealed [] (puttings of ks)

-- the end counted these
pub record Counts (ps : List Putting) (o : OutSeen) : Type 0 where
  pub payloads : (gear : ℕ) → get_or o.payloads gear 0 ≡ payloads_of gear ps
  pub beats : o.beats ≡ beats_of ps

-- what was sent is what the entries before the end's place put there. What the entries from there on put there waits
pub record Sends {I A : Type 0} (of : I → A → Option Made) (ks : List (Kept I A)) (o : OutSeen) : Type 0 where
  pub next : o.next ≤ length ks
  pub sent : o.link.sent ≡ put_by of (take o.next ks)
  pub counts : Counts (puttings of (take o.next ks)) o

-- the end and its link are the same, and what the end counted
pub record SameEnd (p o : OutSeen) : Type 0 where
  pub place : o.place ≡ p.place
  pub wire : o.link.wire ≡ p.link.wire
  pub acked : o.link.acked ≡ p.link.acked
  pub next : o.next ≡ p.next

-- nothing but the room for counts differs
pub record SameOut (p o : OutSeen) : Type 0 where
  pub same : SameEnd p o
  pub sent : o.link.sent ≡ p.link.sent
  pub payloads : (gear : ℕ) → get_or o.payloads gear 0 ≡ get_or p.payloads gear 0
  pub beats : o.beats ≡ p.beats

-- a thing, as it travels behind what this end sent
abbrev pub next_body : OutSeen → Made → Body
next_body o (made.Label label) = body.Label label
next_body o (made.Payload gear payload) = body.Payload gear (get_or o.payloads gear 0) payload
next_body o (made.Beat beat) = body.Beat o.beats beat

-- it was sent under this number, and counted
pub record SentOne (number : ℕ) (m : Made) (p o : OutSeen) : Type 0 where
  pub same : SameEnd p o
  pub fulls : o.link.fulls ≡ p.link.fulls
  pub sent : o.link.sent ≡ p.link.sent ++ envelope number (next_body p m) ∷ []
  pub payloads : (gear : ℕ) → get_or o.payloads gear 0 ≡ get_or p.payloads gear 0 + is_payload_of gear m
  pub beats : o.beats ≡ p.beats + is_beat m

-- the same, if there is something
abbrev pub SentThing : ℕ → Option Made → OutSeen → OutSeen → Type 0
SentThing number None p o = o ≡ p
SentThing number (Some m) p o = SentOne number m p o

-- the next payload of each gear and the next beat have a number
abbrev pub HasNumbers : OutSeen → Type 0
HasNumbers o = ((gear : ℕ) → get_or o.payloads gear 0 + 1 < 2 ^ 64) × (o.beats + 1 < 2 ^ 64)

-- the link was found full
pub record FoundFull (p o : OutSeen) : Type 0 where
  pub same : SameOut p o
  pub fulls : o.link.fulls ≡ rise p.link.fulls

-- all was sent, or the link was found full, which was counted
abbrev pub Stopped : {I A : Type 0} → List (Kept I A) → OutSeen → OutSeen → Type 0
Stopped ks p o = ((o.next ≡ length ks) × (o.link.fulls ≡ p.link.fulls)) ⊎ (o.link.fulls ≡ rise p.link.fulls)

-- what a flush does to an end. It stops early only for want of memory
pub record Flushed {I A E : Type 0} (ks : List (Kept I A)) (result : Result Unit E) (p o : OutSeen) : Type 0 where
  pub place : o.place ≡ p.place
  pub wire : o.link.wire ≡ p.link.wire
  pub acked : o.link.acked ≡ p.link.acked
  pub next : p.next ≤ o.next
  pub stopped : IfOk result (λ _. Stopped ks p o)
  pub err : OnErr result (o.link.fulls ≡ p.link.fulls)
