-- What entries put on a link, as messages with numbers, and how far a cursor went through them.
use Rattle.std.specs.Prelude.{◌≡◌, ℕ, ◌+◌, ◌^◌, ◌<◌, ◌≤◌, List, [], ◌∷◌, ◌++◌, length, take, get_or, Option, Some, None}
use Rattle.sat_node.specs.declared.kept.Kept.{Kept}
use Rattle.sat_node.specs.declared.kept.Made.{Made}
use Rattle.sat_node.specs.declared.kept.Made.TheVariants as made
use Rattle.sat_node.specs.declared.kept.Body.{Body}
use Rattle.sat_node.specs.declared.kept.Body.TheVariants as body
use Rattle.sat_node.specs.Puts.{envelope, Putting, puttings, numbered, is_payload_of, is_beat, payloads_of, beats_of}
use Rattle.sat_message.specs.declared.message.Message.{Message}

abbrev pub is_label : Made → ℕ
is_label (made.Label l) = 1
is_label (made.Payload g p) = 0
is_label (made.Beat b) = 0

-- how many labels are among these
abbrev pub labels_of : List Putting → ℕ
labels_of [] = 0
labels_of (p ∷ ps) = is_label p.made + labels_of ps

-- what is put on a link behind these, as a message: its number is how many labels were put there before it
abbrev pub message_of : List Putting → Putting → Message
message_of before p = record { number = labels_of before; sent = envelope p.number (numbered before p.made) }

-- ---- a cursor

-- how many entries of the journal it went through, and how many labels, payloads of each gear and beats it counted
pub record CursorSeen : Type 0 where
  pub next : ℕ
  pub labels : ℕ
  pub payloads : List ℕ
  pub beats : ℕ

-- it counted these
pub record HasCounted (ps : List Putting) (c : CursorSeen) : Type 0 where
  pub labels : c.labels ≡ labels_of ps
  pub payloads : (gear : ℕ) → get_or c.payloads gear 0 ≡ payloads_of gear ps
  pub beats : c.beats ≡ beats_of ps

-- what the first n entries put
abbrev pub put_before : {I A : Type 0} → (I → A → Option Made) → List (Kept I A) → ℕ → List Putting
put_before of ks n = puttings of (take n ks)

-- it counted what the entries that it went through put
pub record IsAt {I A : Type 0} (of : I → A → Option Made) (ks : List (Kept I A)) (c : CursorSeen) : Type 0 where
  pub next : c.next ≤ length ks
  pub counted : HasCounted (put_before of ks c.next) c

-- from place a of a journal to place b one thing was put, which is this message
abbrev pub GivesOne : {I A : Type 0} → (I → A → Option Made) → List (Kept I A) → ℕ → ℕ → Message → Type 0
GivesOne of ks a b m =
    (p : Putting) × (put_before of ks b ≡ put_before of ks a ++ p ∷ []) × (m ≡ message_of (put_before of ks a) p)

-- from place a on nothing is put, and b is the end
abbrev pub EndsAt : {I A : Type 0} → (I → A → Option Made) → List (Kept I A) → ℕ → ℕ → Type 0
EndsAt of ks a b = (put_before of ks b ≡ put_before of ks a) × (b ≡ length ks)

-- what a journal gives next from place a, and b is the place behind it
abbrev pub Gives : {I A : Type 0} → (I → A → Option Made) → List (Kept I A) → ℕ → ℕ → Option Message → Type 0
Gives of ks a b None = EndsAt of ks a b
Gives of ks a b (Some m) = GivesOne of ks a b m

-- ---- its parts

-- a thing behind what was counted, as a message
abbrev pub next_body : CursorSeen → Made → Body
next_body c (made.Label l) = body.Label l
next_body c (made.Payload gear p) = body.Payload gear (get_or c.payloads gear 0) p
next_body c (made.Beat b) = body.Beat c.beats b

abbrev pub next_message : CursorSeen → ℕ → Made → Message
next_message c number m = record { number = c.labels; sent = envelope number (next_body c m) }

-- one thing more was counted
pub record CountsOne (m : Made) (old new : CursorSeen) : Type 0 where
  pub next : new.next ≡ old.next
  pub labels : new.labels ≡ old.labels + is_label m
  pub payloads : (gear : ℕ) → get_or new.payloads gear 0 ≡ get_or old.payloads gear 0 + is_payload_of gear m
  pub beats : new.beats ≡ old.beats + is_beat m

-- nothing but room differs
pub record SameCounts (old new : CursorSeen) : Type 0 where
  pub next : new.next ≡ old.next
  pub labels : new.labels ≡ old.labels
  pub payloads : (gear : ℕ) → get_or new.payloads gear 0 ≡ get_or old.payloads gear 0
  pub beats : new.beats ≡ old.beats

-- a thing, if there is one, was counted, and this is the message
abbrev pub CountsThing : ℕ → Option Made → Option Message → CursorSeen → CursorSeen → Type 0
CountsThing number None found old new = (found ≡ None) × (new ≡ old)
CountsThing number (Some m) found old new = (found ≡ Some (next_message old number m)) × CountsOne m old new

-- the next of each sort has a number
abbrev pub HasNumbers : CursorSeen → Type 0
HasNumbers c = ((gear : ℕ) → get_or c.payloads gear 0 + 1 < 2 ^ 64) × (c.labels + 1 < 2 ^ 64) × (c.beats + 1 < 2 ^ 64)

-- the entry at place a puts nothing, and b is the place behind it
pub record Passes {I A : Type 0} (of : I → A → Option Made) (ks : List (Kept I A)) (a b : ℕ)
    (found : Option Message) : Type 0 where
  pub next : b ≡ a + 1
  pub within : a < length ks
  pub same : put_before of ks b ≡ put_before of ks a
  pub none : found ≡ None
