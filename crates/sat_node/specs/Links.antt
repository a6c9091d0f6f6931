-- What contracts see of a node's receiving ends, what its entries took there, and what ties a journal to its links.
use Rattle.std.specs.Prelude.{◌≡◌, ◌≢◌, ℕ, ◌<◌, ◌⊎◌, Bool, true, false, List, [], ◌∷◌, ◌++◌, map, length, Option, Some}
use Rattle.std.specs.Prelude.{None, MatchOption, MatchBool, slice_get}
use Rattle.sat_link.specs.Ends.{Receiver, rise}
use Rattle.sat_node.specs.declared.kept.Kept.{Kept}
use Rattle.sat_node.specs.declared.kept.Body.{Body}
use Rattle.sat_node.specs.declared.kept.Body.TheVariants as body
use Rattle.sat_node.specs.declared.kept.Envelope.{Envelope}
use Rattle.sat_node.specs.Meanings.{Meaning, replay}
use Rattle.sat_node.specs.Seen.{NodeSeen}
use Rattle.sat_node.specs.Puts.{OutSeen, Sends, envelope}

-- the receiving end of a link: its place in the list of wires, the link's own end, and the envelope that was popped and
-- not yet taken, if any
pub record InSeen : Type 0 where
  pub place : ℕ
  pub link : Receiver Envelope
  pub front : Option Envelope

-- a node with its link ends
pub record HeldSeen (M I A : Type 0) : Type 0 where
  pub node : NodeSeen M I A
  pub outs : List OutSeen
  pub ins : List InSeen

-- an envelope, if there is one, as a list
abbrev pub front_list : Option Envelope → List Envelope
front_list None = []
front_list (Some e) = e ∷ []

-- the body, if any, under this number
abbrev pub onto : ℕ → Option Body → List Envelope
onto number None = []
onto number (Some b) = envelope number b ∷ []

-- what these entries took from a link, each under its entry's number
abbrev pub takings : {I A : Type 0} → (I → A → Option Body) → List (Kept I A) → List Envelope
takings of [] = []
takings of (k ∷ ks) = onto k.lamport (of k.input k.answer) ++ takings of ks

-- a payload and a beat may be passed over; a label never is
abbrev pub may_pass : Body → Bool
may_pass (body.Label label) = false
may_pass (body.Payload gear number payload) = true
may_pass (body.Beat number beat) = true

-- what was taken (first) is what came (second), in order, but for what was passed over; each was taken under a number
-- above its envelope's
abbrev pub Passes : List Envelope → List Envelope → Type 0
Passes [] [] = Unit {0}
Passes (t ∷ ts) [] = ⊥
Passes [] (e ∷ es) = (may_pass e.body ≡ true) × Passes [] es
Passes (t ∷ ts) (e ∷ es) =
    ((t.body ≡ e.body) × (e.lamport < t.lamport) × Passes ts es) ⊎ ((may_pass e.body ≡ true) × Passes (t ∷ ts) es)

-- what was received is what entries took or passed over, and then the front, if there is one
abbrev pub Took : List Envelope → InSeen → Type 0
Took took i = (before : List Envelope) × (i.link.received ≡ before ++ front_list i.front) × Passes took before

-- what entries took is of the first of what others put
abbrev pub Handed : List Envelope → List Envelope → Type 0
Handed took put = (before : List Envelope) × (rest : List Envelope) × (put ≡ before ++ rest) × Passes took before

-- of each member, by its number
abbrev pub Each : {X : Type 0} → List X → (ℕ → X → Type 0) → Type 0
Each {X} xs P = (k : ℕ) (x : X) → slice_get xs k ≡ Some x → P k x

-- there are as many as before, and each new member comes from the old one of its number; the one of this number changed
-- so, and no other did
abbrev pub OnlyAt : {X : Type 0} → ℕ → (X → X → Type 0) → List X → List X → Type 0
OnlyAt {X} link R old new =
    (length new ≡ length old) × ((k : ℕ) (y : X) → slice_get new k ≡ Some y
    → (x : X) × (slice_get old k ≡ Some x) × ((k ≢ link → y ≡ x) × (k ≡ link → R x y)))

-- there are as many as before, and each new member comes from the old one of its number and stands so to it
abbrev pub Both : {X : Type 0} → (ℕ → X → X → Type 0) → List X → List X → Type 0
Both {X} R old new = (length new ≡ length old)
    × ((k : ℕ) (y : X) → slice_get new k ≡ Some y → (x : X) × (slice_get old k ≡ Some x) × R k x y)

-- the places of ends in the list of wires
abbrev pub out_places : List OutSeen → List ℕ
out_places outs = map (λ o. o.place) outs

abbrev pub in_places : List InSeen → List ℕ
in_places ins = map (λ i. i.place) ins

-- what ties a journal to its links: what was sent on each outgoing one is what the entries put there; what was received
-- on each incoming one is what they took; all entries stand; and the ends are those of a node of this name
pub record Tied {S M I A : Type 0} (m : Meaning S I A) (h : HeldSeen M I A) : Type 0 where
  pub sending : Each h.outs (λ k o. Sends (m.puts h.node.name k) h.node.entries o)
  pub receiving : Each h.ins (λ k i. Took (takings (m.takes h.node.name k) h.node.entries) i)
  pub standing : Each h.node.entries (λ _ k. m.stands k.input k.answer ≡ true)
  pub outs : out_places h.outs ≡ m.outs h.node.name
  pub ins : in_places h.ins ≡ m.ins h.node.name

-- the front of the link of this number, if there is one
abbrev pub kept_front : Option InSeen → Option Envelope
kept_front None = None
kept_front (Some i) = i.front

-- the message at the front of a link, if one is known to stand there
abbrev pub front_at : List InSeen → ℕ → Option Envelope
front_at ins link = kept_front (slice_get ins link)

-- a front's number, 0 where there is none
abbrev pub number_of : Option Envelope → ℕ
number_of None = 0
number_of (Some e) = e.lamport

-- each answer that the machine has for this input stands, and it takes nothing from a link
pub record IsLocal {S M I A : Type 0} (m : Meaning S I A) (node : NodeSeen M I A) (input : I) : Type 0 where
  pub stands : (a : A) → m.answers node.name (replay m node.name node.entries) input a → m.stands input a ≡ true
  pub takes : (a : A) (k : ℕ) → m.answers node.name (replay m node.name node.entries) input a
      → m.takes node.name k input a ≡ None

-- each answer that the machine has for this input stands, and it takes this from this link and nothing from another
pub record IsOf {S M I A : Type 0} (m : Meaning S I A) (node : NodeSeen M I A) (link : ℕ) (b : Body)
    (input : I) : Type 0 where
  pub stands : (a : A) → m.answers node.name (replay m node.name node.entries) input a → m.stands input a ≡ true
  pub takes : (a : A) → m.answers node.name (replay m node.name node.entries) input a
      → m.takes node.name link input a ≡ Some b
  pub others : (a : A) (k : ℕ) → m.answers node.name (replay m node.name node.entries) input a → k ≢ link
      → m.takes node.name k input a ≡ None

-- what a pop answers: the envelope, which is one more of what was received, or None where the link was empty, which is
-- counted
abbrev pub Popped : Option Envelope → Receiver Envelope → Receiver Envelope → Type 0
Popped None j i = (i.wire ≡ j.wire) × (i.told ≡ j.told) × (i.received ≡ j.received) × (i.empties ≡ rise j.empties)
Popped (Some e) j i =
    (i.wire ≡ j.wire) × (i.told ≡ j.told) × (i.received ≡ j.received ++ e ∷ []) × (i.empties ≡ j.empties)

-- a front that is kept stays, and nothing changes; else the front is what a pop gives
abbrev pub Pulled : InSeen → InSeen → Type 0
Pulled j i = MatchOption j.front ((i.place ≡ j.place) × Popped i.front j.link i.link) (λ _. i ≡ j)

-- there is no front any more, and nothing else changed
abbrev pub Cleared : InSeen → InSeen → Type 0
Cleared j i = i ≡ record j { front = None }

-- whether there is a front that may be passed over
abbrev pub passes : Option Envelope → Bool
passes None = false
passes (Some e) = may_pass e.body

-- a payload or a beat in front was passed over; else nothing changed
abbrev pub PassedOver : Bool → InSeen → InSeen → Type 0
PassedOver result j i = (result ≡ passes j.front) × MatchBool result (Cleared j i) (i ≡ j)
