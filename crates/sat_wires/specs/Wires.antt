-- What contracts see of the links of a deployment, and of nodes that were just made.
use Rattle.std.specs.Prelude.{ℕ, ◌≡◌, List, [], None}
use Rattle.atomic_table.specs.Seated.{TableId}
use Rattle.sat_act.specs.Deployed.{Deployed}
use Rattle.sat_link.specs.Ends.{Sender, Receiver, capacity_of}
use Rattle.sat_node.specs.declared.kept.Envelope.{Envelope}
use Rattle.sat_node.specs.Puts.{OutSeen}
use Rattle.sat_node.specs.Links.{Each, HeldSeen, InSeen}

-- the deployment that they were made for, and the wire of each of its links
pub record WiresSeen : Type 0 where
  pub deployment : Deployed
  pub wires : List TableId

-- each of these holds so many messages
abbrev pub HaveRoom : ℕ → List TableId → Type 0
HaveRoom capacity wires = Each wires (λ _ wire. capacity_of wire ≡ capacity)

abbrev pub wire_in : Sender Envelope → TableId
wire_in l = l.wire

abbrev pub wire_out : Receiver Envelope → TableId
wire_out l = l.wire

-- links through which nothing went
abbrev pub NothingSent : List (Sender Envelope) → Type 0
NothingSent ls = Each ls (λ _ l. l.sent ≡ [])

abbrev pub NothingReceived : List (Receiver Envelope) → Type 0
NothingReceived ls = Each ls (λ _ l. l.received ≡ [])

-- an end at which nothing was sent, and one at which nothing came
pub record IsFreshOut (o : OutSeen) : Type 0 where
  pub sent : o.link.sent ≡ []
  pub next : o.next ≡ 0
  pub payloads : o.payloads ≡ []
  pub beats : o.beats ≡ 0

pub record IsFreshIn (i : InSeen) : Type 0 where
  pub received : i.link.received ≡ []
  pub front : i.front ≡ None

-- a node with an empty journal, whose links carried nothing
pub record IsNew {M I A : Type 0} (h : HeldSeen M I A) : Type 0 where
  pub entries : h.node.entries ≡ []
  pub number : h.node.number ≡ 0
  pub outs : Each h.outs (λ _ o. IsFreshOut o)
  pub ins : Each h.ins (λ _ i. IsFreshIn i)

-- each node is new: nothing was done at it
abbrev pub AllNew : {M I A : Type 0} → List (HeldSeen M I A) → Type 0
AllNew hs = Each hs (λ _ h. IsNew h)
