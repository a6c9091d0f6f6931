-- Messages of a link, and what a host took of them.
use Rattle.std.specs.Prelude.{◌≡◌, ◌≢◌, ℕ, ◌+◌, ◌^◌, ◌<◌, ◌==◌, true, List, [], ◌∷◌, ◌++◌, Option, Some, map, get_or}
use Rattle.std.specs.Prelude.{slice_get, if◌then◌else◌}
use Rattle.sat_act.specs.Deployed.{Deployed}
use Rattle.sat_act.specs.Limits.{IsDeployment}
use Rattle.sat_label.specs.Words.{below}
use Rattle.sat_label.specs.declared.node.NodeName.{NodeName}
use Rattle.sat_label.specs.declared.node.NodeName.TheVariants as named
use Rattle.sat_node.specs.declared.kept.Kept.{Kept}
use Rattle.sat_node.specs.declared.kept.Made.{Made}
use Rattle.sat_node.specs.declared.kept.Body.{Body}
use Rattle.sat_node.specs.declared.kept.Body.TheVariants as body
use Rattle.sat_node.specs.declared.kept.Envelope.{Envelope}
use Rattle.sat_node.specs.Meanings.{Meaning, Runs, Rises}
use Rattle.sat_node.specs.Puts.{envelope, put_by}
use Rattle.sat_node.specs.Links.{HeldSeen, Each, takings}
use Rattle.sat_node.specs.Seen.{NodeSeen, SameNode}
use Rattle.sat_machines.specs.Acts.{ActSeen}
use Rattle.sat_machines.specs.Sites.{site_meaning, site_puts}
use Rattle.sat_machines.specs.Serials.{SerialSeen, serial_meaning, serial_puts}
use Rattle.sat_site.specs.Seen.{SiteSeen}
use Rattle.sat_machines.specs.declared.site_answer.SiteAnswer.{SiteAnswer}
use Rattle.sat_machines.specs.declared.serial_act.SerialAct.{SerialAct}
use Rattle.sat_machines.specs.declared.serial_act.SerialAnswer.{SerialAnswer}
use Rattle.sat_opened.specs.Opened.{serial_names}
use Rattle.sat_message.specs.declared.message.Message.{Message}
use Rattle.sat_message.specs.declared.message.Slip.{Slip}
use Rattle.sat_opened.specs.Delivered.{labels_in}
use Rattle.sat_opened.specs.Hosts.{HostsJoinOf, HostsRunOf, HostsGoodOf}

-- ---- the transport

-- what was put on a link has this, under this Lamport number; a label under this number of its own
abbrev pub WasPut : List Envelope → ℕ → ℕ → Body → Type 0
WasPut put number lamport (body.Label l) = slice_get (labels_in put) number ≡ Some (lamport, l)
WasPut put number lamport (body.Payload g n p) =
    (k : ℕ) × (slice_get put k ≡ Some (envelope lamport (body.Payload g n p)))
WasPut put number lamport (body.Beat n b) = (k : ℕ) × (slice_get put k ≡ Some (envelope lamport (body.Beat n b)))

-- a message was put on its link, with this number, this Lamport number and this body
abbrev pub IsSent : List Envelope → Message → Type 0
IsSent put m = WasPut put m.number m.sent.lamport m.sent.body

-- ---- the host

-- a label may be taken where its number is the wanted one
abbrev pub IsWanted : ℕ → ℕ → Body → Type 0
IsWanted wanted number (body.Label l) = number ≡ wanted
IsWanted wanted number (body.Payload g n p) = Unit {0}
IsWanted wanted number (body.Beat n b) = Unit {0}

-- there is a number behind a label's
abbrev pub IsBounded : ℕ → Body → Type 0
IsBounded number (body.Label l) = number + 1 < 2 ^ 64
IsBounded number (body.Payload g n p) = Unit {0}
IsBounded number (body.Beat n b) = Unit {0}

-- the number that is wanted behind what was taken
abbrev pub wanted_after : ℕ → Body → ℕ
wanted_after wanted (body.Label l) = wanted + 1
wanted_after wanted (body.Payload g n p) = wanted
wanted_after wanted (body.Beat n b) = wanted

-- an entry under a greater number took it
pub record TakenBy (wanted : ℕ) (t : Envelope) (s : Slip) : Type 0 where
  pub less : s.lamport < t.lamport
  pub next : IsWanted wanted s.number t.body

-- what entries took, one by one, each by its slip, where this number was wanted first
abbrev pub TookFrom : ℕ → List Envelope → List Slip → Type 0
TookFrom wanted [] [] = Unit {0}
TookFrom wanted [] (s ∷ ss) = ⊥
TookFrom wanted (t ∷ ts) [] = ⊥
TookFrom wanted (t ∷ ts) (s ∷ ss) = TakenBy wanted t s × TookFrom (wanted_after wanted t.body) ts ss

-- the number that is wanted behind all that was taken
abbrev pub wanted_behind : ℕ → List Envelope → ℕ
wanted_behind wanted [] = wanted
wanted_behind wanted (t ∷ ts) = wanted_behind (wanted_after wanted t.body) ts

abbrev pub slip : ℕ → ℕ → ℕ → Slip
slip link number lamport = record { link = link; number = number; lamport = lamport }

-- the slips of a link
abbrev pub on_link : ℕ → List Slip → List Slip
on_link j [] = []
on_link j (x ∷ xs) = if x.link == j then x ∷ on_link j xs else on_link j xs

-- the message that an entry took: the slip says its number and its sender's
abbrev pub message : Envelope → Slip → Message
message t s = record { number = s.number; sent = envelope s.lamport t.body }

abbrev pub messages : List Envelope → List Slip → List Message
messages [] ss = []
messages (t ∷ ts) [] = []
messages (t ∷ ts) (s ∷ ss) = message t s ∷ messages ts ss

-- a node with the slips of all messages that its entries took, in order, which label it wants next of each incoming
-- link, and through how many entries of its journal it went for each outgoing one
pub record HostSeen (M I A : Type 0) : Type 0 where
  pub node : NodeSeen M I A
  pub slips : List Slip
  pub wanted : List ℕ
  pub cursors : List ℕ

-- what is wanted of each link once this was taken from one
abbrev pub wanted_then : ℕ → Body → ℕ → ℕ → ℕ
wanted_then link b j n = if link == j then wanted_after n b else n

-- nothing but room differs
pub record SameHost {M I A : Type 0} (old new : HostSeen M I A) : Type 0 where
  pub node : SameNode old.node new.node
  pub slips : new.slips ≡ old.slips
  pub wanted : (j : ℕ) → get_or new.wanted j 0 ≡ get_or old.wanted j 0
  pub cursors : new.cursors ≡ old.cursors

-- what ties a host's journal to its slips
pub record Slipped {S M I A : Type 0} (m : Meaning S I A) (h : HostSeen M I A) : Type 0 where
  pub standing : Each h.node.entries (λ _ k. m.stands k.input k.answer ≡ true)
  pub took : (j : ℕ) → TookFrom 0 (takings (m.takes h.node.name j) h.node.entries) (on_link j h.slips)
  pub next : (j : ℕ) → get_or h.wanted j 0 ≡ wanted_behind 0 (takings (m.takes h.node.name j) h.node.entries)

-- what a host keeps true, whatever it is handed
pub record IsKept {S M I A : Type 0} (m : Meaning S I A) (h : HostSeen M I A) : Type 0 where
  pub runs : Runs m h.node.name h.node.entries
  pub rises : Rises 0 h.node.entries
  pub slipped : Slipped m h

-- the messages that it took from a link, in order
abbrev pub messages_on : {S M I A : Type 0} → Meaning S I A → HostSeen M I A → ℕ → List Message
messages_on m h j = messages (takings (m.takes h.node.name j) h.node.entries) (on_link j h.slips)

-- ---- all of it

abbrev pub host_name : {M I A : Type 0} → HostSeen M I A → NodeName
host_name h = h.node.name

abbrev pub held_of : {M I A : Type 0} → HostSeen M I A → HeldSeen M I A
held_of h = record { node = h.node; outs = []; ins = [] }

module _ {S T M K I A J B : Type 0} (m : Meaning S I A) (n : Meaning T J B) where
  -- what the receiver took from a link with the sender was put there by the sender's journal, with this number, Lamport
  -- number and body
  abbrev pub CarriedTo : HostSeen M I A → HostSeen K J B → Type 0
  CarriedTo sender receiver =
      (k j place : ℕ) → slice_get (m.outs sender.node.name) k ≡ Some place
      → slice_get (n.ins receiver.node.name) j ≡ Some place
      → Each (messages_on n receiver j) (λ _ x. IsSent (put_by (m.puts sender.node.name k) sender.node.entries) x)

  abbrev pub CarriedAll : List (HostSeen M I A) → List (HostSeen K J B) → Type 0
  CarriedAll senders receivers =
      (a b : ℕ) (sender : HostSeen M I A) (receiver : HostSeen K J B) → slice_get senders a ≡ Some sender
      → slice_get receivers b ≡ Some receiver → CarriedTo sender receiver

abbrev pub CarriedWithin : {S M I A : Type 0} → Meaning S I A → List (HostSeen M I A) → Type 0
CarriedWithin {S} {M} {I} {A} m nodes =
    (a b : ℕ) (sender receiver : HostSeen M I A) → a ≢ b → slice_get nodes a ≡ Some sender
    → slice_get nodes b ≡ Some receiver → CarriedTo m m sender receiver

abbrev pub SiteHost : Type 0
SiteHost = HostSeen SiteSeen ActSeen SiteAnswer

abbrev pub SerialHost : Type 0
SerialHost = HostSeen SerialSeen SerialAct SerialAnswer

-- the one thing that is asked of a transport: it makes nothing up
pub record Carried (d : Deployed) (sites : List SiteHost) (serials : List SerialHost) : Type 0 where
  pub between_sites : CarriedWithin (site_meaning d) sites
  pub between_serials : CarriedWithin (serial_meaning d) serials
  pub from_sites : CarriedAll (site_meaning d) (serial_meaning d) sites serials
  pub from_serials : CarriedAll (serial_meaning d) (site_meaning d) serials sites

-- each site and each serializer has one host, in order, and each host keeps what hosts keep
pub record AllKept (d : Deployed) (sites : List SiteHost) (serials : List SerialHost) : Type 0 where
  pub all_sites : map host_name sites ≡ map named.Site (below d.sites)
  pub all_serials : map host_name serials ≡ serial_names d
  pub each_site : Each sites (λ _ h. IsKept (site_meaning d) h)
  pub each_serial : Each serials (λ _ h. IsKept (serial_meaning d) h)

-- of hosts that keep what hosts keep, where the transport makes nothing up: with sessions that fit them, they are
-- kept lists that fit
abbrev pub StoresFit : Type 0
StoresFit = (d : Deployed) (sites : List SiteHost) (serials : List SerialHost) → IsDeployment d
    → AllKept d sites serials → Carried d sites serials → HostsJoinOf d (map held_of sites) (map held_of serials)

-- and these, merged, are one run
abbrev pub StoresAreRuns : Type 0
StoresAreRuns = (d : Deployed) (sites : List SiteHost) (serials : List SerialHost) → IsDeployment d
    → AllKept d sites serials → Carried d sites serials → HostsRunOf d (map held_of sites) (map held_of serials)

-- of which the five properties hold
abbrev pub StoresAreGood : Type 0
StoresAreGood = (d : Deployed) (sites : List SiteHost) (serials : List SerialHost) → IsDeployment d
    → AllKept d sites serials → Carried d sites serials → HostsGoodOf d (map held_of sites) (map held_of serials)

-- ---- one more

-- what fits what is wanted is one more that was taken
abbrev pub OneMore : Type 0
OneMore = (wanted : ℕ) (ts : List Envelope) (ss : List Slip) (t : Envelope) (s : Slip) → TookFrom wanted ts ss
    → TakenBy (wanted_behind wanted ts) t s → TookFrom wanted (ts ++ t ∷ []) (ss ++ s ∷ [])

-- what a journal sent it has sent also once it is longer
abbrev pub StaysSentBy : {I A : Type 0} → (I → A → Option Made) → Type 0
StaysSentBy {I} {A} of =
    (ks more : List (Kept I A)) (m : Message) → IsSent (put_by of ks) m → IsSent (put_by of (ks ++ more)) m

-- what a site or a serializer sent stays sent while it goes on
abbrev pub StaysSent : Type 0
StaysSent = ((name : NodeName) (link : ℕ) → StaysSentBy (site_puts name link))
    × ((link : ℕ) → StaysSentBy (λ (act : SerialAct) (a : SerialAnswer). serial_puts link a))
