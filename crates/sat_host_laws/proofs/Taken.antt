-- What hosts took of messages was delivered.
use Rattle.std.proofs.Common.{◌≡◌, ◌<◌, ℕ, ◌+◌, zero, suc, true, List, [], ◌∷◌, ◌++◌, map, Option, Some, slice_get, refl, sym, ap, ◌∙◌, subst, arith}
use Rattle.sat_label.specs.declared.label.Label.{Label}
use Rattle.sat_laws.proofs.Labels.{some_is}
use Rattle.sat_act.specs.Deployed.{Deployed}
use Rattle.sat_node.specs.declared.kept.Made.{Made}
use Rattle.sat_node.specs.declared.kept.Body.{Body}
use Rattle.sat_node.specs.declared.kept.Body.TheVariants as body
use Rattle.sat_node.specs.declared.kept.Envelope.{Envelope}
use Rattle.sat_node.specs.Meanings.{Meaning}
use Rattle.sat_node.specs.Puts.{envelope, put_by, puttings, sealed}
use Rattle.sat_node.specs.Links.{HeldSeen, Each, takings, may_pass}
use Rattle.sat_machines.specs.Sites.{site_meaning, site_puts}
use Rattle.sat_machines.specs.Serials.{serial_meaning, serial_puts}
use Rattle.sat_machines.specs.declared.serial_act.SerialAct.{SerialAct}
use Rattle.sat_machines.specs.declared.serial_act.SerialAnswer.{SerialAnswer}
use Rattle.sat_stitch.specs.Kept.{numbered}
use Rattle.sat_label.specs.declared.node.NodeName.{NodeName}
use Rattle.sat_opened.specs.Opened.{name_in}
use Rattle.sat_opened.proofs.Handings.{get-mapped}
use Rattle.sat_message.specs.declared.message.Message.{Message}
use Rattle.sat_message.specs.declared.message.Slip.{Slip}
use Rattle.sat_opened.specs.Delivered.{label_of, labels_in, IsOneOf, Delivered, DeliveredTo, DeliveredAll, DeliveredWithin}
use Rattle.sat_opened.specs.Hosts.{IsHost, AllHosts}
use Rattle.sat_host_laws.specs.Messages.{WasPut, IsSent, IsWanted, wanted_after, TookFrom, on_link, message, messages, HostSeen, IsKept, held_of, host_name, CarriedTo, CarriedAll, CarriedWithin, SiteHost, SerialHost, Carried, AllKept, StoresFit, StoresAreRuns, StoresAreGood, OneMore, StaysSent, StaysSentBy}
use Rattle.sat_opened.proofs.Deliveries.{labels-append, get-more}
use Rattle.sat_host_laws.proofs.Senders.{puttings-append, sealed-append}
use Rattle.sat_opened.proofs.Whole.{hosts_join, hosts_are_runs, hosts_are_good}

-- ---- one link

-- these labels are those that were put, from the one of this number on
abbrev Follows : List Envelope → ℕ → List (ℕ × Label) → Type 0
Follows put n took = (k a : ℕ) (l : Label) → slice_get took k ≡ Some (a, l) → (m : ℕ) × (slice_get (labels_in put) (n + k) ≡ Some (m, l)) × (m < a)

here : (n number : ℕ) → number ≡ n → n + 0 ≡ number
here n number e = omega arith

one-up : (n k : ℕ) → n + suc k ≡ (n + 1) + k
one-up n k = omega arith

from-none : (k : ℕ) → 0 + k ≡ k
from-none k = omega arith

one-label : (put : List Envelope) (n lamport number taken : ℕ) (b : Body) (rest : List (ℕ × Label)) → IsWanted n number b → WasPut put number lamport b → lamport < taken → Follows put (wanted_after n b) rest → Follows put n (numbered taken (label_of b) ++ rest)
one-label put n lamport number taken (body.Label x) rest e w less f zero a l at =
    let same : (taken, x) ≡ (a, l) = some_is (taken, x) (a, l) at in
    (lamport, ap (slice_get (labels_in put)) (here n number e) ∙ (w ∙ ap (λ (p : ℕ × Label). Some (lamport, p.1)) same), subst (λ (p : ℕ × Label). lamport < p.0) same less)
one-label put n lamport number taken (body.Label x) rest e w less f (suc k) a l at =
    let r : (m : ℕ) × (slice_get (labels_in put) ((n + 1) + k) ≡ Some (m, l)) × (m < a) = f k a l at in
    (r.0, ap (slice_get (labels_in put)) (one-up n k) ∙ r.1, r.2)
one-label put n lamport number taken (body.Payload g m p) rest e w less f k a l at = f k a l at
one-label put n lamport number taken (body.Beat m b) rest e w less f k a l at = f k a l at

-- a payload or a beat that was put is there
other-there : (put : List Envelope) (number lamport : ℕ) (b : Body) → may_pass b ≡ true → WasPut put number lamport b → (k : ℕ) × (slice_get put k ≡ Some (envelope lamport b))
other-there put number lamport (body.Label l) pass w = absurd (cc)
other-there put number lamport (body.Payload g n p) pass w = w
other-there put number lamport (body.Beat n b) pass w = w

rest-sent : (put : List Envelope) (m : Message) (ms : List Message) → Each (m ∷ ms) (λ _ x. IsSent put x) → Each ms (λ _ x. IsSent put x)
rest-sent put m ms s k x at = s (suc k) x at

took-labels : (put : List Envelope) (n : ℕ) (ts : List Envelope) (ss : List Slip) → TookFrom n ts ss → Each (messages ts ss) (λ _ x. IsSent put x) → Follows put n (labels_in ts)
took-labels put n [] [] h c = λ k a l at. absurd (cc)
took-labels put n [] (s ∷ ss) h c = absurd h
took-labels put n (t ∷ ts) [] h c = absurd h
took-labels put n (t ∷ ts) (s ∷ ss) h c =
    one-label put n s.lamport s.number t.lamport t.body (labels_in ts) h.0.next (c 0 (message t s) refl) h.0.less (took-labels put (wanted_after n t.body) ts ss h.1 (rest-sent put (message t s) (messages ts ss) c))

took-others : (put : List Envelope) (n : ℕ) (ts : List Envelope) (ss : List Slip) → TookFrom n ts ss → Each (messages ts ss) (λ _ x. IsSent put x) → (k : ℕ) (t : Envelope) → slice_get ts k ≡ Some t → may_pass t.body ≡ true → IsOneOf put t
took-others put n [] [] h c k t at pass = absurd (cc)
took-others put n [] (s ∷ ss) h c k t at pass = absurd h
took-others put n (x ∷ ts) [] h c k t at pass = absurd h
took-others put n (x ∷ ts) (s ∷ ss) h c zero t at pass =
    let same : x ≡ t = some_is x t at in
    subst (IsOneOf put) same
    (let there : (k : ℕ) × (slice_get put k ≡ Some (envelope s.lamport x.body)) = other-there put s.number s.lamport x.body (subst (λ (e : Envelope). may_pass e.body ≡ true) (sym same) pass) (c 0 (message x s) refl) in
    record { place = there.0; one = envelope s.lamport x.body; there = there.1; carries = (refl, h.0.less) })
took-others put n (x ∷ ts) (s ∷ ss) h c (suc k) t at pass = took-others put (wanted_after n x.body) ts ss h.1 (rest-sent put (message x s) (messages ts ss) c) k t at pass

pub took-delivered : (put took : List Envelope) (ss : List Slip) → TookFrom 0 took ss → Each (messages took ss) (λ _ x. IsSent put x) → Delivered took put
took-delivered put took ss h c = record {
  labels = λ k n l at. let r : (m : ℕ) × (slice_get (labels_in put) (0 + k) ≡ Some (m, l)) × (m < n) = took-labels put 0 took ss h c k n l at in (r.0, ap (slice_get (labels_in put)) (sym (from-none k)) ∙ r.1, r.2);
  others = took-others put 0 took ss h c;
}

pub one_more : OneMore
one_more wanted [] [] t s h a = (a, tt)
one_more wanted [] (x ∷ ss) t s h a = absurd h
one_more wanted (y ∷ ts) [] t s h a = absurd h
one_more wanted (y ∷ ts) (x ∷ ss) t s h a = (h.0, one_more (wanted_after wanted y.body) ts ss t s h.1 a)

put-stays : (put more : List Envelope) (number lamport : ℕ) (b : Body) → WasPut put number lamport b → WasPut (put ++ more) number lamport b
put-stays put more number lamport (body.Label l) w = ap (λ (ps : List (ℕ × Label)). slice_get ps number) (labels-append put more) ∙ get-more (labels_in put) (labels_in more) (lamport, l) number w
put-stays put more number lamport (body.Payload g n p) w = (w.0, get-more put more (envelope lamport (body.Payload g n p)) w.0 w.1)
put-stays put more number lamport (body.Beat n b) w = (w.0, get-more put more (envelope lamport (body.Beat n b)) w.0 w.1)

stays-by : {I A : Type 0} (of : I → A → Option Made) → StaysSentBy of
stays-by of ks more m s =
    subst (λ (es : List Envelope). IsSent es m) (sym (ap (sealed []) (puttings-append of ks more) ∙ sealed-append [] (puttings of ks) (puttings of more)))
    (put-stays (put_by of ks) (sealed (puttings of ks) (puttings of more)) m.number m.sent.lamport m.sent.body s)

pub stays_sent : StaysSent
stays_sent = (λ name link. stays-by (site_puts name link), λ link. stays-by (λ (act : SerialAct) (a : SerialAnswer). serial_puts link a))

-- ---- all links

module _ {S T M K I A J B : Type 0} (m : Meaning S I A) (n : Meaning T J B) where
  carried : (sender : HostSeen M I A) (receiver : HostSeen K J B) → IsKept n receiver → CarriedTo m n sender receiver → DeliveredTo m n (held_of sender) (held_of receiver)
  carried sender receiver kept c k j place out into =
      took-delivered (put_by (m.puts sender.node.name k) sender.node.entries) (takings (n.takes receiver.node.name j) receiver.node.entries) (on_link j receiver.slips) (kept.slipped.took j) (c k j place out into)

  carried-held : (sender : HostSeen M I A) (receiver : HostSeen K J B) (s : HeldSeen M I A) (r : HeldSeen K J B) → held_of sender ≡ s → held_of receiver ≡ r → DeliveredTo m n (held_of sender) (held_of receiver) → DeliveredTo m n s r
  carried-held sender receiver s r e f h = subst (λ (x : HeldSeen M I A). DeliveredTo m n x r) e (subst (λ (y : HeldSeen K J B). DeliveredTo m n (held_of sender) y) f h)

  carried-all : (senders : List (HostSeen M I A)) (receivers : List (HostSeen K J B)) → Each receivers (λ _ h. IsKept n h) → CarriedAll m n senders receivers → DeliveredAll m n (map held_of senders) (map held_of receivers)
  carried-all senders receivers kept c a b s r one two =
      let x : (h : HostSeen M I A) × (slice_get senders a ≡ Some h) × (held_of h ≡ s) = get-mapped held_of senders a s one in
      let y : (h : HostSeen K J B) × (slice_get receivers b ≡ Some h) × (held_of h ≡ r) = get-mapped held_of receivers b r two in
      carried-held x.0 y.0 s r x.2 y.2 (carried x.0 y.0 (kept b y.0 y.1) (c a b x.0 y.0 x.1 y.1))

carried-within : {S M I A : Type 0} (m : Meaning S I A) (nodes : List (HostSeen M I A)) → Each nodes (λ _ h. IsKept m h) → CarriedWithin m nodes → DeliveredWithin m (map held_of nodes)
carried-within {S} {M} {I} {A} m nodes kept c a b s r apart one two =
    let x : (h : HostSeen M I A) × (slice_get nodes a ≡ Some h) × (held_of h ≡ s) = get-mapped held_of nodes a s one in
    let y : (h : HostSeen M I A) × (slice_get nodes b ≡ Some h) × (held_of h ≡ r) = get-mapped held_of nodes b r two in
    carried-held m m x.0 y.0 s r x.2 y.2 (carried m m x.0 y.0 (kept b y.0 y.1) (c a b x.0 y.0 apart x.1 y.1))

all-hosts : {S M I A : Type 0} (m : Meaning S I A) (nodes : List (HostSeen M I A)) → Each nodes (λ _ h. IsKept m h) → Each (map held_of nodes) (λ _ h. IsHost m h)
all-hosts {S} {M} {I} {A} m nodes kept k s at =
    let x : (h : HostSeen M I A) × (slice_get nodes k ≡ Some h) × (held_of h ≡ s) = get-mapped held_of nodes k s at in
    let is : IsKept m x.0 = kept k x.0 x.1 in
    subst (λ (h : HeldSeen M I A). IsHost m h) x.2 (record { runs = is.runs; rises = is.rises; standing = is.slipped.standing })

names-held : {M I A : Type 0} (hs : List (HostSeen M I A)) → map name_in (map held_of hs) ≡ map host_name hs
names-held [] = refl
names-held (h ∷ hs) = ap (λ (ns : List NodeName). host_name h ∷ ns) (names-held hs)

pub stores-hosts : (d : Deployed) (sites : List SiteHost) (serials : List SerialHost) → AllKept d sites serials → Carried d sites serials → AllHosts d (map held_of sites) (map held_of serials)
stores-hosts d sites serials kept c = record {
  all_sites = names-held sites ∙ kept.all_sites;
  all_serials = names-held serials ∙ kept.all_serials;
  each_site = all-hosts (site_meaning d) sites kept.each_site;
  each_serial = all-hosts (serial_meaning d) serials kept.each_serial;
  between_sites = carried-within (site_meaning d) sites kept.each_site c.between_sites;
  between_serials = carried-within (serial_meaning d) serials kept.each_serial c.between_serials;
  from_sites = carried-all (site_meaning d) (serial_meaning d) sites serials kept.each_serial c.from_sites;
  from_serials = carried-all (serial_meaning d) (site_meaning d) serials sites kept.each_site c.from_serials;
}

pub stores_fit : StoresFit
stores_fit d sites serials dep kept c = hosts_join d (map held_of sites) (map held_of serials) dep (stores-hosts d sites serials kept c)

pub stores_are_runs : StoresAreRuns
stores_are_runs d sites serials dep kept c = hosts_are_runs d (map held_of sites) (map held_of serials) dep (stores-hosts d sites serials kept c)

pub stores_are_good : StoresAreGood
stores_are_good d sites serials dep kept c = hosts_are_good d (map held_of sites) (map held_of serials) dep (stores-hosts d sites serials kept c)
