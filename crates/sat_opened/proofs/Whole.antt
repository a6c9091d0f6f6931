-- The journals of all hosts fit, and so do those of all opened nodes.
use Rattle.std.proofs.Common.{◌≡◌, ℕ, true, false, List, Some, slice_get, sym, ap, ◌∙◌, subst, inl, inr}
use Rattle.sat_label.specs.declared.node.NodeId.{NodeId}
use Rattle.sat_label.specs.declared.node.NodeId.TheVariants.{Site, Serializer}
use Rattle.sat_label.specs.declared.node.NodeName.TheVariants as named
use Rattle.sat_tree.specs.Shape.{TreeShape}
use Rattle.sat_tree.specs.Cut.{is_edge}
use Rattle.sat_act.proofs.Valid.{is_valid}
use Rattle.sat_act.specs.Deployed.{Deployed}
use Rattle.sat_act.specs.Limits.{IsDeployment}
use Rattle.sat_act.specs.Parts.{tree_of}
use Rattle.sat_net.proofs.Edges.{no-edge}
use Rattle.sat_node.specs.declared.kept.Kept.{Kept as Line}
use Rattle.sat_node.specs.Meanings.{Meaning}
use Rattle.sat_node.specs.Puts.{OutSeen}
use Rattle.sat_node.specs.Links.{HeldSeen, InSeen, Each, out_places, in_places}
use Rattle.sat_node.specs.Opened.{AgreeEnds, AgreeOut, AgreeNodes, AgreeRow, AgreeAll, AgreeWithin}
use Rattle.sat_machines.specs.Acts.{ActSeen}
use Rattle.sat_machines.specs.Sites.{site_meaning}
use Rattle.sat_machines.specs.Serials.{serial_meaning}
use Rattle.sat_machines.specs.declared.site_answer.SiteAnswer.{SiteAnswer}
use Rattle.sat_machines.specs.declared.serial_act.SerialAct.{SerialAct}
use Rattle.sat_machines.specs.declared.serial_act.SerialAnswer.{SerialAnswer}
use Rattle.sat_stitch.specs.Kept.{Kept, marks}
use Rattle.sat_stitch.specs.Places.{Place, AtSite, AtSerializer, InSession, node_place, Session}
use Rattle.sat_stitch.specs.Nodes.{put_on, took_from}
use Rattle.sat_stitch.specs.Fit.{IsHanded, Fit}
use Rattle.sat_stitch.proofs.Merges.{merges-run, merges-good}
use Rattle.sat_opened.specs.Keeping.{site_kept, serial_kept, newest}
use Rattle.sat_opened.specs.Opened.{IsOpened, entries_at, lists_of}
use Rattle.sat_opened.specs.Fits.{FitsPlace, FitsNodes, FitsSessions}
use Rattle.sat_opened.specs.Laws.{OpenedFit, FitsJoin, OpenedAreRuns}
use Rattle.sat_opened.specs.Delivered.{DeliveredTo, DeliveredAll, DeliveredWithin}
use Rattle.sat_opened.specs.Hosts.{IsHost, AllHosts, HostsFit, HostsJoin, HostsAreRuns, HostsAreGood, OpenedAreHosts}
use Rattle.sat_opened.proofs.Found.{look-up}
use Rattle.sat_opened.proofs.Handings.{get-mapped}
use Rattle.sat_opened.proofs.SiteKept.{site-fits}
use Rattle.sat_opened.proofs.SerialKept.{nothing-fits}
use Rattle.sat_opened.proofs.Deliveries.{handed-delivered}
use Rattle.sat_opened.proofs.SerialHosts.{serial-place, over-link}
use Rattle.sat_opened.proofs.Links.{SiteAt, site-at, serial-hosts, up-link, down-link}
use Rattle.sat_opened.proofs.Bulks.{payloads, beats}

module _ {M K : Type 0} (d : Deployed) (sites : List (HeldSeen M ActSeen SiteAnswer)) (serials : List (HeldSeen K SerialAct SerialAnswer)) (dep : IsDeployment d) (all : AllHosts d sites serials) where
  site-place : (i : ℕ) → FitsPlace d (AtSite i) (newest (site_kept i) (entries_at (named.Site i) sites))
  site-place i = elim (look-up (named.Site i) sites) [
    | inr none ↦ subst (λ (ls : List (Line ActSeen SiteAnswer)). FitsPlace d (AtSite i) (newest (site_kept i) ls)) (sym none) (nothing-fits d (AtSite i))
    | inl f ↦
        let s : SiteAt d sites serials dep all i = site-at d sites serials dep all i f in
        subst (λ (ls : List (Line ActSeen SiteAnswer)). FitsPlace d (AtSite i) (newest (site_kept i) ls)) (sym s.found.entries_are)
        (site-fits d i s.found.held.node.entries s.inside s.runs s.host.rises s.host.standing)
  ]

  module _ (alone : ℕ → List Kept) where
    abbrev lists : Place → List Kept
    lists = lists_of sites serials alone

    links : (e : ℕ) (t : TreeShape) (u v : NodeId) → tree_of d e ≡ Some t → is_edge t u v ≡ true → IsHanded (marks (took_from d e u v) (lists (node_place e v))) (marks (put_on d e t u v) (lists (node_place e u)))
    links e t (Site i) (Site j) tree edge = absurd (let none : is_edge t (Site i) (Site j) ≡ false = no-edge t i j in cc)
    links e t (Site i) (Serializer z) tree edge = up-link d sites serials dep all e t tree i z edge
    links e t (Serializer z) (Site i) tree edge = down-link d sites serials dep all e t tree i z edge
    links e t (Serializer y) (Serializer z) tree edge = over-link d serials (serial-hosts d sites serials all) dep e t tree y z edge

    pub fits : FitsNodes d lists
    fits = record {
      sites = site-place;
      serials = serial-place d serials (serial-hosts d sites serials all);
      links = links;
      payloads = payloads d sites serials dep all alone;
      beats = beats d sites serials dep all alone;
    }

pub hosts_fit : HostsFit
hosts_fit d sites serials dep all alone = fits d sites serials dep all alone

-- ---- with sessions

module _ (d : Deployed) (lists : Place → List Kept) (sessions : Session → List Kept) (nodes : FitsNodes d lists) (clients : FitsSessions d lists sessions) where
  at-place : (p : Place) → FitsPlace d p (lists p)
  at-place (AtSite i) = nodes.sites i
  at-place (AtSerializer e z) = nodes.serials e z
  at-place (InSession c) = clients.alone c

  joined : Fit d lists sessions
  joined = record {
    rising = λ p. (at-place p).rising;
    placed = λ p. (at-place p).placed;
    ranges = λ p. (at-place p).ranges;
    answers = λ p. (at-place p).answers;
    links = nodes.links;
    payloads = nodes.payloads;
    beats = nodes.beats;
    kept = clients.kept;
    known = clients.known;
    standing = λ p. (at-place p).standing;
  }

pub fits_join : FitsJoin
fits_join d lists sessions nodes clients = joined d lists sessions nodes clients

pub hosts_join : HostsJoin
hosts_join d sites serials dep all alone sessions clients = fits_join d (lists_of sites serials alone) sessions (hosts_fit d sites serials dep all alone) clients

pub hosts_are_runs : HostsAreRuns
hosts_are_runs d sites serials dep hosts alone sessions all clients merge =
    merges-run d (lists_of sites serials alone) sessions all (is_valid d dep) (hosts_join d sites serials dep hosts alone sessions clients) merge

pub hosts_are_good : HostsAreGood
hosts_are_good d sites serials dep hosts alone sessions all trees clients merge =
    merges-good d (lists_of sites serials alone) sessions all (is_valid d dep) trees (hosts_join d sites serials dep hosts alone sessions clients) merge

-- ---- nodes whose links keep order

delivers : {S T M K I A J B : Type 0} (m : Meaning S I A) (n : Meaning T J B) (sender : HeldSeen M I A) (receiver : HeldSeen K J B) → out_places sender.outs ≡ m.outs sender.node.name → in_places receiver.ins ≡ n.ins receiver.node.name → AgreeNodes m n sender receiver → DeliveredTo m n sender receiver
unfolding AgreeNodes AgreeOut AgreeEnds
delivers m n sender receiver outs ins agree k j place out into =
    let o : (x : OutSeen) × (slice_get sender.outs k ≡ Some x) × (x.place ≡ place) = get-mapped (λ (x : OutSeen). x.place) sender.outs k place (ap (λ (ps : List ℕ). slice_get ps k) outs ∙ out) in
    let i : (x : InSeen) × (slice_get receiver.ins j ≡ Some x) × (x.place ≡ place) = get-mapped (λ (x : InSeen). x.place) receiver.ins j place (ap (λ (ps : List ℕ). slice_get ps j) ins ∙ into) in
    handed-delivered _ _ (agree k j o.0 i.0 o.1 i.1 (o.2 ∙ sym i.2))

pub delivers-within : {S M I A : Type 0} (m : Meaning S I A) (nodes : List (HeldSeen M I A)) → Each nodes (λ _ h. IsOpened m h) → AgreeWithin m nodes → DeliveredWithin m nodes
unfolding AgreeWithin
delivers-within m nodes each agree a b sender receiver apart one two = delivers m m sender receiver (each a sender one).tied.outs (each b receiver two).tied.ins (agree a b sender receiver apart one two)

pub delivers-all : {S T M K I A J B : Type 0} (m : Meaning S I A) (n : Meaning T J B) (senders : List (HeldSeen M I A)) (receivers : List (HeldSeen K J B)) → Each senders (λ _ h. IsOpened m h) → Each receivers (λ _ h. IsOpened n h) → AgreeAll m n senders receivers → DeliveredAll m n senders receivers
unfolding AgreeAll AgreeRow
delivers-all m n senders receivers each all agree a b sender receiver one two = delivers m n sender receiver (each a sender one).tied.outs (all b receiver two).tied.ins (agree a sender one b receiver two)

pub is-host : {S M I A : Type 0} (m : Meaning S I A) (h : HeldSeen M I A) → IsOpened m h → IsHost m h
is-host m h o = record { runs = o.runs; rises = o.rises; standing = o.tied.standing }

pub opened_are_hosts : OpenedAreHosts
opened_are_hosts d sites serials all = record {
  all_sites = all.all_sites;
  all_serials = all.all_serials;
  each_site = λ k h at. is-host (site_meaning d) h (all.each_site k h at);
  each_serial = λ k h at. is-host (serial_meaning d) h (all.each_serial k h at);
  between_sites = delivers-within (site_meaning d) sites all.each_site all.between_sites;
  between_serials = delivers-within (serial_meaning d) serials all.each_serial all.between_serials;
  from_sites = delivers-all (site_meaning d) (serial_meaning d) sites serials all.each_site all.each_serial all.from_sites;
  from_serials = delivers-all (serial_meaning d) (site_meaning d) serials sites all.each_serial all.each_site all.from_serials;
}

pub opened_fit : OpenedFit
opened_fit d sites serials dep all alone = hosts_fit d sites serials dep (opened_are_hosts d sites serials all) alone

pub opened_are_runs : OpenedAreRuns
opened_are_runs d sites serials alone sessions all dep opened clients merge = hosts_are_runs d sites serials dep (opened_are_hosts d sites serials opened) alone sessions all clients merge
