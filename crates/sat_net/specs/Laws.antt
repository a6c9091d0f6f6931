-- What this crate proves of nets: each change of a net is what the history's links become, and its ways are the
-- history's.
use Rattle.std.specs.Prelude.{ℕ, ◌≡◌, ◌<◌, Bool, true, false, ◌==◌, List, [], Some, None, slice_get, if◌then◌else◌}
use Rattle.sat_label.specs.declared.label.Label.{Label}
use Rattle.sat_label.specs.declared.node.NodeId.{NodeId}
use Rattle.sat_label.specs.declared.node.NodeId.TheVariants.{Site, Serializer}
use Rattle.sat_sites.specs.Interested.{Interested, IsLabelOf, is_for}
use Rattle.sat_tree.specs.Shape.{TreeShape}
use Rattle.sat_tree.specs.Cut.{seat_of, is_edge, IsNode, IsTree}
use Rattle.sat_act.specs.Deployed.{Deployed}
use Rattle.sat_act.specs.Parts.{Handling, goes_beyond, seat_in}
use Rattle.sat_model.specs.Interests.{interest_of}
use Rattle.sat_model.specs.World.{nodes_for}
use Rattle.sat_serial.specs.Routes.{leads, routes}
use Rattle.sat_net.specs.Nets.{NetSeen, IsNet, MayHop, link_of, is_dead, fresh_net, after_send, after_hop, after_take}
use Rattle.sat_net.specs.Nets.{after_kill}
use Rattle.sat_net.specs.NetStands.{IsNetOf, StandsNet, handled_at, links_next}

-- ---- nets stay nets

-- a new net of a tree is one
abbrev pub TreesGiveNets : Type 0
TreesGiveNets = (t : TreeShape) → IsTree t → IsNet (fresh_net t)

-- what each change makes of a net is one
pub record StaysNet (n : NetSeen) : Type 0 where
  pub sent : (i : ℕ) (l : Label) → IsNet (after_send n i l)
  pub hopped : (a : Interested) (u : NodeId) (z : ℕ) (l : Label) → IsNet (after_hop n a u z l)
  pub taken : (j : ℕ) → IsNet (after_take n j)
  pub killed : (z : ℕ) → IsNet (after_kill n z)

-- a law: the links and serializers of an epoch stay well formed in each step
abbrev pub NetsStayNets : Type 0
NetsStayNets = (n : NetSeen) → IsNet n → StaysNet n

-- ---- what the changes of a net stand for

-- a new net stands for links with nothing on them, and for no serializer dead
abbrev pub NetsStart : Type 0
NetsStart = (t : TreeShape) → StandsNet (fresh_net t) (λ u v. []) (λ z. false)

-- a label that has a target beyond its site's edge, sent by the site
abbrev pub SendsGoUp : Type 0
SendsGoUp =
    (d : Deployed) (e : ℕ) (n : NetSeen) (a : Interested) (links : NodeId → NodeId → List Label) (dead : ℕ → Bool)
    (i : ℕ) (l : Label) →
    IsNetOf d e n → a ≡ interest_of d → StandsNet n links dead → i < d.sites
    → leads a n.tree (Site i) (Serializer (seat_of n.tree i)) l ≡ true →
    StandsNet (after_send n i l) (links_next d (Some (handled_at e (Site i) None l)) e links) dead

-- a label that has no target beyond its site's edge enters no link
abbrev pub OthersStayDown : Type 0
OthersStayDown =
    (d : Deployed) (e : ℕ) (n : NetSeen) (a : Interested) (links : NodeId → NodeId → List Label) (dead : ℕ → Bool)
    (i : ℕ) (l : Label) →
    IsNetOf d e n → a ≡ interest_of d → StandsNet n links dead → i < d.sites
    → leads a n.tree (Site i) (Serializer (seat_of n.tree i)) l ≡ false →
    StandsNet n (links_next d (Some (handled_at e (Site i) None l)) e links) dead

-- a label that a serializer took from a neighbour and handed on
abbrev pub HopsGoOn : Type 0
HopsGoOn =
    (d : Deployed) (e : ℕ) (n : NetSeen) (a : Interested) (links : NodeId → NodeId → List Label) (dead : ℕ → Bool)
    (u : NodeId) (z : ℕ) (l : Label) →
    IsNetOf d e n → a ≡ interest_of d → StandsNet n links dead → IsNode n.tree u
    → is_edge n.tree u (Serializer z) ≡ true →
    StandsNet (after_hop n a u z l) (links_next d (Some (handled_at e (Serializer z) (Some u) l)) e links) dead

-- a label that a site took from its serializer
abbrev pub SitesTake : Type 0
SitesTake =
    (d : Deployed) (e : ℕ) (n : NetSeen) (links : NodeId → NodeId → List Label) (dead : ℕ → Bool) (j : ℕ) (l : Label) →
    IsNetOf d e n → StandsNet n links dead → j < d.sites →
    StandsNet (after_take n j)
    (links_next d (Some (handled_at e (Site j) (Some (Serializer (seat_of n.tree j))) l)) e links) dead

-- a killed serializer is dead, and all links stay
abbrev pub KillsLeaveLinks : Type 0
KillsLeaveLinks = (n : NetSeen) (links : NodeId → NodeId → List Label) (dead : ℕ → Bool) (z : ℕ) →
    IsNet n → StandsNet n links dead → StandsNet (after_kill n z) links (λ y. if z == y then true else dead y)

-- a label that was handled in another epoch leaves the links of this one
abbrev pub OthersStay : Type 0
OthersStay =
    (d : Deployed) (e : ℕ) (n : NetSeen) (links : NodeId → NodeId → List Label) (dead : ℕ → Bool) (x : Handling) →
    IsNetOf d e n → StandsNet n links dead → (x.epoch == e) ≡ false → StandsNet n (links_next d (Some x) e links) dead

-- and so does an act that handles no label
abbrev pub RestStays : Type 0
RestStays = (d : Deployed) (e : ℕ) (n : NetSeen) (links : NodeId → NodeId → List Label) (dead : ℕ → Bool) →
    IsNetOf d e n → StandsNet n links dead → StandsNet n (links_next d None e links) dead

-- ---- what a call finds

-- a site finds what stands on the link to it in the history
abbrev pub SitesFind : Type 0
SitesFind = (d : Deployed) (e : ℕ) (n : NetSeen) (links : NodeId → NodeId → List Label) (dead : ℕ → Bool) (j : ℕ) →
    IsNetOf d e n → StandsNet n links dead → j < d.sites →
    link_of n (Serializer (seat_of n.tree j)) (Site j) ≡ links (Serializer (seat_of n.tree j)) (Site j)

-- a site's seat in the history is that of the net's tree
abbrev pub SeatsAreSeats : Type 0
SeatsAreSeats =
    (d : Deployed) (e : ℕ) (n : NetSeen) (j : ℕ) → IsNetOf d e n → seat_in d e j ≡ Some (Serializer (seat_of n.tree j))

-- a hop finds what stands on its link in the history, and its serializer dead where it is dead there
abbrev pub HopsFind : Type 0
HopsFind =
    (d : Deployed) (e : ℕ) (n : NetSeen) (links : NodeId → NodeId → List Label) (dead : ℕ → Bool) (u : NodeId) (z : ℕ) →
    IsNetOf d e n → StandsNet n links dead → IsNode n.tree u → is_edge n.tree u (Serializer z) ≡ true →
    (link_of n u (Serializer z) ≡ links u (Serializer z)) × (is_dead n z ≡ dead z)

-- a hop may be asked for where the oldest label on the history's link, if any, is one of the deployment with a target
-- beyond
abbrev pub HopsMayGo : Type 0
HopsMayGo =
    (d : Deployed) (e : ℕ) (n : NetSeen) (a : Interested) (links : NodeId → NodeId → List Label) (dead : ℕ → Bool)
    (u : NodeId) (z : ℕ) →
    IsNetOf d e n → a ≡ interest_of d → StandsNet n links dead → IsNode n.tree u
    → is_edge n.tree u (Serializer z) ≡ true →
    ((l : Label) → slice_get (links u (Serializer z)) 0 ≡ Some l
    → IsLabelOf a l × (goes_beyond d n.tree u (Serializer z) l ≡ true)) →
    MayHop n a u z

-- ---- the ways of labels

-- a label leads where the history sends it
abbrev pub LeadsAreTargets : Type 0
LeadsAreTargets = (d : Deployed) (a : Interested) (t : TreeShape) (u v : NodeId) (l : Label) → a ≡ interest_of d
    → leads a t u v l ≡ goes_beyond d t u v l

-- a serializer hands a label on to the nodes that the history names
abbrev pub RoutesAreTargets : Type 0
RoutesAreTargets = (d : Deployed) (a : Interested) (t : TreeShape) (u : NodeId) (z : ℕ) (l : Label) → a ≡ interest_of d
    → routes a t z u l ≡ nodes_for d t u z l

-- a label that is for another site than this one leads out of it
abbrev pub LabelsLeave : Type 0
LabelsLeave = (a : Interested) (t : TreeShape) (i z k : ℕ) (l : Label) → is_for a l i ≡ false → k < a.sites
    → is_for a l k ≡ true →
    leads a t (Site i) (Serializer z) l ≡ true

-- a label that is for no site leads nowhere
abbrev pub LabelsStay : Type 0
LabelsStay = (a : Interested) (t : TreeShape) (u v : NodeId) (l : Label)
    → ((k : ℕ) → k < a.sites → is_for a l k ≡ true → ⊥) → leads a t u v l ≡ false
