-- The serializers and links of one tree, and what happens to them.
use Rattle.std.specs.Prelude.{ℕ, zero, suc, ◌≡◌, ◌+◌, Bool, true, false, List, [], ◌∷◌, ◌++◌, length, map, drop}
use Rattle.std.specs.Prelude.{replicate, get_or, slice_get, Some, None}
use Rattle.std.specs.List.{sum_by}
use Rattle.sat_label.specs.Members.{In}
use Rattle.sat_label.specs.declared.label.Label.{Label}
use Rattle.sat_label.specs.declared.node.NodeId.{NodeId}
use Rattle.sat_label.specs.declared.node.NodeId.TheVariants.{Site, Serializer}
use Rattle.sat_label.specs.Words.{below}
use Rattle.sat_sites.specs.Interested.{Interested, IsLabelOf}
use Rattle.sat_tree.specs.Shape.{TreeShape}
use Rattle.sat_tree.specs.Cut.{neighbours, seat_of, is_edge, IsNode, IsTree}
use Rattle.sat_serial.specs.Routes.{leads, routes}
use Rattle.sat_serial.specs.Outboxes.{SerializerSeen, fresh, outbox, with_box, after_handle, after_ship}

-- a tree; its serializers, in whose outboxes stands what goes to their neighbours; and what stands on the link from
-- each site to its serializer, the oldest first
pub record NetSeen : Type 0 where
  pub tree : TreeShape
  pub serializers : List SerializerSeen
  pub up : List (List Label)

-- what stands on the link from one node to another, the oldest first
abbrev pub link_of : NetSeen → NodeId → NodeId → List Label
link_of n (Site i) v = get_or n.up i []
link_of n (Serializer z) v = elim (slice_get n.serializers z) [ None ↦ [] | Some s ↦ outbox s v ]

-- ---- how many labels stand on its links

-- on those from sites
abbrev pub underway_up : NetSeen → ℕ
underway_up n = sum_by (λ i. length (link_of n (Site i) (Serializer (seat_of n.tree i)))) (below (length n.tree.seats))

-- on those from serializer z to its neighbours
abbrev pub underway_from : NetSeen → ℕ → ℕ
underway_from n z = sum_by (λ v. length (link_of n (Serializer z) v)) (neighbours n.tree z)

-- on those from serializers
abbrev pub underway_on : NetSeen → ℕ
underway_on n = sum_by (underway_from n) (below (length n.tree.parents))

-- on all: each edge of the tree is one of a site and its serializer, or of two serializers, each a neighbour of the
-- other
abbrev pub underway_in : NetSeen → ℕ
underway_in n = underway_up n + underway_on n

-- whether a serializer was killed
abbrev pub is_dead : NetSeen → ℕ → Bool
is_dead n z = elim (slice_get n.serializers z) [ None ↦ false | Some s ↦ s.killed ]

-- ---- what holds of every net

-- serializer z of the tree, with an outbox for each neighbour
pub record IsPlaced (t : TreeShape) (z : ℕ) (s : SerializerSeen) : Type 0 where
  pub tree : s.tree ≡ t
  pub number : s.number ≡ z
  pub each : length s.outboxes ≡ length (neighbours t z)

-- all serializers of the tree stand at their numbers, and each site has its link
pub record IsNet (n : NetSeen) : Type 0 where
  pub tree : IsTree n.tree
  pub serializers : length n.serializers ≡ length n.tree.parents
  pub placed : (z : ℕ) (s : SerializerSeen) → slice_get n.serializers z ≡ Some s → IsPlaced n.tree z s
  pub up : length n.up ≡ length n.tree.seats

-- ---- the changes

-- all serializers alive, and nothing on any link
abbrev pub fresh_net : TreeShape → NetSeen
fresh_net t =
    record { tree = t; serializers = map (fresh t) (below (length t.parents)); up = replicate (length t.seats) [] }

-- a list after a change of what stands at one place
abbrev pub change_at : {X : Type 0} → (X → X) → ℕ → List X → List X
change_at change place [] = []
change_at change zero (x ∷ xs) = change x ∷ xs
change_at change (suc place) (x ∷ xs) = x ∷ change_at change place xs

-- a label that site i sent stands last on its link
abbrev pub after_send : NetSeen → ℕ → Label → NetSeen
after_send n i l = record n { up = change_at (λ link. link ++ l ∷ []) i n.up }

-- serializer z has put copies of a label that came from u into the outboxes of the neighbours that it goes on to
abbrev pub after_copies : NetSeen → Interested → NodeId → ℕ → Label → NetSeen
after_copies n a u z l = record n { serializers = change_at (λ s. after_handle s a u l) z n.serializers }

-- the links from sites, without the oldest label of node u's, if u is a site
abbrev pub up_without : NodeId → List (List Label) → List (List Label)
up_without (Site i) up = change_at (λ link. drop 1 link) i up
up_without (Serializer z) up = up

-- the serializers, without the oldest label that node u has for v, if u is a serializer
abbrev pub shipped : NodeId → NodeId → List SerializerSeen → List SerializerSeen
shipped (Site i) v serializers = serializers
shipped (Serializer z) v serializers = change_at (λ s. after_ship s v) z serializers

-- the oldest label on the link from one node to another is gone
abbrev pub after_give : NetSeen → NodeId → NodeId → NetSeen
after_give n u v = record { tree = n.tree; serializers = shipped u v n.serializers; up = up_without u n.up }

-- a label has gone on through serializer z: copies of it stand where it goes on to, and it has left the link from u
abbrev pub after_hop : NetSeen → Interested → NodeId → ℕ → Label → NetSeen
after_hop n a u z l = after_give (after_copies n a u z l) u (Serializer z)

-- site j has taken the oldest label that its serializer has for it
abbrev pub after_take : NetSeen → ℕ → NetSeen
after_take n j = after_give n (Serializer (seat_of n.tree j)) (Site j)

-- serializer z is dead. What it had put on its links stays there
abbrev pub after_kill : NetSeen → ℕ → NetSeen
after_kill n z = record n { serializers = change_at (λ s. record s { killed = true }) z n.serializers }

-- ---- a hop

-- what a hop from u to serializer z asks for: an interest of the tree's sites, an edge of the tree, and, where the
-- serializer is alive, that the oldest label on the link has a target beyond the edge
pub record MayHop (n : NetSeen) (a : Interested) (u : NodeId) (z : ℕ) : Type 0 where
  pub sites : a.sites ≡ length n.tree.seats
  pub node : IsNode n.tree u
  pub edge : is_edge n.tree u (Serializer z) ≡ true
  pub label : (l : Label) → is_dead n z ≡ false → slice_get (link_of n u (Serializer z)) 0 ≡ Some l → IsLabelOf a l
  pub target : (l : Label) → is_dead n z ≡ false → slice_get (link_of n u (Serializer z)) 0 ≡ Some l
      → leads a n.tree u (Serializer z) l ≡ true

-- a hop from u found nothing on the link to serializer z, and changed nothing
pub record FindsNothing (n : NetSeen) (u : NodeId) (z : ℕ) (m : NetSeen) : Type 0 where
  pub front : slice_get (link_of n u (Serializer z)) 0 ≡ None
  pub after : m ≡ n

-- a hop from u took the oldest label on the link to serializer z, which handed it on to these nodes
pub record HandsOn (n : NetSeen) (a : Interested) (u : NodeId) (z : ℕ) (l : Label) (nodes : List NodeId)
    (m : NetSeen) : Type 0 where
  pub front : slice_get (link_of n u (Serializer z)) 0 ≡ Some l
  pub routed : nodes ≡ routes a n.tree z u l
  pub after : m ≡ after_hop n a u z l

-- ---- links that are lent out

-- these labels stand on the link from one node to another
abbrev pub with_link : NetSeen → NodeId → NodeId → List Label → NetSeen
with_link n (Site i) v ls = record n { up = change_at (λ link. ls) i n.up }
with_link n (Serializer z) v ls = record n { serializers = change_at (λ s. with_box s v ls) z n.serializers }

-- what stands on the link to a site
abbrev pub link_to : NetSeen → ℕ → List Label
link_to n j = link_of n (Serializer (seat_of n.tree j)) (Site j)

-- these labels stand there
abbrev pub with_link_to : NetSeen → ℕ → List Label → NetSeen
with_link_to n j ls = with_link n (Serializer (seat_of n.tree j)) (Site j) ls

-- ---- hops over a link, one after another

-- serializer z, which is alive, has handed on so many of the oldest labels on the link from u, one after another
pub data HopsOn (a : Interested) (u : NodeId) (z : ℕ) (n : NetSeen) : ℕ → NetSeen → Type 0 where
  none : HopsOn a u z n 0 n
  more : (k : ℕ) (m : NetSeen) (l : Label) → HopsOn a u z n k m → is_dead m z ≡ false
      → slice_get (link_of m u (Serializer z)) 0 ≡ Some l → HopsOn a u z n (suc k) (after_hop m a u z l)

-- and it hands on nothing more: it is dead, or none is left on the link
pub record HopsOut (a : Interested) (u : NodeId) (z : ℕ) (n : NetSeen) (k : ℕ) (m : NetSeen) : Type 0 where
  pub hops : HopsOn a u z n k m
  pub left : is_dead m z ≡ false → slice_get (link_of m u (Serializer z)) 0 ≡ None

-- what hops from u to serializer z ask for, until none is left: an interest of the tree's sites, an edge of the tree,
-- and, where the serializer is alive, that each label on the link has a target beyond the edge
pub record MayHopAll (n : NetSeen) (a : Interested) (u : NodeId) (z : ℕ) : Type 0 where
  pub sites : a.sites ≡ length n.tree.seats
  pub node : IsNode n.tree u
  pub edge : is_edge n.tree u (Serializer z) ≡ true
  pub label : (l : Label) → is_dead n z ≡ false → In (link_of n u (Serializer z)) l → IsLabelOf a l
  pub target : (l : Label) → is_dead n z ≡ false → In (link_of n u (Serializer z)) l
      → leads a n.tree u (Serializer z) l ≡ true
