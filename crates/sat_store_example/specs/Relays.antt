-- What a relay keeps, and what it asks of a label that comes.
use Rattle.std.specs.Prelude.{ℕ, ◌≡◌, ◌<◌, Bool, true, ◌&&◌, nat_lt, List, [], length, if◌then◌else◌}
use Rattle.sat_label.specs.declared.label.Kind.{Kind}
use Rattle.sat_label.specs.declared.label.Kind.TheVariants.{Update, Move, Pulse, Close}
use Rattle.sat_label.specs.declared.label.Label.{Label}
use Rattle.sat_label.specs.Grouped.{list_of}
use Rattle.sat_label.specs.declared.node.NodeId.{NodeId}
use Rattle.sat_label.specs.declared.node.NodeId.TheVariants.{Site, Serializer}
use Rattle.sat_sites.specs.Interested.{Interested, are_below}
use Rattle.sat_tree.specs.Shape.{TreeShape}
use Rattle.sat_tree.specs.Cut.{is_edge}
use Rattle.sat_serial.specs.Outboxes.{SerializerSeen, after_ship, outbox}
use Rattle.sat_serial.specs.Routes.{leads}

-- the tree, which sites keep which items, the relay's number, and its serializer
pub record RelaySeen : Type 0 where
  pub tree : TreeShape
  pub interest : Interested
  pub number : ℕ
  pub serializer : SerializerSeen

-- the serializer is that of the tree with that number, and the interest is of the tree's sites
pub record IsRelay (r : RelaySeen) : Type 0 where
  pub tree : r.serializer.tree ≡ r.tree
  pub number : r.serializer.number ≡ r.number
  pub sites : r.interest.sites ≡ length r.tree.seats
  pub inner : r.number < length r.tree.parents

-- a node of the tree
abbrev pub is_node : TreeShape → NodeId → Bool
is_node t (Site i) = nat_lt i (length t.seats)
is_node t (Serializer z) = nat_lt z (length t.parents)

-- a node of the tree that hangs together with the relay
abbrev pub is_neighbour : RelaySeen → NodeId → Bool
is_neighbour r u = is_node r.tree u && is_edge r.tree (Serializer r.number) u

-- a kind that names items, or a site, that there are
abbrev pub is_kind_of : Interested → Kind → Bool
is_kind_of a (Update items) = are_below (length a.replicas) (list_of items)
is_kind_of a (Move j) = nat_lt j a.sites
is_kind_of a Pulse = true
is_kind_of a (Close e) = true

-- a label of the deployment
abbrev pub is_label_of : Interested → Label → Bool
is_label_of a l = nat_lt l.point.site a.sites && is_kind_of a l.kind

-- a label of the deployment, come from a neighbour, with a target on this side of the link
abbrev pub arrives : RelaySeen → NodeId → Label → Bool
arrives r u l = (is_neighbour r u && is_label_of r.interest l) && leads r.interest r.tree u (Serializer r.number) l

-- the labels that wait for a node, the oldest first: none where it is no neighbour
abbrev pub waiting_for : RelaySeen → NodeId → List Label
waiting_for r v = if is_neighbour r v then outbox r.serializer v else []

-- the relay without the oldest label for a node
abbrev pub shipped : RelaySeen → NodeId → RelaySeen
shipped r v = if is_neighbour r v then record r { serializer = after_ship r.serializer v } else r
