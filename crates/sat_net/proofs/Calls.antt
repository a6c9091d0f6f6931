-- What the calls of a net meet, by what holds of every net.
use Rattle.std.specs.Prelude.{◌≡◌, ◌<◌, ℕ, true, false, List, [], length, Option, Some, None, slice_get}
use Rattle.std.proofs.Common.{sym, subst, ap, ◌∙◌}
use Rattle.sat_label.specs.declared.label.Label.{Label}
use Rattle.sat_label.specs.declared.node.NodeId.{NodeId}
use Rattle.sat_label.specs.declared.node.NodeId.TheVariants.{Serializer}
use Rattle.sat_sites.specs.Interested.{Interested}
use Rattle.sat_tree.specs.Shape.{TreeShape}
use Rattle.sat_tree.specs.Cut.{is_edge, IsNode}
use Rattle.sat_serial.specs.Routes.{routes, Arrives, IsNeighbour}
use Rattle.sat_serial.specs.Outboxes.{SerializerSeen, outbox}
use Rattle.sat_net.specs.Nets.{NetSeen, IsPlaced, IsNet, MayHop, link_of, is_dead}
use Rattle.sat_net.proofs.Lists.{there-is}
use Rattle.sat_net.proofs.Edges.{turned-edge}

-- a serializer at its place has the neighbours of that place
placed-neighbour : (t : TreeShape) (z : ℕ) (s : SerializerSeen) (v : NodeId) → IsPlaced t z s → IsNeighbour t z v → IsNeighbour s.tree s.number v
placed-neighbour t z s v p nb = subst (λ (x : TreeShape). IsNeighbour x s.number v) (sym p.tree) (subst (λ (y : ℕ). IsNeighbour t y v) (sym p.number) nb)

pub neighbour-at : (m n : NetSeen) (u : NodeId) (z : ℕ) (v : NodeId) → m ≡ n → IsNet m → u ≡ Serializer z → IsNode n.tree v → is_edge n.tree u v ≡ true → (s : SerializerSeen) → slice_get m.serializers z ≡ Some s → IsNeighbour s.tree s.number v
neighbour-at m n u z v same k is node edge s at = placed-neighbour m.tree z s v (k.placed z s at) (record {
  node = subst (λ (n : NetSeen). IsNode n.tree v) (sym same) node;
  edge = subst (λ (n : NetSeen). is_edge n.tree (Serializer z) v ≡ true) (sym same) (subst (λ (u : NodeId). is_edge n.tree u v ≡ true) is edge);
})

within-at : (m n : NetSeen) (z : ℕ) → m ≡ n → IsNet m → z < length n.tree.parents → (s : SerializerSeen) × (slice_get m.serializers z ≡ Some s)
within-at m n z same k less = there-is m.serializers z (subst (λ (c : ℕ). z < c) (sym k.serializers) (subst (λ (n : NetSeen). z < length n.tree.parents) (sym same) less))

-- what is read from a serializer's outbox is what stands on the link
pub label-at : (m n : NetSeen) (u : NodeId) (z : ℕ) (v : NodeId) (count : ℕ) (r : Option Label) (ss : List SerializerSeen) → m ≡ n → IsNet m → u ≡ Serializer z → IsNode n.tree u → ss ≡ m.serializers →
    ((s : SerializerSeen) → slice_get ss z ≡ Some s → r ≡ slice_get (outbox s v) count) → r ≡ slice_get (link_of n u v) count
label-at m n u z v count r ss same k is node all read =
    let s : (s : SerializerSeen) × (slice_get m.serializers z ≡ Some s) = within-at m n z same k (subst (IsNode n.tree) is node) in
    read s.0 (ap (λ (ss : List SerializerSeen). slice_get ss z) all ∙ s.1) ∙
    (ap (λ (o : Option SerializerSeen). slice_get (elim o [ None ↦ [] | Some s ↦ outbox s v ]) count) (sym s.1) ∙
    (λ i. slice_get (link_of (same i) (sym is i) v) count))

-- ---- a hop

pub may-arrive : (n : NetSeen) (a : Interested) (u : NodeId) (z : ℕ) (l : Label) → MayHop n a u z → is_dead n z ≡ false → slice_get (link_of n u (Serializer z)) 0 ≡ Some l → Arrives a n.tree z u l
may-arrive n a u z l k alive front = record {
  sites = k.sites;
  label = k.label l alive front;
  neighbour = record { node = k.node; edge = turned-edge n.tree (Serializer z) u ∙ k.edge };
  target = k.target l alive front;
}

pub arrives-at : (m n : NetSeen) (a : Interested) (z : ℕ) (u : NodeId) (l : Label) → m ≡ n → IsNet m → Arrives a n.tree z u l → (s : SerializerSeen) → slice_get m.serializers z ≡ Some s → Arrives a s.tree s.number u l
arrives-at m n a z u l same k h s at =
    let p : IsPlaced m.tree z s = k.placed z s at in
    subst (λ (x : TreeShape). Arrives a x s.number u l) (sym p.tree) (subst (λ (y : ℕ). Arrives a m.tree y u l) (sym p.number) (subst (λ (n : NetSeen). Arrives a n.tree z u l) (sym same) h))

pub routes-at : (m n : NetSeen) (a : Interested) (z : ℕ) (u : NodeId) (l : Label) (r : List NodeId) → m ≡ n → IsNet m → z < length n.tree.parents →
    ((s : SerializerSeen) → slice_get m.serializers z ≡ Some s → r ≡ routes a s.tree s.number u l) → r ≡ routes a n.tree z u l
routes-at m n a z u l r same k less read =
    let s : (s : SerializerSeen) × (slice_get m.serializers z ≡ Some s) = within-at m n z same k less in
    let p : IsPlaced m.tree z s.0 = k.placed z s.0 s.1 in
    read s.0 s.1 ∙ ((λ i. routes a (p.tree i) (p.number i) u l) ∙ (λ i. routes a (same i).tree z u l))

-- as many labels are read from a serializer's outbox as stand on the link
pub many-at : (m n : NetSeen) (z : ℕ) (v : NodeId) (r : ℕ) (ss : List SerializerSeen) → m ≡ n → IsNet m → z < length n.tree.parents → ss ≡ m.serializers →
    ((s : SerializerSeen) → slice_get ss z ≡ Some s → r ≡ length (outbox s v)) → r ≡ length (link_of n (Serializer z) v)
many-at m n z v r ss same k less all read =
    let s : (s : SerializerSeen) × (slice_get m.serializers z ≡ Some s) = within-at m n z same k less in
    read s.0 (ap (λ (ss : List SerializerSeen). slice_get ss z) all ∙ s.1) ∙
    (ap (λ (o : Option SerializerSeen). length {A = Label} (elim o [ None ↦ [] | Some s ↦ outbox s v ])) (sym s.1) ∙
    (λ i. length (link_of (same i) (Serializer z) v)))
