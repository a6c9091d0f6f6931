-- Labels that hop over a link, one after another.
use Rattle.std.specs.Prelude.{◌≡◌, ◌<◌, ◌≤◌, ◌==◌, ℕ, zero, suc, true, false, List, [], ◌∷◌, length, take, drop, set, Some, slice_get, get_or, refl}
use Rattle.std.proofs.Common.{sym, subst, ap, ◌∙◌, arith}
use Rattle.std.proofs.Math.Numerals.{add-one}
use Rattle.std.proofs.lemmas.Bool.Decides.{nat_tests}
use Rattle.std.proofs.lemmas.List.{take_all, drop_all}
use Rattle.sat_label.specs.Members.{In}
use Rattle.sat_label.specs.declared.label.Label.{Label}
use Rattle.sat_label.specs.declared.node.NodeId.{NodeId}
use Rattle.sat_label.specs.declared.node.NodeId.TheVariants.{Site, Serializer}
use Rattle.sat_sites.specs.Interested.{Interested}
use Rattle.sat_tree.specs.Shape.{TreeShape}
use Rattle.sat_tree.specs.Cut.{is_edge, IsNode}
use Rattle.sat_serial.specs.Routes.{Arrives}
use Rattle.sat_serial.specs.Outboxes.{SerializerSeen, HandsOnSome, with_box, after_handle, after_handles}
use Rattle.sat_serial.proofs.Lent.{handles-killed, handles-next}
use Rattle.sat_net.specs.Nets.{NetSeen, IsPlaced, IsNet, MayHopAll, HopsOn, none, more, HopsOut, link_of, is_dead, with_link, after_copies, after_give, after_hop}
use Rattle.sat_net.specs.Lending.{after_all_copies, HandsSome, HandsOver}
use Rattle.sat_net.proofs.Lists.{there-is, read-same, put-change}
use Rattle.sat_net.proofs.Edges.{turned-edge, apart, edge-within}
use Rattle.sat_net.proofs.Kept.{placed-handle, changed-serializer}
use Rattle.sat_net.proofs.Lent.{change-twice, change-apart, change-same, change-none, link-at, link-own, link-twice, give-link, tree-link, dead-link}

-- ---- one serializer among those of a net

-- what one serializer made of the labels, in its place
pub some-handed : (ss : List SerializerSeen) (a : Interested) (u : NodeId) (z : ℕ) (ls : List Label) (k : ℕ) (s t : SerializerSeen) (rest : List Label) → z < length ss → s ≡ get_or ss z s → HandsOnSome s a u ls k t rest →
    HandsSome ss a u z ls k (set ss z t) rest
some-handed ss a u z ls k s t rest less here h = record {
  many = h.many;
  after = put-change (λ (s : SerializerSeen). after_handles s a u (take k ls)) ss z s t less here h.after;
  left = h.left;
}

pub all-handed : (ss : List SerializerSeen) (a : Interested) (u : NodeId) (z : ℕ) (ls : List Label) (s t : SerializerSeen) (rest : List Label) → z < length ss → s ≡ get_or ss z s → t ≡ after_handles s a u ls → rest ≡ [] →
    HandsSome ss a u z ls (length ls) (set ss z t) rest
all-handed ss a u z ls s t rest less here after empty = some-handed ss a u z ls (length ls) s t rest less here (record {
  many = omega arith;
  after = after ∙ ap (λ (ks : List Label). after_handles s a u ks) (sym (take_all (length ls) ls (omega arith)));
  left = empty ∙ sym (drop_all (length ls) ls (omega arith));
})

placed-handles : (t : TreeShape) (a : Interested) (u : NodeId) (ls : List Label) (z : ℕ) (s : SerializerSeen) → IsPlaced t z s → IsPlaced t z (after_handles s a u ls)
placed-handles t a u [] z s p = p
placed-handles t a u (l ∷ ls) z s p = placed-handles t a u ls z (after_handle s a u l) (placed-handle t a u l z s p)

pub net-handed : (n : NetSeen) (a : Interested) (u : NodeId) (z : ℕ) (ls : List Label) → IsNet n → IsNet (after_all_copies n a u z ls)
net-handed n a u z ls k = changed-serializer n (λ s. after_handles s a u ls) z k (placed-handles n.tree a u ls)

-- ---- a link from elsewhere stays as it is

-- the node is not this serializer
IsElsewhere : NodeId → ℕ → Type 0
IsElsewhere (Site i) z = z ≡ z
IsElsewhere (Serializer y) z = (y == z) ≡ false

elsewhere : (n : NetSeen) (u : NodeId) (z : ℕ) → IsNet n → is_edge n.tree u (Serializer z) ≡ true → IsElsewhere u z
unfolding IsElsewhere
elsewhere n (Site i) z k edge = refl
elsewhere n (Serializer y) z k edge = (apart n.tree y z k.tree edge).apart

swapped : (y z : ℕ) → (y == z) ≡ false → (z == y) ≡ false
swapped y z e = grind (arith, nat_tests)

handed-link : (n : NetSeen) (a : Interested) (u : NodeId) (z : ℕ) (v : NodeId) (ks ls : List Label) → IsElsewhere u z →
    after_all_copies (with_link n u v ks) a u z ls ≡ with_link (after_all_copies n a u z ls) u v ks
unfolding IsElsewhere
handed-link n a (Site i) z v ks ls other = refl
handed-link n a (Serializer y) z v ks ls other = ap (λ (ss : List SerializerSeen). record n { serializers = ss })
    (change-apart (λ s. after_handles s a (Serializer y) ls) (λ s. with_box s v ks) z y n.serializers (swapped y z other))

copied-link : (n : NetSeen) (a : Interested) (u : NodeId) (z : ℕ) (v : NodeId) (ks : List Label) (l : Label) → IsElsewhere u z →
    after_copies (with_link n u v ks) a u z l ≡ with_link (after_copies n a u z l) u v ks
copied-link n a u z v ks l other = handed-link n a u z v ks (l ∷ []) other

-- a hop over a link with a label in front
hop-link : (n : NetSeen) (a : Interested) (u : NodeId) (z : ℕ) (l : Label) (ls : List Label) → IsElsewhere u z →
    after_hop (with_link n u (Serializer z) (l ∷ ls)) a u z l ≡ with_link (after_copies n a u z l) u (Serializer z) ls
hop-link n a u z l ls other =
    ap (λ (m : NetSeen). after_give m u (Serializer z)) (copied-link n a u z (Serializer z) (l ∷ ls) l other) ∙ give-link (after_copies n a u z l) u (Serializer z) (l ∷ ls)

-- ---- so many hops

-- the net after k labels of a link were handed on
after_some : NetSeen → Interested → NodeId → ℕ → List Label → ℕ → NetSeen
after_some n a u z ls k = with_link (after_all_copies n a u z (take k ls)) u (Serializer z) (drop k ls)

drop-front : (ls : List Label) (k : ℕ) (l : Label) → slice_get ls k ≡ Some l → drop k ls ≡ l ∷ drop (suc k) ls
drop-front [] k l e = absurd (cc)
drop-front (m ∷ ls) zero l e = cc
drop-front (m ∷ ls) (suc k) l e = drop-front ls k l e

front-at : (ls : List Label) (k : ℕ) → slice_get (drop k ls) 0 ≡ slice_get ls k
front-at ls zero = refl
front-at [] (suc k) = refl
front-at (l ∷ ls) (suc k) = front-at ls k

-- copies of one label more
copies-more : (n : NetSeen) (a : Interested) (u : NodeId) (z : ℕ) (ls : List Label) (k : ℕ) (l : Label) → slice_get ls k ≡ Some l →
    after_copies (after_all_copies n a u z (take k ls)) a u z l ≡ after_all_copies n a u z (take (suc k) ls)
copies-more n a u z ls k l next = ap (λ (ss : List SerializerSeen). record n { serializers = ss })
    (change-twice (λ s. after_handles s a u (take k ls)) (λ s. after_handle s a u l) z n.serializers ∙
    change-same (λ s. after_handle (after_handles s a u (take k ls)) a u l) (λ s. after_handles s a u (take (suc k) ls)) z n.serializers
    (λ s. handles-next s (after_handles s a u (take k ls)) (after_handle (after_handles s a u (take k ls)) a u l) a u ls k l refl next refl ∙
    ap (λ (m : ℕ). after_handles s a u (take m ls)) (add-one k)))

-- one hop more
some-more : (n : NetSeen) (a : Interested) (u : NodeId) (z : ℕ) (ls : List Label) (k : ℕ) (l : Label) → IsElsewhere u z → slice_get ls k ≡ Some l →
    after_hop (after_some n a u z ls k) a u z l ≡ after_some n a u z ls (suc k)
unfolding after_some
some-more n a u z ls k l other next =
    ap (λ (ks : List Label). after_hop (with_link (after_all_copies n a u z (take k ls)) u (Serializer z) ks) a u z l) (drop-front ls k l next) ∙
    (hop-link (after_all_copies n a u z (take k ls)) a u z l (drop (suc k) ls) other ∙
    ap (λ (m : NetSeen). with_link m u (Serializer z) (drop (suc k) ls)) (copies-more n a u z ls k l next))

some-none : (n : NetSeen) (a : Interested) (u : NodeId) (z : ℕ) (ls : List Label) → ls ≡ link_of n u (Serializer z) → n ≡ after_some n a u z ls 0
unfolding after_some
some-none n a u z ls is =
    sym (ap (λ (ss : List SerializerSeen). with_link (record n { serializers = ss }) u (Serializer z) ls) (change-none z n.serializers) ∙
    (ap (λ (ks : List Label). with_link n u (Serializer z) ks) is ∙ link-own n u (Serializer z)))

some-dead : (n : NetSeen) (a : Interested) (u : NodeId) (z : ℕ) (ls : List Label) (k : ℕ) → is_dead (after_some n a u z ls k) z ≡ is_dead n z
unfolding after_some
some-dead n a u z ls k =
    dead-link (after_all_copies n a u z (take k ls)) u (Serializer z) (drop k ls) z ∙
    read-same (λ s. after_handles s a u (take k ls)) (λ s. s.killed) false n.serializers z z (λ s. handles-killed s a u (take k ls))

some-link : (n : NetSeen) (a : Interested) (u : NodeId) (z : ℕ) (ls : List Label) (k : ℕ) → IsNet n → IsNode n.tree u → is_edge n.tree u (Serializer z) ≡ true →
    link_of (after_some n a u z ls k) u (Serializer z) ≡ drop k ls
unfolding after_some
some-link n a u z ls k net node edge =
    link-at (after_all_copies n a u z (take k ls)) u (Serializer z) (drop k ls) (net-handed n a u z (take k ls) net) node (edge-within n.tree u z net.tree edge) edge

some-hops : (n : NetSeen) (a : Interested) (u : NodeId) (z : ℕ) (ls : List Label) (k : ℕ) → IsNet n → IsNode n.tree u → is_edge n.tree u (Serializer z) ≡ true → is_dead n z ≡ false → ls ≡ link_of n u (Serializer z) →
    k ≤ length ls → HopsOn a u z n k (after_some n a u z ls k)
some-hops n a u z ls zero net node edge alive is few = subst (λ (m : NetSeen). HopsOn a u z n 0 m) (some-none n a u z ls is) none
some-hops n a u z ls (suc k) net node edge alive is few =
    let next : (l : Label) × (slice_get ls k ≡ Some l) = there-is ls k (omega arith) in
    let before : HopsOn a u z n k (after_some n a u z ls k) = some-hops n a u z ls k net node edge alive is (omega arith) in
    let front : slice_get (link_of (after_some n a u z ls k) u (Serializer z)) 0 ≡ Some next.0 =
    ap (λ (ks : List Label). slice_get ks 0) (some-link n a u z ls k net node edge) ∙ (front-at ls k ∙ next.1) in
    subst (λ (m : NetSeen). HopsOn a u z n (suc k) m) (some-more n a u z ls k next.0 (elsewhere n u z net edge) next.1)
    (more k (after_some n a u z ls k) next.0 before (some-dead n a u z ls k ∙ alive) front)

-- ---- a link that is lent out, handed on and given back

-- what was given back is the net after so many hops
back : (n p q m : NetSeen) (a : Interested) (u : NodeId) (z : ℕ) (ls rest : List Label) (k : ℕ) → IsElsewhere u z → p ≡ with_link n u (Serializer z) [] → HandsOver p a u z ls k q rest → m ≡ with_link q u (Serializer z) rest →
    after_some n a u z ls k ≡ m
unfolding after_some
back n p q m a u z ls rest k other lent h given = sym (
    given ∙
    ((λ i. with_link (h.after i) u (Serializer z) (h.left i)) ∙
    (ap (λ (w : NetSeen). with_link (after_all_copies w a u z (take k ls)) u (Serializer z) (drop k ls)) lent ∙
    (ap (λ (w : NetSeen). with_link w u (Serializer z) (drop k ls)) (handed-link n a u z (Serializer z) [] (take k ls) other) ∙
    link-twice (after_all_copies n a u z (take k ls)) u (Serializer z) [] (drop k ls)))))

pub hops-made : (n p q m : NetSeen) (a : Interested) (u : NodeId) (z : ℕ) (ls rest : List Label) (k : ℕ) → IsNet n → MayHopAll n a u z → is_dead n z ≡ false → ls ≡ link_of n u (Serializer z) →
    p ≡ with_link n u (Serializer z) [] → HandsOver p a u z ls k q rest → m ≡ with_link q u (Serializer z) rest → HopsOn a u z n k m
hops-made n p q m a u z ls rest k net may alive is lent h given =
    subst (λ (w : NetSeen). HopsOn a u z n k w) (back n p q m a u z ls rest k (elsewhere n u z net may.edge) lent h given)
    (some-hops n a u z ls k net may.node may.edge alive is h.many)

-- none is left
pub hops-ended : (n p q m : NetSeen) (a : Interested) (u : NodeId) (z : ℕ) (ls rest : List Label) → IsNet n → MayHopAll n a u z → is_dead n z ≡ false → ls ≡ link_of n u (Serializer z) →
    p ≡ with_link n u (Serializer z) [] → HandsOver p a u z ls (length ls) q rest → m ≡ with_link q u (Serializer z) rest → HopsOut a u z n (length ls) m
hops-ended n p q m a u z ls rest net may alive is lent h given = record {
  hops = hops-made n p q m a u z ls rest (length ls) net may alive is lent h given;
  left = λ dead.
      ap (λ (w : NetSeen). slice_get (link_of w u (Serializer z)) 0) (sym (back n p q m a u z ls rest (length ls) (elsewhere n u z net may.edge) lent h given)) ∙
      (ap (λ (ks : List Label). slice_get ks 0) (some-link n a u z ls (length ls) net may.node may.edge) ∙
      ap (λ (ks : List Label). slice_get ks 0) (drop_all (length ls) ls (omega arith)));
}

-- a serializer that was killed hands nothing on
pub hops-dead : (n : NetSeen) (a : Interested) (u : NodeId) (z : ℕ) → is_dead n z ≡ true → HopsOut a u z n 0 n
hops-dead n a u z dead = record {
  hops = none;
  left = λ alive. absurd (cc);
}

-- what the labels of the link ask for
pub all-arrive : (n p : NetSeen) (a : Interested) (u : NodeId) (z : ℕ) (ls : List Label) → MayHopAll n a u z → is_dead n z ≡ false → ls ≡ link_of n u (Serializer z) → p ≡ with_link n u (Serializer z) [] →
    (l : Label) → In ls l → Arrives a p.tree z u l
all-arrive n p a u z ls may alive is lent l among =
    let member : In (link_of n u (Serializer z)) l = subst (λ (ks : List Label). In ks l) is among in
    subst (λ (t : TreeShape). Arrives a t z u l) (sym (ap (λ (w : NetSeen). w.tree) lent ∙ tree-link n u (Serializer z) [])) (record {
      sites = may.sites;
      label = may.label l alive member;
      neighbour = record { node = may.node; edge = turned-edge n.tree (Serializer z) u ∙ may.edge };
      target = may.target l alive member;
    })
