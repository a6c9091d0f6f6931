-- What each change does to one link, and to whether a serializer is dead.
use Rattle.std.specs.Prelude.{◌≡◌, ◌<◌, ◌⊎◌, ℕ, Bool, true, false, ◌&&◌, ◌==◌, List, [], ◌∷◌, ◌++◌, length, drop, replicate, Option, Some, None, slice_get, if◌then◌else◌, refl}
use Rattle.std.proofs.Common.{sym, subst, ap, ◌∙◌, inl, inr}
use Rattle.std.proofs.lemmas.Bool.{eqb-true, cases_Bool}
use Rattle.sat_label.proofs.Truth.{same-number}
use Rattle.sat_label.specs.declared.label.Label.{Label}
use Rattle.sat_label.specs.declared.node.NodeId.{NodeId}
use Rattle.sat_label.specs.declared.node.NodeId.TheVariants.{Site, Serializer}
use Rattle.sat_label.specs.Order.{node_eq}
use Rattle.sat_sites.specs.Interested.{Interested}
use Rattle.sat_tree.specs.Shape.{TreeShape}
use Rattle.sat_tree.specs.Cut.{neighbours, is_edge, IsNode}
use Rattle.sat_serial.specs.Routes.{goes, IsNeighbour}
use Rattle.sat_serial.specs.Outboxes.{SerializerSeen, IsSerializer, box_of, outbox, after_handle, after_ship}
use Rattle.sat_serial.proofs.Boxes.{each-outbox}
use Rattle.sat_net.specs.Nets.{NetSeen, IsPlaced, IsNet, link_of, is_dead, fresh_net, after_send, after_copies, after_give, after_kill}
use Rattle.sat_net.proofs.Lists.{there-is, get-change, read-change, read-same, none-there}
use Rattle.sat_net.proofs.Edges.{at-seat, no-edge}
use Rattle.sat_net.proofs.Kept.{fresh-at}

-- ---- tests

and-no : (b : Bool) → (b && false) ≡ false
and-no true = refl
and-no false = refl

and-yes : (b : Bool) → (b && true) ≡ b
and-yes true = refl
and-yes false = refl

if-same : {X : Type 0} (b : Bool) (x : X) → x ≡ (if b then x else x)
if-same true x = refl
if-same false x = refl

-- ---- a new net

empty-box : (v : NodeId) (nodes : List NodeId) → box_of v nodes (replicate (length nodes) []) ≡ []
empty-box v [] = refl
empty-box v (u ∷ nodes) = go (node_eq v u) (empty-box v nodes)
  where
    go : (b : Bool) → box_of v nodes (replicate (length nodes) []) ≡ [] → (if b then [] else box_of v nodes (replicate (length nodes) [])) ≡ []
    go true rest = refl
    go false rest = rest

pub fresh-link : (t : TreeShape) (u v : NodeId) → IsNode t u → link_of (fresh_net t) u v ≡ []
fresh-link t (Site i) v less = none-there (length t.seats) i
fresh-link t (Serializer z) v less = ap (λ (o : Option SerializerSeen). elim o [ None ↦ [] | Some s ↦ outbox s v ]) (fresh-at t (length t.parents) z less) ∙ empty-box v (neighbours t z)

pub fresh-alive : (t : TreeShape) (z : ℕ) → z < length t.parents → is_dead (fresh_net t) z ≡ false
fresh-alive t z less = ap (λ (o : Option SerializerSeen). elim o [ None ↦ false | Some s ↦ s.killed ]) (fresh-at t (length t.parents) z less)

-- ---- a label more on the link from a site

pub sent-link : (n : NetSeen) (i : ℕ) (l : Label) (u v : NodeId) → i < length n.up → link_of (after_send n i l) u v ≡ (if node_eq (Site i) u then link_of n u v ++ l ∷ [] else link_of n u v)
sent-link n i l (Site m) v less = get-change (λ link. link ++ l ∷ []) n.up i m [] less
sent-link n i l (Serializer z) v less = refl

-- ---- a label less

-- the neighbour of a site is one node alone
one-way : (t : TreeShape) (i : ℕ) (p v : NodeId) → is_edge t (Site i) p ≡ true → is_edge t (Site i) v ≡ true → node_eq p v ≡ true
one-way t i (Site k) v e f = absurd (let g : is_edge t (Site i) (Site k) ≡ false = no-edge t i k in cc)
one-way t i (Serializer y) (Site k) e f = absurd (let g : is_edge t (Site i) (Site k) ≡ false = no-edge t i k in cc)
one-way t i (Serializer y) (Serializer z) e f = let q : z ≡ y = sym (at-seat t i z f) ∙ at-seat t i y e in ap (λ (m : ℕ). y == m) q ∙ same-number y

pub given-link : (n : NetSeen) (p q u v : NodeId) → IsNet n → IsNode n.tree p → is_edge n.tree p q ≡ true → is_edge n.tree u v ≡ true →
    link_of (after_give n p q) u v ≡ (if node_eq p u && node_eq q v then drop 1 (link_of n u v) else link_of n u v)
given-link n (Site i) q (Site m) v k less e f = get-change (λ link. drop 1 link) n.up i m [] (subst (λ (c : ℕ). i < c) (sym k.up) less) ∙ both (cases_Bool (i == m))
  where
    both : ((i == m) ≡ true) ⊎ ((i == m) ≡ false) → (if i == m then drop 1 (link_of n (Site m) v) else link_of n (Site m) v) ≡ (if (i == m) && node_eq q v then drop 1 (link_of n (Site m) v) else link_of n (Site m) v)
    both (inl same) = rw (same, one-way n.tree m q v (subst (λ (j : ℕ). is_edge n.tree (Site j) q ≡ true) (eqb-true i m same) e) f) refl
    both (inr other) = rw other refl
given-link n (Site i) q (Serializer z) v k less e f = refl
given-link n (Serializer y) q (Site m) v k less e f = refl
given-link n (Serializer y) q (Serializer z) v k less e f = read-change (λ s. after_ship s q) (λ s. outbox s v) [] n.serializers y z ∙ both (slice_get n.serializers z)
  where
    one : (b c : Bool) (ls ms : List Label) → ls ≡ (if c then drop 1 ms else ms) → (if b then ls else ms) ≡ (if b && c then drop 1 ms else ms)
    one true c ls ms e = e
    one false c ls ms e = refl

    both : (o : Option SerializerSeen) → (if y == z then elim o [ None ↦ [] | Some s ↦ outbox (after_ship s q) v ] else elim o [ None ↦ [] | Some s ↦ outbox s v ])
        ≡ (if (y == z) && node_eq q v then drop 1 (elim o [ None ↦ [] | Some s ↦ outbox s v ]) else elim o [ None ↦ [] | Some s ↦ outbox s v ])
    both None = one (y == z) (node_eq q v) [] [] (if-same (node_eq q v) [])
    both (Some s) = one (y == z) (node_eq q v) (outbox (after_ship s q) v) (outbox s v) (each-outbox.ships s q v)

-- ---- copies of a label

copied-box : (t : TreeShape) (z : ℕ) (s : SerializerSeen) (a : Interested) (u v : NodeId) (l : Label) → IsPlaced t z s → z < length t.parents → IsNeighbour t z v →
    outbox (after_handle s a u l) v ≡ (if goes a t z u l v then outbox s v ++ l ∷ [] else outbox s v)
copied-box t z s a u v l p less nb =
    let m : IsNeighbour s.tree s.number v = subst (λ (x : TreeShape). IsNeighbour x s.number v) (sym p.tree) (subst (λ (y : ℕ). IsNeighbour t y v) (sym p.number) nb) in
    let inner : s.number < length s.tree.parents = subst (λ (x : TreeShape). s.number < length x.parents) (sym p.tree) (subst (λ (y : ℕ). y < length t.parents) (sym p.number) less) in
    let lim : IsSerializer s = record { inner = inner; each = p.each ∙ (λ i. length (neighbours (sym p.tree i) (sym p.number i))) } in
    each-outbox.handles s a u v l lim m ∙ (λ i. if goes a (p.tree i) (p.number i) u l v then outbox s v ++ l ∷ [] else outbox s v)

pub copied-link : (n : NetSeen) (a : Interested) (u : NodeId) (z : ℕ) (l : Label) (p v : NodeId) → IsNet n → IsNode n.tree p → IsNode n.tree v → is_edge n.tree p v ≡ true →
    link_of (after_copies n a u z l) p v ≡ (if node_eq (Serializer z) p && goes a n.tree z u l v then link_of n p v ++ l ∷ [] else link_of n p v)
copied-link n a u z l (Site i) v k less node e = refl
copied-link n a u z l (Serializer y) v k less node e = read-change (λ s. after_handle s a u l) (λ s. outbox s v) [] n.serializers z y ∙ at (slice_get n.serializers y) refl
  where
    one : (b c : Bool) (ls ms : List Label) → (b ≡ true → ls ≡ (if c then ms ++ l ∷ [] else ms)) → (if b then ls else ms) ≡ (if b && c then ms ++ l ∷ [] else ms)
    one true c ls ms e = e refl
    one false c ls ms e = refl

    box : (s : SerializerSeen) → slice_get n.serializers y ≡ Some s → z ≡ y → outbox (after_handle s a u l) v ≡ (if goes a n.tree z u l v then outbox s v ++ l ∷ [] else outbox s v)
    box s is same = copied-box n.tree z s a u v l (subst (λ (y : ℕ). IsPlaced n.tree y s) (sym same) (k.placed y s is)) (subst (λ (y : ℕ). y < length n.tree.parents) (sym same) less)
        (record { node = node; edge = subst (λ (y : ℕ). is_edge n.tree (Serializer y) v ≡ true) (sym same) e })

    at : (o : Option SerializerSeen) → slice_get n.serializers y ≡ o → (if z == y then elim o [ None ↦ [] | Some s ↦ outbox (after_handle s a u l) v ] else elim o [ None ↦ [] | Some s ↦ outbox s v ])
        ≡ (if (z == y) && goes a n.tree z u l v then elim o [ None ↦ [] | Some s ↦ outbox s v ] ++ l ∷ [] else elim o [ None ↦ [] | Some s ↦ outbox s v ])
    at None is = absurd (let t : (s : SerializerSeen) × (slice_get n.serializers y ≡ Some s) = there-is n.serializers y (subst (λ (c : ℕ). y < c) (sym k.serializers) less) in let f : None ≡ Some t.0 = sym is ∙ t.1 in cc)
    at (Some s) is = one (z == y) (goes a n.tree z u l v) (outbox (after_handle s a u l) v) (outbox s v) (λ same. box s is (eqb-true z y same))

-- ---- who is dead

pub give-dead : (n : NetSeen) (u v : NodeId) (z : ℕ) → is_dead (after_give n u v) z ≡ is_dead n z
give-dead n (Site i) v z = refl
give-dead n (Serializer y) v z = read-same (λ s. after_ship s v) (λ s. s.killed) false n.serializers y z (λ s. refl)

pub copies-dead : (n : NetSeen) (a : Interested) (u : NodeId) (z : ℕ) (l : Label) (y : ℕ) → is_dead (after_copies n a u z l) y ≡ is_dead n y
copies-dead n a u z l y = read-same (λ s. after_handle s a u l) (λ s. s.killed) false n.serializers z y (λ s. refl)

pub kill-dead : (n : NetSeen) (z y : ℕ) → y < length n.serializers → is_dead (after_kill n z) y ≡ (if z == y then true else is_dead n y)
kill-dead n z y less = read-change (λ s. record s { killed = true }) (λ s. s.killed) false n.serializers z y ∙ at (there-is n.serializers y less)
  where
    at : (t : (s : SerializerSeen) × (slice_get n.serializers y ≡ Some s)) → (if z == y then elim (slice_get n.serializers y) [ None ↦ false | Some s ↦ true ] else elim (slice_get n.serializers y) [ None ↦ false | Some s ↦ s.killed ]) ≡ (if z == y then true else is_dead n y)
    at t = ap (λ (o : Option SerializerSeen). if z == y then elim o [ None ↦ false | Some s ↦ true ] else elim (slice_get n.serializers y) [ None ↦ false | Some s ↦ s.killed ]) t.1

-- a kill leaves each link
pub kill-link : (n : NetSeen) (z : ℕ) (u v : NodeId) → link_of (after_kill n z) u v ≡ link_of n u v
kill-link n z (Site i) v = refl
kill-link n z (Serializer y) v = read-same (λ s. record s { killed = true }) (λ s. outbox s v) [] n.serializers z y (λ s. refl)
