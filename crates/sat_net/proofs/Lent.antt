-- Links that are lent out and given back.
use Rattle.std.specs.Prelude.{◌≡◌, ◌<◌, ◌==◌, ℕ, zero, suc, Bool, true, false, List, [], ◌∷◌, length, drop, Option, Some, None, slice_get, get_or, if◌then◌else◌, refl}
use Rattle.std.proofs.Common.{sym, subst, ap, ◌∙◌, arith}
use Rattle.sat_label.specs.declared.label.Label.{Label}
use Rattle.sat_label.specs.declared.node.NodeId.{NodeId}
use Rattle.sat_label.specs.declared.node.NodeId.TheVariants.{Site, Serializer}
use Rattle.sat_label.specs.Order.{node_eq}
use Rattle.sat_label.proofs.Truth.{same-number}
use Rattle.sat_tree.specs.Shape.{TreeShape}
use Rattle.sat_tree.specs.Cut.{neighbours, seat_of, is_edge, IsNode}
use Rattle.sat_serial.specs.Routes.{IsNeighbour}
use Rattle.sat_serial.specs.Outboxes.{SerializerSeen, IsSerializer, box_in, outbox, with_box, after_ship}
use Rattle.sat_serial.proofs.Lent as lent
use Rattle.sat_net.specs.Nets.{NetSeen, IsPlaced, IsNet, change_at, link_of, is_dead, with_link, link_to, with_link_to, after_give, after_take}
use Rattle.sat_net.proofs.Lists.{there-is, get-change, read-change, read-same, both-less}
use Rattle.sat_net.proofs.Edges.{from-seat}
use Rattle.sat_net.proofs.Kept.{own-count, changed-serializer, changed-link}

-- ---- changes at places

-- one change after another at one place
pub change-twice : {X : Type 0} (f g : X → X) (i : ℕ) (xs : List X) → change_at g i (change_at f i xs) ≡ change_at (λ x. g (f x)) i xs
change-twice f g i [] = refl
change-twice f g zero (x ∷ xs) = refl
change-twice {X = X} f g (suc i) (x ∷ xs) = ap (λ (rest : List X). x ∷ rest) (change-twice f g i xs)

-- changes at two places, in either order
pub change-apart : {X : Type 0} (f g : X → X) (i k : ℕ) (xs : List X) → (i == k) ≡ false → change_at f i (change_at g k xs) ≡ change_at g k (change_at f i xs)
change-apart f g i k [] other = refl
change-apart f g zero zero (x ∷ xs) other = absurd (cc)
change-apart f g zero (suc k) (x ∷ xs) other = refl
change-apart f g (suc i) zero (x ∷ xs) other = refl
change-apart {X = X} f g (suc i) (suc k) (x ∷ xs) other = ap (λ (rest : List X). x ∷ rest) (change-apart f g i k xs (sym (both-less i k) ∙ other))

-- a change that does the same
pub change-same : {X : Type 0} (f g : X → X) (i : ℕ) (xs : List X) → ((x : X) → f x ≡ g x) → change_at f i xs ≡ change_at g i xs
change-same f g i xs same = λ j. change_at (λ x. same x j) i xs

-- a change that does nothing
pub change-none : {X : Type 0} (i : ℕ) (xs : List X) → change_at (λ x. x) i xs ≡ xs
change-none i [] = refl
change-none zero (x ∷ xs) = refl
change-none {X = X} (suc i) (x ∷ xs) = ap (λ (rest : List X). x ∷ rest) (change-none i xs)

-- ---- what is put on a link

-- what stood there changes nothing
own-link : (i : ℕ) (up : List (List Label)) → change_at (λ link. get_or up i []) i up ≡ up
own-link i [] = refl
own-link zero (ls ∷ up) = refl
own-link (suc i) (ls ∷ up) = ap (λ (rest : List (List Label)). ls ∷ rest) (own-link i up)

own-box : (v : NodeId) (z : ℕ) (ss : List SerializerSeen) → change_at (λ s. with_box s v (elim (slice_get ss z) [ None ↦ [] | Some t ↦ outbox t v ])) z ss ≡ ss
own-box v z [] = refl
own-box v zero (s ∷ ss) = ap (λ (t : SerializerSeen). t ∷ ss) (lent.with-own s v)
own-box v (suc z) (s ∷ ss) = ap (λ (rest : List SerializerSeen). s ∷ rest) (own-box v z ss)

pub link-own : (n : NetSeen) (u v : NodeId) → with_link n u v (link_of n u v) ≡ n
link-own n (Site i) v = ap (λ (up : List (List Label)). record n { up = up }) (own-link i n.up)
link-own n (Serializer z) v = ap (λ (ss : List SerializerSeen). record n { serializers = ss }) (own-box v z n.serializers)

-- what is put there last counts
pub link-twice : (n : NetSeen) (u v : NodeId) (ks ls : List Label) → with_link (with_link n u v ks) u v ls ≡ with_link n u v ls
link-twice n (Site i) v ks ls = ap (λ (up : List (List Label)). record n { up = up }) (change-twice (λ link. ks) (λ link. ls) i n.up)
link-twice n (Serializer z) v ks ls = ap (λ (ss : List SerializerSeen). record n { serializers = ss })
    (change-twice (λ s. with_box s v ks) (λ s. with_box s v ls) z n.serializers ∙
    change-same (λ s. with_box (with_box s v ks) v ls) (λ s. with_box s v ls) z n.serializers (λ s. lent.with-twice s v ks ls))

-- the oldest of it leaves
pub give-link : (n : NetSeen) (u v : NodeId) (ls : List Label) → after_give (with_link n u v ls) u v ≡ with_link n u v (drop 1 ls)
give-link n (Site i) v ls = ap (λ (up : List (List Label)). record n { up = up }) (change-twice (λ link. ls) (λ link. drop 1 link) i n.up)
give-link n (Serializer z) v ls = ap (λ (ss : List SerializerSeen). record n { serializers = ss })
    (change-twice (λ s. with_box s v ls) (λ s. after_ship s v) z n.serializers ∙
    change-same (λ s. after_ship (with_box s v ls) v) (λ s. with_box s v (drop 1 ls)) z n.serializers (λ s. lent.ship-with s v ls))

serializer-of : (t : TreeShape) (z : ℕ) (s : SerializerSeen) → IsPlaced t z s → z < length t.parents → IsSerializer s
serializer-of t z s p less = record {
  inner = subst (λ (x : TreeShape). s.number < length x.parents) (sym p.tree) (subst (λ (y : ℕ). y < length t.parents) (sym p.number) less);
  each = own-count t z s p;
}

-- it stands there
pub link-at : (n : NetSeen) (u v : NodeId) (ls : List Label) → IsNet n → IsNode n.tree u → IsNode n.tree v → is_edge n.tree u v ≡ true → link_of (with_link n u v ls) u v ≡ ls
link-at n (Site i) v ls k less node edge =
    get-change (λ link. ls) n.up i i [] (subst (λ (c : ℕ). i < c) (sym k.up) less) ∙
    ap (λ (b : Bool). if b then ls else get_or n.up i []) (same-number i)
link-at n (Serializer z) v ls k less node edge =
    read-change (λ s. with_box s v ls) (λ s. outbox s v) [] n.serializers z z ∙
    (ap (λ (b : Bool). if b then now (slice_get n.serializers z) else was (slice_get n.serializers z)) (same-number z) ∙
    at (there-is n.serializers z (subst (λ (c : ℕ). z < c) (sym k.serializers) less)))
  where
    now : Option SerializerSeen → List Label
    now o = elim o [ None ↦ [] | Some s ↦ outbox (with_box s v ls) v ]

    was : Option SerializerSeen → List Label
    was o = elim o [ None ↦ [] | Some s ↦ outbox s v ]

    at : (t : (s : SerializerSeen) × (slice_get n.serializers z ≡ Some s)) → now (slice_get n.serializers z) ≡ ls
    at t =
        let p : IsPlaced n.tree z t.0 = k.placed z t.0 t.1 in
        let nb : IsNeighbour t.0.tree t.0.number v = subst (λ (x : TreeShape). IsNeighbour x t.0.number v) (sym p.tree) (subst (λ (y : ℕ). IsNeighbour n.tree y v) (sym p.number) (record { node = node; edge = edge })) in
        ap now t.1 ∙ lent.box-with t.0 v ls (serializer-of n.tree z t.0 p less) nb

-- what is read from a serializer's outbox is what stands on the link
pub labels-at : (m n : NetSeen) (u : NodeId) (z : ℕ) (v : NodeId) (r : List Label) → m ≡ n → IsNet m → u ≡ Serializer z → IsNode n.tree u →
    ((s : SerializerSeen) → slice_get m.serializers z ≡ Some s → r ≡ outbox s v) → r ≡ link_of n u v
labels-at m n u z v r same k is node read =
    let less : z < length n.tree.parents = subst (IsNode n.tree) is node in
    let inner : z < length m.serializers = subst (λ (c : ℕ). z < c) (sym k.serializers) (subst (λ (n : NetSeen). z < length n.tree.parents) (sym same) less) in
    let t : (s : SerializerSeen) × (slice_get m.serializers z ≡ Some s) = there-is m.serializers z inner in
    read t.0 t.1 ∙
    (ap (λ (o : Option SerializerSeen). elim o [ None ↦ [] | Some s ↦ outbox s v ]) (sym t.1) ∙
    (λ i. link_of (same i) (sym is i) v))

-- ---- what stays

in-count : (v : NodeId) (ls : List Label) (nodes : List NodeId) (boxes : List (List Label)) → length boxes ≡ length nodes → length (box_in v ls nodes boxes) ≡ length nodes
in-count v ls [] boxes e = e
in-count v ls (u ∷ nodes) [] e = e
in-count v ls (u ∷ nodes) (box ∷ boxes) e = go (node_eq v u) (in-count v ls nodes boxes (omega arith))
  where
    go : (b : Bool) → length (box_in v ls nodes boxes) ≡ length nodes → length (if b then ls ∷ boxes else box ∷ box_in v ls nodes boxes) ≡ suc (length nodes)
    go true rest = e
    go false rest = ap suc rest

placed-box : (t : TreeShape) (v : NodeId) (ls : List Label) (z : ℕ) (s : SerializerSeen) → IsPlaced t z s → IsPlaced t z (with_box s v ls)
placed-box t v ls z s p = record {
  tree = p.tree;
  number = p.number;
  each = in-count v ls (neighbours s.tree s.number) s.outboxes (own-count t z s p) ∙ (λ i. length (neighbours (p.tree i) (p.number i)));
}

pub net-link : (n : NetSeen) (u v : NodeId) (ls : List Label) → IsNet n → IsNet (with_link n u v ls)
net-link n (Site i) v ls k = changed-link n (λ link. ls) i k
net-link n (Serializer z) v ls k = changed-serializer n (λ s. with_box s v ls) z k (placed-box n.tree v ls)

pub tree-link : (n : NetSeen) (u v : NodeId) (ls : List Label) → (with_link n u v ls).tree ≡ n.tree
tree-link n (Site i) v ls = refl
tree-link n (Serializer z) v ls = refl

pub dead-link : (n : NetSeen) (u v : NodeId) (ls : List Label) (z : ℕ) → is_dead (with_link n u v ls) z ≡ is_dead n z
dead-link n (Site i) v ls z = refl
dead-link n (Serializer y) v ls z = read-same (λ s. with_box s v ls) (λ s. s.killed) false n.serializers y z (λ s. refl)

-- ---- the link to a site

pub link-with : (n : NetSeen) (j : ℕ) (ls : List Label) → IsNet n → j < length n.tree.seats → link_to (with_link_to n j ls) j ≡ ls
link-with n j ls k less = link-at n (Serializer (seat_of n.tree j)) (Site j) ls k (k.tree.seats j) less (from-seat n.tree j)

pub with-twice : (n : NetSeen) (j : ℕ) (ks ls : List Label) → with_link_to (with_link_to n j ks) j ls ≡ with_link_to n j ls
with-twice n j ks ls = link-twice n (Serializer (seat_of n.tree j)) (Site j) ks ls

pub with-own : (n : NetSeen) (j : ℕ) → with_link_to n j (link_to n j) ≡ n
with-own n j = link-own n (Serializer (seat_of n.tree j)) (Site j)

pub take-with : (n : NetSeen) (j : ℕ) (ls : List Label) → after_take (with_link_to n j ls) j ≡ with_link_to n j (drop 1 ls)
take-with n j ls = give-link n (Serializer (seat_of n.tree j)) (Site j) ls
