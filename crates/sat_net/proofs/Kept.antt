-- What holds of every net holds after each change.
use Rattle.std.specs.Prelude.{◌≡◌, ◌<◌, ℕ, suc, Bool, true, false, List, [], ◌∷◌, ◌++◌, length, map, drop, Some, slice_get, cond, refl}
use Rattle.std.proofs.Common.{sym, subst, ap, ◌∙◌, arith, inl, inr}
use Rattle.std.specs.Option.{option_map}
use Rattle.std.proofs.lemmas.List.{length-replicate, length-map}
use Rattle.std.proofs.lemmas.Option.{slice_get-map, slice_get_within}
use Rattle.sat_label.specs.declared.label.Label.{Label}
use Rattle.sat_label.specs.declared.node.NodeId.{NodeId}
use Rattle.sat_label.specs.declared.node.NodeId.TheVariants.{Site, Serializer}
use Rattle.sat_label.specs.Order.{node_eq}
use Rattle.sat_label.specs.Words.{below}
use Rattle.sat_label.proofs.Numbers.{length-below, below-get}
use Rattle.sat_sites.specs.Interested.{Interested}
use Rattle.sat_tree.specs.Shape.{TreeShape}
use Rattle.sat_tree.specs.Cut.{neighbours, seat_of, IsTree}
use Rattle.sat_serial.specs.Routes.{goes}
use Rattle.sat_serial.specs.Outboxes.{SerializerSeen, fresh, change_where, boxes_without, after_handle, after_ship}
use Rattle.sat_net.specs.Nets.{NetSeen, IsPlaced, IsNet, change_at, fresh_net, after_send, after_copies, after_give, after_kill}
use Rattle.sat_net.specs.Laws.{NetsStayNets}
use Rattle.sat_laws.proofs.Labels.{some_is}
use Rattle.sat_net.proofs.Lists.{length-change, comes-from}

-- ---- one serializer

same-count : {X : Type 0} (test : X → Bool) (f : List Label → List Label) (nodes : List X) (boxes : List (List Label)) → length boxes ≡ length nodes → length (change_where test f nodes boxes) ≡ length nodes
same-count test f [] boxes e = e
same-count test f (v ∷ nodes) [] e = e
same-count test f (v ∷ nodes) (box ∷ boxes) e = ap suc (same-count test f nodes boxes (omega arith))

less-count : (v : NodeId) (nodes : List NodeId) (boxes : List (List Label)) → length boxes ≡ length nodes → length (boxes_without v nodes boxes) ≡ length nodes
less-count v [] boxes e = e
less-count v (u ∷ nodes) [] e = e
less-count v (u ∷ nodes) (box ∷ boxes) e = go (node_eq v u) (less-count v nodes boxes (omega arith))
  where
    go : (b : Bool) → length (boxes_without v nodes boxes) ≡ length nodes → length (cond b (drop 1 box ∷ boxes) (box ∷ boxes_without v nodes boxes)) ≡ suc (length nodes)
    go true rest = e
    go false rest = ap suc rest

pub own-count : (t : TreeShape) (z : ℕ) (s : SerializerSeen) → IsPlaced t z s → length s.outboxes ≡ length (neighbours s.tree s.number)
own-count t z s p = p.each ∙ (λ i. length (neighbours (sym p.tree i) (sym p.number i)))

pub placed-handle : (t : TreeShape) (a : Interested) (u : NodeId) (l : Label) (z : ℕ) (s : SerializerSeen) → IsPlaced t z s → IsPlaced t z (after_handle s a u l)
placed-handle t a u l z s p = record {
  tree = p.tree;
  number = p.number;
  each = same-count (goes a s.tree s.number u l) (λ box. box ++ l ∷ []) (neighbours s.tree s.number) s.outboxes (own-count t z s p) ∙ (λ i. length (neighbours (p.tree i) (p.number i)));
}

pub placed-ship : (t : TreeShape) (v : NodeId) (z : ℕ) (s : SerializerSeen) → IsPlaced t z s → IsPlaced t z (after_ship s v)
placed-ship t v z s p = record {
  tree = p.tree;
  number = p.number;
  each = less-count v (neighbours s.tree s.number) s.outboxes (own-count t z s p) ∙ (λ i. length (neighbours (p.tree i) (p.number i)));
}

pub placed-kill : (t : TreeShape) (z : ℕ) (s : SerializerSeen) → IsPlaced t z s → IsPlaced t z (record s { killed = true })
placed-kill t z s p = record { tree = p.tree; number = p.number; each = p.each }

-- ---- a net

-- one serializer changed, which is still at its place
pub changed-serializer : (n : NetSeen) (f : SerializerSeen → SerializerSeen) (z : ℕ) → IsNet n → ((y : ℕ) (s : SerializerSeen) → IsPlaced n.tree y s → IsPlaced n.tree y (f s)) → IsNet (record n { serializers = change_at f z n.serializers })
changed-serializer n f z k same = record {
  tree = k.tree;
  serializers = length-change f z n.serializers ∙ k.serializers;
  placed = λ y s at. elim (comes-from f n.serializers z y s at) [
    | inl w ↦ k.placed y s w
    | inr w ↦ subst (λ (s : SerializerSeen). IsPlaced n.tree y s) w.2 (same y w.0 (k.placed y w.0 w.1))
  ];
  up = k.up;
}

-- one link from a site changed
pub changed-link : (n : NetSeen) (f : List Label → List Label) (i : ℕ) → IsNet n → IsNet (record n { up = change_at f i n.up })
changed-link n f i k = record { tree = k.tree; serializers = k.serializers; placed = k.placed; up = length-change f i n.up ∙ k.up }

pub net-send : (n : NetSeen) (i : ℕ) (l : Label) → IsNet n → IsNet (after_send n i l)
net-send n i l k = changed-link n (λ link. link ++ l ∷ []) i k

pub net-copies : (n : NetSeen) (a : Interested) (u : NodeId) (z : ℕ) (l : Label) → IsNet n → IsNet (after_copies n a u z l)
net-copies n a u z l k = changed-serializer n (λ s. after_handle s a u l) z k (placed-handle n.tree a u l)

pub net-give : (n : NetSeen) (u v : NodeId) → IsNet n → IsNet (after_give n u v)
net-give n (Site i) v k = changed-link n (λ link. drop 1 link) i k
net-give n (Serializer z) v k = changed-serializer n (λ s. after_ship s v) z k (placed-ship n.tree v)

pub net-kill : (n : NetSeen) (z : ℕ) → IsNet n → IsNet (after_kill n z)
net-kill n z k = changed-serializer n (λ s. record s { killed = true }) z k (placed-kill n.tree)

pub stay-nets : NetsStayNets
stay-nets n k = record {
  sent = λ i l. net-send n i l k;
  hopped = λ a u z l. net-give (after_copies n a u z l) u (Serializer z) (net-copies n a u z l k);
  taken = λ j. net-give n (Serializer (seat_of n.tree j)) (Site j) k;
  killed = λ z. net-kill n z k;
}

-- parts in place of equal ones
pub same-net : (t : TreeShape) (ss ts : List SerializerSeen) (up vp : List (List Label)) → ss ≡ ts → up ≡ vp → IsNet (record { tree = t; serializers = ts; up = vp }) → IsNet (record { tree = t; serializers = ss; up = up })
same-net t ss ts up vp e f k = subst (λ (up : List (List Label)). IsNet (record { tree = t; serializers = ss; up = up })) (sym f) (subst (λ (ss : List SerializerSeen). IsNet (record { tree = t; serializers = ss; up = vp })) (sym e) k)

-- ---- a new net

pub fresh-at : (t : TreeShape) (n z : ℕ) → z < n → slice_get (map (fresh t) (below n)) z ≡ Some (fresh t z)
fresh-at t n z less = slice_get-map (fresh t) (below n) z ∙ ap (option_map (fresh t)) (below-get n z less)

pub net-fresh : (t : TreeShape) → IsTree t → IsNet (fresh_net t)
net-fresh t k = record {
  tree = k;
  serializers = length-map (below (length t.parents)) (fresh t) ∙ length-below (length t.parents);
  placed = λ z s at.
      let less : z < length (map (fresh t) (below (length t.parents))) = slice_get_within (map (fresh t) (below (length t.parents))) z s at in
      let within : z < length t.parents = omega (arith, length-map (below (length t.parents)) (fresh t), length-below (length t.parents)) in
      subst (λ (s : SerializerSeen). IsPlaced t z s) (some_is (fresh t z) s (sym (fresh-at t (length t.parents) z within) ∙ at))
      (record { tree = refl; number = refl; each = length-replicate (length (neighbours t z)) [] });
  up = length-replicate (length t.seats) [];
}

pub made-net : (s t : TreeShape) (ss : List SerializerSeen) (up : List (List Label)) → s ≡ t → ss ≡ (fresh_net t).serializers → up ≡ (fresh_net t).up → IsTree t → IsNet (record { tree = s; serializers = ss; up = up })
made-net s t ss up same e f k = subst (λ (s : TreeShape). IsNet (record { tree = s; serializers = ss; up = up })) (sym same) (same-net t ss (fresh_net t).serializers up (fresh_net t).up e f (net-fresh t k))
