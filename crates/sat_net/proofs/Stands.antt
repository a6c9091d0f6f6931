-- Each change of a net is what the links of a history become.
use Rattle.std.specs.Prelude.{◌≡◌, ◌<◌, ℕ, Bool, true, false, not, ◌&&◌, ◌==◌, List, [], ◌∷◌, ◌++◌, length, drop, Option, Some, None, slice_get, if◌then◌else◌, refl}
use Rattle.std.proofs.Common.{sym, subst, ap, ◌∙◌}
use Rattle.std.proofs.lemmas.Bool.{and_parts, eqb-true}
use Rattle.std.proofs.lemmas.List.{append-nil}
use Rattle.sat_label.proofs.Truth.{same-number}
use Rattle.sat_label.proofs.SameNodes.{same-node}
use Rattle.sat_label.specs.declared.label.Label.{Label}
use Rattle.sat_label.specs.declared.node.NodeId.{NodeId}
use Rattle.sat_label.specs.declared.node.NodeId.TheVariants.{Site, Serializer}
use Rattle.sat_label.specs.Order.{node_eq}
use Rattle.sat_sites.specs.Interested.{Interested}
use Rattle.sat_tree.specs.Shape.{TreeShape}
use Rattle.sat_tree.specs.Cut.{seat_of, is_edge, IsNode}
use Rattle.sat_act.specs.Deployed.{Deployed}
use Rattle.sat_act.specs.Parts.{Handling, tree_of, seat_in, came_from, goes_beyond, is_put, is_taken}
use Rattle.sat_model.specs.Interests.{interest_of}
use Rattle.sat_model.specs.World.{link_next}
use Rattle.sat_serial.specs.Routes.{leads, routes, goes}
use Rattle.sat_net.specs.Nets.{NetSeen, link_of, after_copies, after_hop}
use Rattle.sat_net.specs.NetStands.{handled_at, links_next}
use Rattle.sat_net.specs.Laws.{NetsStart, SendsGoUp, OthersStayDown, HopsGoOn, SitesTake, KillsLeaveLinks, OthersStay, RestStays, SitesFind, SeatsAreSeats, HopsFind, HopsMayGo, RoutesAreTargets}
use Rattle.sat_net.proofs.Targets.{leads-is, routes-are}
use Rattle.sat_net.proofs.Edges.{at-seat, from-seat, no-edge, apart, edge-within}
use Rattle.sat_net.proofs.Kept.{net-copies}
use Rattle.sat_net.proofs.Links.{fresh-link, fresh-alive, sent-link, given-link, copied-link, give-dead, copies-dead, kill-dead, kill-link}

-- ---- tests

and-no : (b : Bool) → (b && false) ≡ false
and-no true = refl
and-no false = refl

and-swap : (a b : Bool) → (a && b) ≡ (b && a)
and-swap true true = refl
and-swap true false = refl
and-swap false true = refl
and-swap false false = refl

-- ---- one link of the epoch

-- a link that gives its front where one test holds, and gets a label where another does
abbrev link_by : Bool → Bool → Label → List Label → List Label
link_by gives gets l ls = (if gives then drop 1 ls else ls) ++ (if gets then l ∷ [] else [])

link-still : (a b : Bool) (l : Label) (ls : List Label) → a ≡ false → b ≡ false → link_by a b l ls ≡ ls
link-still a b l ls e f = (λ i. link_by (e i) (f i) l ls) ∙ append-nil ls

link-gives : (a b : Bool) (l : Label) (ls : List Label) → b ≡ false → link_by a b l ls ≡ (if a then drop 1 ls else ls)
link-gives a b l ls e = ap (λ (b : Bool). link_by a b l ls) e ∙ append-nil (if a then drop 1 ls else ls)

link-gets : (a b : Bool) (l : Label) (ls : List Label) → a ≡ false → link_by a b l ls ≡ (if b then ls ++ l ∷ [] else ls)
link-gets a true l ls e = ap (λ (a : Bool). link_by a true l ls) e
link-gets a false l ls e = ap (λ (a : Bool). link_by a false l ls) e ∙ append-nil ls

-- a link gives or gets, and not both
link-both : (a b : Bool) (l : Label) (ls : List Label) → (a ≡ true → b ≡ true → ⊥) → link_by a b l ls ≡ (if a then drop 1 (if b then ls ++ l ∷ [] else ls) else (if b then ls ++ l ∷ [] else ls))
link-both true true l ls never = absurd (never refl refl)
link-both true false l ls never = append-nil (drop 1 ls)
link-both false true l ls never = refl
link-both false false l ls never = append-nil ls

-- whether a label that came from o, if from any, came from v
abbrev from_there : Option NodeId → NodeId → Bool
from_there o v = elim o [ None ↦ false | Some u ↦ node_eq u v ]

-- a label that was handled in the epoch of the tree
moved : (d : Deployed) (e : ℕ) (t : TreeShape) (w : NodeId) (o : Option NodeId) (l : Label) (u v : NodeId) (ls : List Label) → tree_of d e ≡ Some t →
    link_next d (Some (handled_at e w o l)) e u v ls ≡ link_by (node_eq w v && from_there o u) (node_eq w u && (not (from_there o v) && goes_beyond d t u v l)) l ls
moved d e t w o l u v ls tree =
    ap (λ (q : Option TreeShape). elim q [ None ↦ [] | Some t ↦ (if is_taken e u v (handled_at e w o l) then drop 1 ls else ls) ++ (if is_put d e t u v (handled_at e w o l) then l ∷ [] else []) ]) tree ∙
    ap (λ (b : Bool). link_by ((b && node_eq w v) && from_there o u) ((b && node_eq w u) && (not (from_there o v) && goes_beyond d t u v l)) l ls) (same-number e)

-- a label that was handled in another epoch, or none
unmoved : (d : Deployed) (e : ℕ) (t : TreeShape) (x : Handling) (u v : NodeId) (ls : List Label) → tree_of d e ≡ Some t → (x.epoch == e) ≡ false → link_next d (Some x) e u v ls ≡ ls
unmoved d e t x u v ls tree other =
    ap (λ (q : Option TreeShape). elim q [ None ↦ [] | Some t ↦ (if is_taken e u v x then drop 1 ls else ls) ++ (if is_put d e t u v x then x.label ∷ [] else []) ]) tree ∙
    link-still (is_taken e u v x) (is_put d e t u v x) x.label ls
    (ap (λ (b : Bool). (b && node_eq x.node v) && came_from x u) other)
    (ap (λ (b : Bool). (b && node_eq x.node u) && (not (came_from x v) && goes_beyond d t u v x.label)) other)

still : (d : Deployed) (e : ℕ) (t : TreeShape) (u v : NodeId) (ls : List Label) → tree_of d e ≡ Some t → link_next d None e u v ls ≡ ls
still d e t u v ls tree = ap (λ (q : Option TreeShape). elim q [ None ↦ [] | Some t ↦ ls ]) tree

pub leads-to : (d : Deployed) (a : Interested) (t : TreeShape) (u v : NodeId) (l : Label) → a ≡ interest_of d → leads a t u v l ≡ goes_beyond d t u v l
leads-to d a t u v l is = ap (λ (a : Interested). leads a t u v l) is ∙ leads-is d t u v l

-- ---- a new net

pub starts : NetsStart
starts t = record { each = λ u v from to edge. fresh-link t u v from; killed = λ z less. fresh-alive t z less }

-- ---- a site sends

-- what the history puts on a site's own link
module _ (d : Deployed) (n : NetSeen) (a : Interested) (i : ℕ) (l : Label) (b : Bool) (is : a ≡ interest_of d) (leads-out : leads a n.tree (Site i) (Serializer (seat_of n.tree i)) l ≡ b) where
  up-test : (u v : NodeId) → is_edge n.tree u v ≡ true → (node_eq (Site i) u && (true && goes_beyond d n.tree u v l)) ≡ (node_eq (Site i) u && b)
  up-test (Serializer z) v e = refl
  up-test (Site m) (Site k) e = absurd (let g : is_edge n.tree (Site m) (Site k) ≡ false = no-edge n.tree m k in cc)
  up-test (Site m) (Serializer z) e = go (i == m) refl
    where
      out : i ≡ m → goes_beyond d n.tree (Site m) (Serializer z) l ≡ b
      out same =
          let at : seat_of n.tree i ≡ z = subst (λ (j : ℕ). seat_of n.tree j ≡ z) (sym same) (at-seat n.tree m z e) in
          sym (leads-to d a n.tree (Site m) (Serializer z) l is) ∙ ((λ j. leads a n.tree (Site (sym same j)) (Serializer (sym at j)) l) ∙ leads-out)

      go : (c : Bool) → (i == m) ≡ c → (c && (true && goes_beyond d n.tree (Site m) (Serializer z) l)) ≡ (c && b)
      go true same = out (eqb-true i m same)
      go false other = refl

pub sends : SendsGoUp
sends d e n a links dead i l k is st less out = record {
  each = λ u v from to edge.
      sent-link n i l u v (subst (λ (c : ℕ). i < c) (sym (k.net.up ∙ k.deployment.all_seated e n.tree k.tree)) less) ∙
      (ap (λ (ls : List Label). if node_eq (Site i) u then ls ++ l ∷ [] else ls) (st.each u v from to edge) ∙
      sym (moved d e n.tree (Site i) None l u v (links u v) k.tree ∙
      (link-gets (node_eq (Site i) v && false) (node_eq (Site i) u && (true && goes_beyond d n.tree u v l)) l (links u v) (and-no (node_eq (Site i) v)) ∙
      ap (λ (b : Bool). if b then links u v ++ l ∷ [] else links u v) (up-test d n a i l true is out u v edge ∙ and-yes (node_eq (Site i) u)))));
  killed = st.killed;
}
  where
    and-yes : (b : Bool) → (b && true) ≡ b
    and-yes true = refl
    and-yes false = refl

pub keeps : OthersStayDown
keeps d e n a links dead i l k is st less out = record {
  each = λ u v from to edge. st.each u v from to edge ∙
      sym (moved d e n.tree (Site i) None l u v (links u v) k.tree ∙
      link-still (node_eq (Site i) v && false) (node_eq (Site i) u && (true && goes_beyond d n.tree u v l)) l (links u v) (and-no (node_eq (Site i) v)) (up-test d n a i l false is out u v edge ∙ and-no (node_eq (Site i) u)));
  killed = st.killed;
}

-- ---- a site takes

pub takes : SitesTake
takes d e n links dead j l k st less = record {
  each = λ u v from to edge.
      given-link n (Serializer (seat_of n.tree j)) (Site j) u v k.net (k.net.tree.seats j) (from-seat n.tree j) edge ∙
      (ap (λ (ls : List Label). if node_eq (Serializer (seat_of n.tree j)) u && node_eq (Site j) v then drop 1 ls else ls) (st.each u v from to edge) ∙
      (ap (λ (b : Bool). if b then drop 1 (links u v) else links u v) (and-swap (node_eq (Serializer (seat_of n.tree j)) u) (node_eq (Site j) v)) ∙
      sym (moved d e n.tree (Site j) (Some (Serializer (seat_of n.tree j))) l u v (links u v) k.tree ∙
      link-gives (node_eq (Site j) v && node_eq (Serializer (seat_of n.tree j)) u) (node_eq (Site j) u && (not (node_eq (Serializer (seat_of n.tree j)) v) && goes_beyond d n.tree u v l)) l (links u v) (none u v edge))));
  killed = λ z less. give-dead n (Serializer (seat_of n.tree j)) (Site j) z ∙ st.killed z less;
}
  where
    none : (u v : NodeId) → is_edge n.tree u v ≡ true → (node_eq (Site j) u && (not (node_eq (Serializer (seat_of n.tree j)) v) && goes_beyond d n.tree u v l)) ≡ false
    none (Serializer z) v edge = refl
    none (Site m) (Site p) edge = absurd (let g : is_edge n.tree (Site m) (Site p) ≡ false = no-edge n.tree m p in cc)
    none (Site m) (Serializer z) edge = go (j == m) refl
      where
        go : (c : Bool) → (j == m) ≡ c → (c && (not (seat_of n.tree j == z) && goes_beyond d n.tree (Site m) (Serializer z) l)) ≡ false
        go false other = refl
        go true same =
            let at : seat_of n.tree j ≡ z = subst (λ (p : ℕ). seat_of n.tree p ≡ z) (sym (eqb-true j m same)) (at-seat n.tree m z edge) in
            ap (λ (p : ℕ). not (seat_of n.tree j == p) && goes_beyond d n.tree (Site m) (Serializer z) l) (sym at) ∙
            ap (λ (b : Bool). not b && goes_beyond d n.tree (Site m) (Serializer z) l) (same-number (seat_of n.tree j))

-- ---- a serializer hands on

pub hops : HopsGoOn
hops d e n a links dead u z l k is st node edge = record {
  each = each;
  killed = λ y less. give-dead (after_copies n a u z l) u (Serializer z) y ∙ (copies-dead n a u z l y ∙ st.killed y less);
}
  where
    -- what the serializer hands on is what the history puts on its links
    same-test : (p q : NodeId) → (node_eq (Serializer z) p && goes a n.tree z u l q) ≡ (node_eq (Serializer z) p && (not (node_eq u q) && goes_beyond d n.tree p q l))
    same-test (Site m) q = refl
    same-test (Serializer y) q = go (z == y) refl
      where
        go : (c : Bool) → (z == y) ≡ c → (c && goes a n.tree z u l q) ≡ (c && (not (node_eq u q) && goes_beyond d n.tree (Serializer y) q l))
        go false other = refl
        go true same = ap (λ (b : Bool). not (node_eq u q) && b) (leads-to d a n.tree (Serializer z) q l is ∙ ap (λ (m : ℕ). goes_beyond d n.tree (Serializer m) q l) (eqb-true z y same))

    -- no edge goes from a serializer to itself
    never : (p q : NodeId) → is_edge n.tree p q ≡ true → (node_eq (Serializer z) q && node_eq u p) ≡ true → (node_eq (Serializer z) p && (not (node_eq u q) && goes_beyond d n.tree p q l)) ≡ true → ⊥
    never p q way gives gains =
        let from : Serializer z ≡ p = same-node (Serializer z) p (and_parts (node_eq (Serializer z) p) (not (node_eq u q) && goes_beyond d n.tree p q l) gains).0 in
        let to : Serializer z ≡ q = same-node (Serializer z) q (and_parts (node_eq (Serializer z) q) (node_eq u p) gives).0 in
        let loop : is_edge n.tree (Serializer z) (Serializer z) ≡ true = (λ i. is_edge n.tree (from i) (to i)) ∙ way in
        let ne : (z == z) ≡ false = (apart n.tree z z k.net.tree loop).apart in
        let same : (z == z) ≡ true = same-number z in
        cc

    each : (p q : NodeId) → IsNode n.tree p → IsNode n.tree q → is_edge n.tree p q ≡ true → link_of (after_hop n a u z l) p q ≡ links_next d (Some (handled_at e (Serializer z) (Some u) l)) e links p q
    each p q from to way =
        given-link (after_copies n a u z l) u (Serializer z) p q (net-copies n a u z l k.net) node edge way ∙
        (ap (λ (ls : List Label). if node_eq u p && node_eq (Serializer z) q then drop 1 ls else ls)
        (copied-link n a u z l p q k.net from to way ∙
        ((λ i. if same-test p q i then st.each p q from to way i ++ l ∷ [] else st.each p q from to way i))) ∙
        (ap (λ (b : Bool). if b then drop 1 (if node_eq (Serializer z) p && (not (node_eq u q) && goes_beyond d n.tree p q l) then links p q ++ l ∷ [] else links p q) else (if node_eq (Serializer z) p && (not (node_eq u q) && goes_beyond d n.tree p q l) then links p q ++ l ∷ [] else links p q)) (and-swap (node_eq u p) (node_eq (Serializer z) q)) ∙
        sym (moved d e n.tree (Serializer z) (Some u) l p q (links p q) k.tree ∙
        link-both (node_eq (Serializer z) q && node_eq u p) (node_eq (Serializer z) p && (not (node_eq u q) && goes_beyond d n.tree p q l)) l (links p q) (never p q way))))

-- ---- the rest

pub kills : KillsLeaveLinks
kills n links dead z k st = record {
  each = λ u v from to edge. kill-link n z u v ∙ st.each u v from to edge;
  killed = λ y less. kill-dead n z y (subst (λ (c : ℕ). y < c) (sym k.serializers) less) ∙ ap (λ (b : Bool). if z == y then true else b) (st.killed y less);
}

pub others : OthersStay
others d e n links dead x k st other = record {
  each = λ u v from to edge. st.each u v from to edge ∙ sym (unmoved d e n.tree x u v (links u v) k.tree other);
  killed = st.killed;
}

pub rests : RestStays
rests d e n links dead k st = record {
  each = λ u v from to edge. st.each u v from to edge ∙ sym (still d e n.tree u v (links u v) k.tree);
  killed = st.killed;
}

pub routes-to : RoutesAreTargets
routes-to d a t u z l is = ap (λ (a : Interested). routes a t z u l) is ∙ routes-are d t z u l

-- ---- what a call finds

pub sites-find : SitesFind
sites-find d e n links dead j k st less =
    st.each (Serializer (seat_of n.tree j)) (Site j) (k.net.tree.seats j) (subst (λ (c : ℕ). j < c) (sym (k.deployment.all_seated e n.tree k.tree)) less) (from-seat n.tree j)

pub seats-are : SeatsAreSeats
unfolding seat_in
seats-are d e n j k = ap (λ (o : Option TreeShape). elim o [ None ↦ None | Some t ↦ Some (Serializer (seat_of t j)) ]) k.tree

pub hops-find : HopsFind
hops-find d e n links dead u z k st node edge =
    let less : z < length n.tree.parents = edge-within n.tree u z k.net.tree edge in (st.each u (Serializer z) node less edge, st.killed z less)

pub hops-may-go : HopsMayGo
hops-may-go d e n a links dead u z k is st node edge each = record {
  sites = ap (λ (a : Interested). a.sites) is ∙ sym (k.deployment.all_seated e n.tree k.tree);
  node = node;
  edge = edge;
  label = λ l alive at. (each l (found l at)).0;
  target = λ l alive at. leads-to d a n.tree u (Serializer z) l is ∙ (each l (found l at)).1;
}
  where
    found : (l : Label) → slice_get (link_of n u (Serializer z)) 0 ≡ Some l → slice_get (links u (Serializer z)) 0 ≡ Some l
    found l at = subst (λ (ls : List Label). slice_get ls 0 ≡ Some l) (hops-find d e n links dead u z k st node edge).0 at
