-- An act again and again: from what the parts do one after another to what the world has done.
use Rattle.std.specs.Prelude.{OnErr, Result, Ok, Err, ◌≡◌, ◌-◌, ◌+◌, ℕ, suc, Bool, true, false, List, set, Option, Some, slice_get, refl}
use Rattle.std.proofs.Common.{sym, subst, ap, ◌∙◌}
use Rattle.std.proofs.lemmas.List.{set-set}
use Rattle.sat_label.specs.declared.node.NodeId.{NodeId}
use Rattle.sat_label.specs.declared.node.NodeId.TheVariants.{Serializer}
use Rattle.sat_sites.specs.Interested.{IsLabelOf, Interested}
use Rattle.sat_act.specs.declared.act.Act.{Act}
use Rattle.sat_act.specs.declared.act.Act.TheVariants as act
use Rattle.sat_act.specs.declared.answer.Answer.{Answer}
use Rattle.sat_act.specs.declared.answer.Answer.TheVariants as ans
use Rattle.sat_act.specs.declared.answer.Refusal.TheVariants as why
use Rattle.sat_act.specs.Ranges.{IsActOf}
use Rattle.sat_act.specs.Runs.{is_settle}
use Rattle.sat_act.specs.Settling.{is_done}
use Rattle.sat_model.specs.OnLinks.{IsOnLink}
use Rattle.sat_net.specs.Nets.{NetSeen, is_dead, after_hop, HopsOn, HopsOut, MayHopAll, none, more}
use Rattle.sat_net.specs.NetStands.{IsNetOf}
use Rattle.sat_serial.specs.Routes.{routes}
use Rattle.sat_world.specs.Again.{Again, Spends}
use Rattle.sat_world.specs.Again as times
use Rattle.sat_world.specs.Seen.{WorldSeen}
use Rattle.sat_world.specs.Steps.{Counts, Goes, Hops, finds_dead, finds_none, hops, HopsOnAt, HopsOutAt}
use Rattle.sat_world.specs.Worlds.{IsWorld}
use Rattle.sat_world.proofs.Counted.{applies, is_showing, plainly}
use Rattle.sat_world.proofs.Counting.{recounted}
use Rattle.sat_world.proofs.Deeds.{did-hop, has-kind, hop-edge, leads-on}
use Rattle.sat_world.proofs.Hops.{IsEdge}
use Rattle.sat_world.proofs.Laws.{leads-to}
use Rattle.sat_world.proofs.Lists.{get-set, set-same, within}
use Rattle.sat_world.proofs.Runs.{stays}

-- ---- one time more

-- a world at which an act was done so many times
pub record Gone (a : Act) (w : WorldSeen) (n : ℕ) (v : WorldSeen) : Type 0 where
  pub again : Again a w n v
  pub world : IsWorld v

pub gone-none : (a : Act) (w v : WorldSeen) → v ≡ w → IsWorld w → Gone a w 0 v
gone-none a w v e k = subst (Gone a w 0) (sym e) (record { again = times.none; world = k })

-- an act that shows nothing
pub gone-more : (a : Act) (w v u : WorldSeen) (n : ℕ) (r : Answer) → Gone a w n v → IsActOf v.deployment a → is_settle a ≡ false → is_showing a ≡ false → Goes v a r u → is_done r ≡ true → Gone a w (suc n) u
gone-more a w v u n r g b p f go d = record { again = times.more r g.again (plainly v v u a r refl g.world b p f go) d; world = stays v v u a r refl g.world b p go }

-- and one that is counted
pub gone-counted : (a : Act) (w v u : WorldSeen) (n : ℕ) (r : Answer) → Gone a w n v → IsActOf v.deployment a → is_settle a ≡ false → Counts v a r u → is_done r ≡ true → Gone a w (suc n) u
gone-counted a w v u n r g b p c d = record {
  again = times.more r g.again (applies v v u a r refl g.world b p c) d;
  world = recounted (record u { shown = v.shown }) u.shown (stays v v (record u { shown = v.shown }) a r refl g.world b p c.goes);
}

-- the same from a world that is seen
pub gone-from : (a : Act) (w v u : WorldSeen) (n : ℕ) → w ≡ v → Gone a w n u → Again a v n u
gone-from a w v u n e g = subst (λ (x : WorldSeen). Again a x n u) e g.again

pub spent-from : (a : Act) (w v u : WorldSeen) (n : ℕ) → w ≡ v → Spends a w n u → Spends a v n u
spent-from a w v u n e s = subst (λ (x : WorldSeen). Spends a x n u) e s

-- ---- hops over a link

module _ (w : WorldSeen) (e : ℕ) (u : NodeId) (z : ℕ) (net : NetSeen) (k : IsWorld w) (b : IsActOf w.deployment (act.Hop e u z)) (at : slice_get w.nets (e - 1) ≡ Some (Some net)) where
  abbrev with_net : NetSeen → WorldSeen
  with_net m = record w { nets = set w.nets (e - 1) (Some m) }

  same-net : with_net net ≡ w
  same-net = λ i. record w { nets = set-same w.nets (e - 1) (Some net) at i }

  net-at : (m : NetSeen) → slice_get (set w.nets (e - 1) (Some m)) (e - 1) ≡ Some (Some m)
  net-at m = get-set w.nets (e - 1) (Some m) (within w.nets (e - 1) (Some net) at)

  goes-on : (m after : NetSeen) (r : Answer) → IsWorld (with_net m) → Hops m w.interest u z r after → Goes (with_net m) (act.Hop e u z) r (with_net after)
  goes-on m after r q h =
      did-hop (with_net m) (with_net m) e u z r (set w.nets (e - 1) (Some after)) refl q b
      (record { before = m; after = after; at = net-at m; hop = h; rest = sym (set-set w.nets (e - 1) (Some m) (Some after)) })

  hops-gone : (n : ℕ) (m : NetSeen) → HopsOn w.interest u z net n m → Gone (act.Hop e u z) w n (with_net m)
  hops-gone n m none = gone-none (act.Hop e u z) w (with_net net) same-net k
  hops-gone n m (more i before l h alive front) =
      let g : Gone (act.Hop e u z) w i (with_net before) = hops-gone i before h in
      let r : Answer = ans.Hopped l (routes w.interest before.tree z u l) in
      gone-more (act.Hop e u z) w (with_net before) (with_net (after_hop before w.interest u z l)) i r g b refl refl
      (goes-on before (after_hop before w.interest u z l) r g.world (hops l alive front)) refl

  refused-by : (n : ℕ) (m : NetSeen) (r : Answer) → Gone (act.Hop e u z) w n (with_net m) → Hops m w.interest u z r m → is_done r ≡ false → Spends (act.Hop e u z) w n (with_net m)
  refused-by n m r g h undone = record {
    again = g.again;
    refusal = r;
    applies = plainly (with_net m) (with_net m) (with_net m) (act.Hop e u z) r refl g.world b refl refl (goes-on m m r g.world h);
    undone = undone;
  }

  hops-spent : (n : ℕ) (m : NetSeen) → HopsOut w.interest u z net n m → Spends (act.Hop e u z) w n (with_net m)
  hops-spent n m h = go (is_dead m z) refl
    where
      g : Gone (act.Hop e u z) w n (with_net m)
      g = hops-gone n m h.hops

      go : (d : Bool) → is_dead m z ≡ d → Spends (act.Hop e u z) w n (with_net m)
      go true d = refused-by n m (ans.Refused why.Dead) g (finds_dead d) refl
      go false d = refused-by n m (ans.Refused why.Empty) g (finds_none d (h.left d)) refl

-- what they are of the world that the code sees
pub act-seen : (w v : WorldSeen) (a : Act) → w ≡ v → IsActOf v.deployment a → IsActOf w.deployment a
act-seen w v a is b = subst (λ (x : WorldSeen). IsActOf x.deployment a) (sym is) b

pub did-hops : (w v : WorldSeen) (e : ℕ) (u : NodeId) (z n : ℕ) (nets : List (Option NetSeen)) → w ≡ v → IsWorld w → IsActOf v.deployment (act.Hop e u z) → HopsOnAt w.nets (e - 1) w.interest u z n nets → Gone (act.Hop e u z) w n (record w { nets = nets })
did-hops w v e u z n nets is k b h =
    subst (λ (ns : List (Option NetSeen)). Gone (act.Hop e u z) w n (record w { nets = ns })) (sym h.rest)
    (hops-gone w e u z h.before k (act-seen w v (act.Hop e u z) is b) h.at n h.after h.hops)

pub did-all-hops : (w v : WorldSeen) (e : ℕ) (u : NodeId) (z n : ℕ) (nets : List (Option NetSeen)) → w ≡ v → IsWorld w → IsActOf v.deployment (act.Hop e u z) → HopsOutAt w.nets (e - 1) w.interest u z n nets → Spends (act.Hop e u z) v n (record w { nets = nets })
did-all-hops w v e u z n nets is k b h =
    spent-from (act.Hop e u z) w v (record w { nets = nets }) n is
    (subst (λ (ns : List (Option NetSeen)). Spends (act.Hop e u z) w n (record w { nets = ns })) (sym h.rest)
    (hops-spent w e u z h.before k (act-seen w v (act.Hop e u z) is b) h.at n h.after h.hops))

-- hops until none is left are some
pub out-on : (nets now : List (Option NetSeen)) (n : ℕ) (a : Interested) (u : NodeId) (z count : ℕ) → HopsOutAt nets n a u z count now → HopsOnAt nets n a u z count now
out-on nets now n a u z count h = record { before = h.before; after = h.after; at = h.at; hops = h.hops.hops; rest = h.rest }

-- what they ask for
pub hop-may-all : (w v : WorldSeen) (e : ℕ) (u : NodeId) (z : ℕ) (net : NetSeen) → w ≡ v → IsWorld w → IsActOf v.deployment (act.Hop e u z) → slice_get w.nets (e - 1) ≡ Some (Some net) → MayHopAll net w.interest u z
hop-may-all w v e u z net is k b at =
    let edge : IsEdge w.deployment (e - 1) net u z = hop-edge w v e u z net is k b at in
    let of : IsNetOf w.deployment ((e - 1) + 1) net = k.frame.planted (e - 1) (Some net) at in
    record {
      sites = ap (λ (a : Interested). a.sites) k.frame.interest ∙ sym (of.deployment.all_seated ((e - 1) + 1) net.tree of.tree);
      node = edge.node;
      edge = edge.edge;
      label = λ l alive m. let o : IsOnLink w.deployment net.tree u (Serializer z) l = leads-on w (e - 1) net u z l k at edge m in
          subst (λ (a : Interested). IsLabelOf a l) (sym k.frame.interest) (record { own = o.site; kind = has-kind w.deployment l.kind o.kind });
      target = λ l alive m. leads-to w.deployment w.interest net.tree u (Serializer z) l k.frame.interest ∙ (leads-on w (e - 1) net u z l k at edge m).target;
    }

-- a fact that holds after want of memory
pub on-err : {X E : Type 0} (r : Result X E) (P : Type 0) → P → OnErr r P
on-err (Ok x) P p = tt
on-err (Err e) P p = p

-- hops that ended for want of memory
pub hops-some : (nets : List (Option NetSeen)) (n : ℕ) (a : Interested) (u : NodeId) (z : ℕ) (before : NetSeen) {after : NetSeen} → slice_get nets n ≡ Some (Some before) → (count : ℕ) × HopsOn a u z before count after → (count : ℕ) × HopsOnAt nets n a u z count (set nets n (Some after))
hops-some nets n a u z before {after = after} at h = (h.0, record { before = before; after = after; at = at; hops = h.1; rest = refl })

pub some-hops : (w v : WorldSeen) (e : ℕ) (u : NodeId) (z : ℕ) (nets : List (Option NetSeen)) → w ≡ v → IsWorld w → IsActOf v.deployment (act.Hop e u z) → (n : ℕ) × HopsOnAt w.nets (e - 1) w.interest u z n nets → (n : ℕ) × Again (act.Hop e u z) v n (record w { nets = nets })
some-hops w v e u z nets is k b h = (h.0, gone-from (act.Hop e u z) w v (record w { nets = nets }) h.0 is (did-hops w v e u z h.0 nets is k b h.1))
