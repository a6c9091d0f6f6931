-- From what the code knows of its fields to what an act does to a world.
use Rattle.std.specs.Prelude.{◌≡◌, ◌<◌, ◌≤◌, ◌+◌, ◌-◌, ◌^◌, ℕ, Bool, true, false, List, [], ◌∷◌, ◌++◌, length, set, get_or, take, drop, Option, Some, None, IsSome, slice_get, refl}
use Rattle.std.proofs.Common.{sym, subst, ap, ◌∙◌, arith}
use Rattle.std.proofs.lemmas.List.{length-map}
use Rattle.sat_label.specs.declared.label.Kind.{Kind}
use Rattle.sat_label.specs.declared.label.Kind.TheVariants as kind
use Rattle.sat_label.specs.declared.label.Label.{Label}
use Rattle.sat_label.specs.declared.node.NodeId.{NodeId}
use Rattle.sat_label.specs.declared.node.NodeId.TheVariants.{Serializer}
use Rattle.sat_label.specs.Members.{In}
use Rattle.sat_label.proofs.Members.{In-get}
use Rattle.sat_bulk.specs.Payloads.{Payload}
use Rattle.sat_label.specs.Grouped.{list_of}
use Rattle.sat_sites.specs.Interested.{AreBelow, Interested, IsLabelOf, IsKindOf}
use Rattle.sat_sites.specs.declared.shape.Shape.{Shape}
use Rattle.sat_tree.specs.Shape.{TreeShape}
use Rattle.sat_tree.specs.Cut.{is_edge, IsNode}
use Rattle.sat_act.specs.declared.act.Act.TheVariants as act
use Rattle.sat_act.specs.declared.answer.Answer.{Answer}
use Rattle.sat_act.specs.declared.answer.Answer.TheVariants as ans
use Rattle.sat_act.specs.declared.answer.Refusal.TheVariants as why
use Rattle.sat_act.specs.Deployed.{Deployed}
use Rattle.sat_act.specs.Limits.{IsDeployment}
use Rattle.sat_act.specs.Parts.{replicates, tree_of}
use Rattle.sat_act.specs.Ranges.{IsActOf}
use Rattle.sat_act.proofs.Plans.{tree_in_plans}
use Rattle.sat_act.proofs.Valid.{is_valid}
use Rattle.sat_client.specs.declared.client.Client.{Client}
use Rattle.sat_model.specs.Interests.{interest_of, replicas_of}
use Rattle.sat_model.specs.OnLinks.{HasKind, IsOnLink}
use Rattle.sat_model.specs.World.{world_state, link_left}
use Rattle.sat_model.proofs.OnLinks.{links-lead}
use Rattle.sat_net.specs.Nets.{NetSeen, link_of, MayHop}
use Rattle.sat_net.specs.NetStands.{IsNetOf}
use Rattle.sat_epoch.specs.Epochs.{is_stamp}
use Rattle.sat_sink.specs.Sink.{ready_of}
use Rattle.sat_site.specs.declared.input.SiteInput as code
use Rattle.sat_site.specs.declared.input.SiteInput.TheVariants as input
use Rattle.sat_site.specs.Seen.{SiteSeen, IsSite}
use Rattle.sat_site.specs.Changes.{shape_for}
use Rattle.sat_site.specs.Inputs.{fits_in}
use Rattle.sat_site.specs.SiteSteps.{keeps_item, emit_after, emit_answer, emit_sends, site_after, site_answers, site_sends}
use Rattle.sat_site.proofs.Interests.{keeps-here}
use Rattle.sat_world.specs.Clocks.{IsGreatest, AreUpTo, AreClocked}
use Rattle.sat_world.specs.Seen.{WorldSeen, HasSite, HasClient}
use Rattle.sat_world.specs.Steps.{Goes, StepsAt, Hands, act_at, is_sending, told, net_sent, net_taken, front_to, NetAt, HopsAt, KillsAt, IsNumber}
use Rattle.sat_world.specs.Worlds.{IsWorld}
use Rattle.sat_world.proofs.Laws.{leads-to}
use Rattle.sat_world.proofs.Lists.{both-are, set-same, there, within}
use Rattle.sat_world.proofs.Goes.{quiet-goes, use-goes, turn-goes, turn-hands, front-found}
use Rattle.sat_world.proofs.Hands.{fit-here, site-at, hands-at, sending-plain, read-hands, read-none, read-told, bulk-hands, bulk-none, IsInLane}
use Rattle.sat_world.proofs.Sends.{send-goes}
use Rattle.sat_world.proofs.Hops.{IsEdge, hop-goes, kill-goes, clock-goes}

-- the world that the code sees is the one of its fields
same-sites : (w v : WorldSeen) (i : ℕ) → w ≡ v → i < v.deployment.sites → i < w.deployment.sites
same-sites w v i e lt = subst (λ (v : WorldSeen). i < v.deployment.sites) (sym e) lt

-- ---- epochs

-- the place of an epoch's net
pub record Placed (w : WorldSeen) (m : ℕ) : Type 0 where
  pub within : m - 1 < length w.nets
  pub above : m ≡ (m - 1) + 1

epoch-placed : (w : WorldSeen) (i m : ℕ) (x : SiteSeen) → IsWorld w → HasSite w i x → 1 ≤ m → m ≤ length x.views.stamp → Placed w m
epoch-placed w i m x k at low high =
    let st = k.stands.sites i x at in
    let a : length x.views.stamp ≡ length w.deployment.plans = st.views.count in
    let b : length w.nets ≡ length w.deployment.plans = k.frame.nets in
    record { within = omega arith; above = omega arith }

-- that of a site's emission epoch, and of its view
pub emission-placed : (w : WorldSeen) (i m : ℕ) (x : SiteSeen) → IsWorld w → HasSite w i x → IsSite x → m ≡ x.views.emission → Placed w m
emission-placed w i m x k at sound e =
    let a : 1 ≤ x.views.view = sound.views.sound.start in let b : x.views.view ≤ x.views.emission = sound.views.sound.low in let c : x.views.emission ≤ length x.views.stamp = sound.views.sound.last in
    epoch-placed w i m x k at (omega arith) (omega arith)

pub view-placed : (w : WorldSeen) (i m : ℕ) (x : SiteSeen) → IsWorld w → HasSite w i x → IsSite x → m ≡ x.views.view → Placed w m
view-placed w i m x k at sound e =
    let a : 1 ≤ x.views.view = sound.views.sound.start in let b : x.views.view ≤ x.views.emission = sound.views.sound.low in let c : x.views.emission ≤ length x.views.stamp = sound.views.sound.last in
    epoch-placed w i m x k at (omega arith) (omega arith)

-- each site has a seat in each net
pub net-seat : (w v : WorldSeen) (i n : ℕ) (net : NetSeen) → w ≡ v → IsWorld w → i < v.deployment.sites → slice_get w.nets n ≡ Some (Some net) → i < length net.tree.seats
net-seat w v i n net e k lt at =
    let of : IsNetOf w.deployment (n + 1) net = k.frame.planted n (Some net) at in
    let a : length net.tree.seats ≡ w.deployment.sites = of.deployment.all_seated (n + 1) net.tree of.tree in
    let b : i < w.deployment.sites = same-sites w v i e lt in omega arith

-- ---- emissions, pulses and closes

pub did-send : (w v : WorldSeen) (i m : ℕ) (given : code.SiteInput) (x : SiteSeen) (sent : Option Label) (r : Answer) (ys : List SiteSeen) (nets : List (Option NetSeen)) → w ≡ v → IsWorld w → i < v.deployment.sites → is_sending (act_at i given) ≡ true → x ≡ get_or w.sites i x → IsSite x → m ≡ x.views.emission →
    sent ≡ site_sends x given → ((q : Option NetSeen) → slice_get w.nets (m - 1) ≡ Some q → NetAt w.nets (m - 1) q (net_sent q i sent) nets) → StepsAt w.sites i given r ys → Goes w (act_at i given) r (record w { sites = ys; nets = nets })
did-send w v i m given x sent r ys nets e k lt sending is sound epoch s net h =
    let at : HasSite w i x = site-at w v i x e k lt is in
    let place : Placed w m = emission-placed w i m x k at sound epoch in
    let q = there w.nets (m - 1) place.within in
    let few : m - 1 < length w.deployment.plans = (let b : length w.nets ≡ length w.deployment.plans = k.frame.nets in let a : m - 1 < length w.nets = place.within in omega arith) in
    send-goes w i (m - 1) given q.0 r sent ys nets k.frame (same-sites w v i e lt)
    (λ y here. ap (λ (z : SiteSeen). z.views.emission) (both-are (slice_get w.sites i) y x here at) ∙ (sym epoch ∙ place.above)) few sending
    (hands-at w i given (sending-plain (act_at i given) sending)) h
    (s ∙ ap (λ (x : SiteSeen). site_sends x given) (both-are (slice_get w.sites i) x h.before at h.at)) (net q.0 q.1)

-- ---- an emission of a site that has no label for one

kept-net : (q : Option NetSeen) (i : ℕ) → net_sent q i None ≡ q
kept-net None i = refl
kept-net (Some net) i = refl

sends-none : (b : Bool) (shape : Shape) (o : Option Label) → o ≡ None → None ≡ emit_sends b shape o
sends-none true shape o e = refl
sends-none false shape o e = sym (ap (emit_sends false shape) e)

idle-sends : (x : SiteSeen) → ready_of x.sink ≡ None → None ≡ site_sends x input.Emit
unfolding site_sends
idle-sends x e = sends-none (is_stamp x.views x.views.emission) x.shape (ready_of x.sink) e

idle-steps : (xs : List SiteSeen) (i : ℕ) (x : SiteSeen) → slice_get xs i ≡ Some x → IsSite x → fits_in x input.Emit ≡ true → ready_of x.sink ≡ None → StepsAt xs i input.Emit (ans.Refused why.Idle) xs
unfolding site_answers site_after
idle-steps xs i x at sound fits e = record {
  before = x;
  at = at;
  sound = sound;
  fits = fits;
  answers = sym (ap emit_answer e);
  rest = sym (ap (λ (y : SiteSeen). set xs i y) (ap (emit_after x) e) ∙ set-same xs i x at);
}

pub did-not-emit : (w v : WorldSeen) (i : ℕ) (x : SiteSeen) (o : Option Label) → w ≡ v → IsWorld w → i < v.deployment.sites → x ≡ get_or w.sites i x → IsSite x → o ≡ ready_of x.sink → o ≡ None → Goes v (act.Emit i) (ans.Refused why.Idle) v
did-not-emit w v i x o e k lt is sound found none =
    subst (λ (v : WorldSeen). Goes v (act.Emit i) (ans.Refused why.Idle) v) e
    (did-send w v i x.views.emission input.Emit x None (ans.Refused why.Idle) w.sites w.nets e k lt refl is sound refl (idle-sends x idle)
    (λ q at. record { at = at; rest = sym (ap (λ (p : Option NetSeen). set w.nets (x.views.emission - 1) p) (kept-net q i) ∙ set-same w.nets (x.views.emission - 1) q at) })
    (idle-steps w.sites i x here sound (fit-here w v (act.Emit i) i input.Emit e k lt (hands-at w i input.Emit refl) x here sound) idle))
  where
    idle : ready_of x.sink ≡ None
    idle = sym found ∙ none

    here : HasSite w i x
    here = site-at w v i x e k lt is

-- the label that a site would emit next, at its place
pub next-at : (w v : WorldSeen) (i : ℕ) (x : SiteSeen) (o : Option Label) (l : Label) → w ≡ v → IsWorld w → i < v.deployment.sites → x ≡ get_or w.sites i x → o ≡ ready_of x.sink → o ≡ Some l → (y : SiteSeen) → slice_get w.sites i ≡ Some y → ready_of y.sink ≡ Some l
next-at w v i x o l e k lt at found is y here = ap (λ (z : SiteSeen). ready_of z.sink) (both-are (slice_get w.sites i) y x here (site-at w v i x e k lt at)) ∙ (sym found ∙ is)

-- ---- turn

-- what the code finds at the front
abbrev pub IsFrontIn : List (Option NetSeen) → ℕ → ℕ → Option Label → Type 0
IsFrontIn nets m j front = (q : Option NetSeen) → slice_get nets (m - 1) ≡ Some q → front ≡ front_to q j

pub seen-front : (nets : List (Option NetSeen)) (m j : ℕ) (front : Option Label) (ns : List (Option NetSeen)) → ns ≡ nets → ((q : Option NetSeen) → slice_get ns (m - 1) ≡ Some q → front ≡ front_to q j) → IsFrontIn nets m j front
seen-front nets m j front ns e f = λ q at. f q (ap (λ (ns : List (Option NetSeen)). slice_get ns (m - 1)) e ∙ at)

pub turn-handed : (w v : WorldSeen) (j m : ℕ) (x : SiteSeen) (front : Option Label) → w ≡ v → IsWorld w → j < v.deployment.sites → x ≡ get_or w.sites j x → IsSite x → m ≡ x.views.view → IsFrontIn w.nets m j front → Hands w (act.Turn j) j (input.Turn front)
turn-handed w v j m x front e k lt is sound view f =
    let at : HasSite w j x = site-at w v j x e k lt is in
    let place : Placed w m = view-placed w j m x k at sound view in
    let q = there w.nets (m - 1) place.within in
    record {
      hands = λ s st. turn-hands w.deployment s j front (front-found w.deployment s j (m - 1) q.0 (same-sites w v j e lt) (sym (st.sites j x at).views.view ∙ (sym view ∙ place.above)) (k.frame.planted (m - 1) q.0 q.1) (λ n is. st.nets (m - 1) n (q.1 ∙ ap (λ (o : Option NetSeen). Some o) is)) ∙ sym (f q.0 q.1));
      sized = λ x at. refl;
    }

pub did-turn : (w v : WorldSeen) (j m : ℕ) (x : SiteSeen) (front : Option Label) (r : Answer) (ys : List SiteSeen) (nets : List (Option NetSeen)) → w ≡ v → IsWorld w → j < v.deployment.sites → x ≡ get_or w.sites j x → IsSite x → m ≡ x.views.view → IsFrontIn w.nets m j front →
    StepsAt w.sites j (input.Turn front) r ys → ((q : Option NetSeen) → slice_get w.nets (m - 1) ≡ Some q → NetAt w.nets (m - 1) q (net_taken r q j) nets) → Goes w (act.Turn j) r (record w { sites = ys; nets = nets })
did-turn w v j m x front r ys nets e k lt is sound view f h net =
    let at : HasSite w j x = site-at w v j x e k lt is in
    let place : Placed w m = view-placed w j m x k at sound view in
    let q = there w.nets (m - 1) place.within in
    turn-goes w j (m - 1) q.0 r ys nets k.frame (same-sites w v j e lt)
    (λ y here. ap (λ (z : SiteSeen). z.views.view) (both-are (slice_get w.sites j) y x here at) ∙ (sym view ∙ place.above))
    (subst (λ (front : Option Label). StepsAt w.sites j (input.Turn front) r ys) (f q.0 q.1) h) (net q.0 q.1)

-- ---- hop

-- the place of an epoch that has a tree, with the net of that tree
pub tree-placed : (w : WorldSeen) (e : ℕ) (t : TreeShape) → IsWorld w → tree_of w.deployment e ≡ Some t → Placed w e
tree-placed w e t k f =
    let p = tree_in_plans w.deployment e t f in
    let lt : e - 1 < length w.deployment.plans = within w.deployment.plans (e - 1) _ p.1 in
    let n : length w.nets ≡ length w.deployment.plans = k.frame.nets in
    let low : 1 ≤ e = p.0 in
    record { within = omega arith; above = omega arith }

pub tree-there : (w : WorldSeen) (e : ℕ) (t : TreeShape) (o : Option NetSeen) → IsWorld w → tree_of w.deployment e ≡ Some t → slice_get w.nets (e - 1) ≡ Some o → IsSome o
tree-there w e t None k f at = absurd (let p : Placed w e = tree-placed w e t k f in let a : tree_of w.deployment ((e - 1) + 1) ≡ None = k.frame.planted (e - 1) None at in let b : tree_of w.deployment ((e - 1) + 1) ≡ Some t = ap (tree_of w.deployment) (sym p.above) ∙ f in cc)
tree-there w e t (Some net) k f at = refl

pub tree-same : (w : WorldSeen) (e : ℕ) (t : TreeShape) (net : NetSeen) → IsWorld w → tree_of w.deployment e ≡ Some t → slice_get w.nets (e - 1) ≡ Some (Some net) → t ≡ net.tree
tree-same w e t net k f at =
    let of : IsNetOf w.deployment ((e - 1) + 1) net = k.frame.planted (e - 1) (Some net) at in
    both-are (tree_of w.deployment e) t net.tree f (ap (tree_of w.deployment) (tree-placed w e t k f).above ∙ of.tree)

-- a hop that has a line: its epoch has a place, with a net that has the edge
pub hop-placed : (w v : WorldSeen) (e : ℕ) (u : NodeId) (z : ℕ) → w ≡ v → IsWorld w → IsActOf v.deployment (act.Hop e u z) → Placed w e
hop-placed w v e u z is k b = let a : IsActOf w.deployment (act.Hop e u z) = subst (λ (v : WorldSeen). IsActOf v.deployment (act.Hop e u z)) (sym is) b in tree-placed w e a.0 k a.2

pub hop-there : (w v : WorldSeen) (e : ℕ) (u : NodeId) (z : ℕ) (o : Option NetSeen) → w ≡ v → IsWorld w → IsActOf v.deployment (act.Hop e u z) → slice_get w.nets (e - 1) ≡ Some o → IsSome o
hop-there w v e u z o is k b at = let a : IsActOf w.deployment (act.Hop e u z) = subst (λ (v : WorldSeen). IsActOf v.deployment (act.Hop e u z)) (sym is) b in tree-there w e a.0 o k a.2 at

pub hop-edge : (w v : WorldSeen) (e : ℕ) (u : NodeId) (z : ℕ) (net : NetSeen) → w ≡ v → IsWorld w → IsActOf v.deployment (act.Hop e u z) → slice_get w.nets (e - 1) ≡ Some (Some net) → IsEdge w.deployment (e - 1) net u z
hop-edge w v e u z net is k b at =
    let a : IsActOf w.deployment (act.Hop e u z) = subst (λ (v : WorldSeen). IsActOf v.deployment (act.Hop e u z)) (sym is) b in
    let of : IsNetOf w.deployment ((e - 1) + 1) net = k.frame.planted (e - 1) (Some net) at in
    let t : a.0 ≡ net.tree = tree-same w e a.0 net k a.2 at in
    let edge : is_edge net.tree u (Serializer z) ≡ true = subst (λ (t : TreeShape). is_edge t u (Serializer z) ≡ true) t a.4 in
    record { node = subst (λ (t : TreeShape). IsNode t u) t a.3; end = Rattle.sat_net.proofs.Edges.edge-within net.tree u z of.net.tree edge; edge = edge }

pub has-kind : (d : Deployed) (k : Kind) → HasKind d k → IsKindOf (interest_of d) k
has-kind d (kind.Update items) h = subst (λ (n : ℕ). AreBelow n (list_of items)) (sym (length-map d.items replicas_of)) h.0
has-kind d (kind.Move j) h = h
has-kind d kind.Pulse h = h
has-kind d (kind.Close e) h = h

-- a label on a link of a world
pub leads-on : (w : WorldSeen) (n : ℕ) (net : NetSeen) (u : NodeId) (z : ℕ) (l : Label) → IsWorld w → slice_get w.nets n ≡ Some (Some net) → IsEdge w.deployment n net u z → In (link_of net u (Serializer z)) l → IsOnLink w.deployment net.tree u (Serializer z) l
unfolding world_state
leads-on w n net u z l k at edge m =
    let of : IsNetOf w.deployment (n + 1) net = k.frame.planted n (Some net) at in
    let same : link_of net u (Serializer z) ≡ link_left w.deployment k.history (n + 1) u (Serializer z) = (k.stands.nets n net at).each u (Serializer z) edge.node edge.end edge.edge in
    links-lead w.deployment k.history (n + 1) net.tree u (Serializer z) l (is_valid w.deployment k.frame.deployment) k.run of.tree
    (subst (λ (ls : List Label). In ls l) same m)

-- one at its front
front-on : (w : WorldSeen) (n : ℕ) (net : NetSeen) (u : NodeId) (z : ℕ) (l : Label) → IsWorld w → slice_get w.nets n ≡ Some (Some net) → IsEdge w.deployment n net u z → slice_get (link_of net u (Serializer z)) 0 ≡ Some l → IsOnLink w.deployment net.tree u (Serializer z) l
front-on w n net u z l k at edge front = leads-on w n net u z l k at edge (In-get (link_of net u (Serializer z)) 0 l front)

pub hop-may : (w v : WorldSeen) (e : ℕ) (u : NodeId) (z : ℕ) (net : NetSeen) → w ≡ v → IsWorld w → IsActOf v.deployment (act.Hop e u z) → slice_get w.nets (e - 1) ≡ Some (Some net) → MayHop net w.interest u z
hop-may w v e u z net is k b at =
    let edge : IsEdge w.deployment (e - 1) net u z = hop-edge w v e u z net is k b at in
    let of : IsNetOf w.deployment ((e - 1) + 1) net = k.frame.planted (e - 1) (Some net) at in
    record {
      sites = ap (λ (a : Interested). a.sites) k.frame.interest ∙ sym (of.deployment.all_seated ((e - 1) + 1) net.tree of.tree);
      node = edge.node;
      edge = edge.edge;
      label = λ l alive front. let o : IsOnLink w.deployment net.tree u (Serializer z) l = front-on w (e - 1) net u z l k at edge front in
          subst (λ (a : Interested). IsLabelOf a l) (sym k.frame.interest) (record { own = o.site; kind = has-kind w.deployment l.kind o.kind });
      target = λ l alive front. leads-to w.deployment w.interest net.tree u (Serializer z) l k.frame.interest ∙ (front-on w (e - 1) net u z l k at edge front).target;
    }

pub did-hop : (w v : WorldSeen) (e : ℕ) (u : NodeId) (z : ℕ) (r : Answer) (nets : List (Option NetSeen)) → w ≡ v → IsWorld w → IsActOf v.deployment (act.Hop e u z) → HopsAt w.nets (e - 1) w.interest u z r nets → Goes w (act.Hop e u z) r (record w { nets = nets })
did-hop w v e u z r nets is k b h =
    subst (λ (m : ℕ). Goes w (act.Hop m u z) r (record w { nets = nets })) (sym (hop-placed w v e u z is k b).above)
    (hop-goes w (e - 1) u z r nets k.frame h (hop-edge w v e u z h.before is k b h.at))

-- ---- kill

pub kill-placed : (w v : WorldSeen) (e z : ℕ) → w ≡ v → IsWorld w → IsActOf v.deployment (act.Kill e z) → Placed w e
kill-placed w v e z is k b = let a : IsActOf w.deployment (act.Kill e z) = subst (λ (v : WorldSeen). IsActOf v.deployment (act.Kill e z)) (sym is) b in tree-placed w e a.0 k a.2

pub kill-there : (w v : WorldSeen) (e z : ℕ) (o : Option NetSeen) → w ≡ v → IsWorld w → IsActOf v.deployment (act.Kill e z) → slice_get w.nets (e - 1) ≡ Some o → IsSome o
kill-there w v e z o is k b at = let a : IsActOf w.deployment (act.Kill e z) = subst (λ (v : WorldSeen). IsActOf v.deployment (act.Kill e z)) (sym is) b in tree-there w e a.0 o k a.2 at

pub kill-serializer : (w v : WorldSeen) (e z : ℕ) (net : NetSeen) → w ≡ v → IsWorld w → IsActOf v.deployment (act.Kill e z) → slice_get w.nets (e - 1) ≡ Some (Some net) → z < length net.tree.parents
kill-serializer w v e z net is k b at =
    let a : IsActOf w.deployment (act.Kill e z) = subst (λ (v : WorldSeen). IsActOf v.deployment (act.Kill e z)) (sym is) b in
    subst (λ (t : TreeShape). z < length t.parents) (tree-same w e a.0 net k a.2 at) a.3

pub did-kill : (w v : WorldSeen) (e z : ℕ) (r : Answer) (nets : List (Option NetSeen)) → w ≡ v → IsWorld w → IsActOf v.deployment (act.Kill e z) → KillsAt w.nets (e - 1) z r nets → Goes w (act.Kill e z) r (record w { nets = nets })
did-kill w v e z r nets is k b h =
    subst (λ (m : ℕ). Goes w (act.Kill m z) r (record w { nets = nets })) (sym (kill-placed w v e z is k b).above)
    (kill-goes w (e - 1) z r nets k.frame h (kill-serializer w v e z h.before is k b h.at))

-- ---- read

pub did-read : (w v : WorldSeen) (c i n : ℕ) (x : Client) (r : Answer) (ys : List SiteSeen) (now : List Client) → w ≡ v → IsWorld w → c < length v.deployment.clients → x ≡ get_or w.clients c x → x.seat ≡ Some i →
    StepsAt w.sites i (input.Read x.carried n) r ys → ((y : Client) → slice_get w.clients c ≡ Some y → now ≡ set w.clients c (told r y)) → Goes w (act.Read c n) r (record w { sites = ys; clients = now })
did-read w v c i n x r ys now e k lt is seat h tells =
    let at : HasClient w c x = Rattle.sat_world.proofs.Hands.client-at w v c x e k lt is in
    use-goes w (act.Read c n) c x i (input.Read x.carried n) r ys now k.frame refl refl at (read-told w.sites ys i x.carried n r h) (read-hands w c x i at seat n) h (tells x at)

pub did-not-read : (w v : WorldSeen) (c n : ℕ) (x : Client) → w ≡ v → IsWorld w → c < length v.deployment.clients → x ≡ get_or w.clients c x → x.seat ≡ None → Goes v (act.Read c n) (ans.Refused why.NoSession) v
did-not-read w v c n x e k lt is none =
    let at : HasClient w c x = Rattle.sat_world.proofs.Hands.client-at w v c x e k lt is in
    subst (λ (v : WorldSeen). Goes v (act.Read c n) (ans.Refused why.NoSession) v) e (quiet-goes w (act.Read c n) why.NoSession k.frame (read-none w c x at none n))

-- ---- bulk

-- what a site was made from
pub shape-at : (w v : WorldSeen) (i : ℕ) (x : SiteSeen) → w ≡ v → IsWorld w → i < v.deployment.sites → x ≡ get_or w.sites i x → x.shape ≡ shape_for v.deployment i
shape-at w v i x e k lt is = subst (λ (v : WorldSeen). x.shape ≡ shape_for v.deployment i) e (k.stands.sites i x (site-at w v i x e k lt is)).shape

-- numbers of sites and gears of the deployment are numbers of theirs for it
pub lane-site : (w v : WorldSeen) (i j : ℕ) (x : SiteSeen) → w ≡ v → IsWorld w → i < v.deployment.sites → x ≡ get_or w.sites i x → j < v.deployment.sites → j < x.shape.sites
lane-site w v i j x e k lt is m = subst (λ (s : Shape). j < s.sites) (sym (shape-at w v i x e k lt is)) m

pub lane-gear : (w v : WorldSeen) (i g : ℕ) (x : SiteSeen) → w ≡ v → IsWorld w → i < v.deployment.sites → x ≡ get_or w.sites i x → g < v.deployment.gears → g < x.shape.gears
lane-gear w v i g x e k lt is m = subst (λ (s : Shape). g < s.gears) (sym (shape-at w v i x e k lt is)) m

pub did-not-bulk : (w v : WorldSeen) (i g j n : ℕ) (o : Option ℕ) (x y : SiteSeen) → w ≡ v → IsWorld w → i < v.deployment.sites → j < v.deployment.sites → x ≡ get_or w.sites i x → y ≡ get_or w.sites j y → IsNumber y i g o n → IsInLane x g j n None → Goes v (act.Bulk i g j o) (ans.Refused why.NoSuch) v
did-not-bulk w v i g j n o x y e k li lj ix iy next lane =
    subst (λ (v : WorldSeen). Goes v (act.Bulk i g j o) (ans.Refused why.NoSuch) v) e
    (quiet-goes w (act.Bulk i g j o) why.NoSuch k.frame (bulk-none w i g j n o x y (site-at w v i x e k li ix) (site-at w v j y e k lj iy) next lane))

pub bulk-handed : (w v : WorldSeen) (i g j n : ℕ) (o : Option ℕ) (p q : Payload) (x y : SiteSeen) → w ≡ v → IsWorld w → i < v.deployment.sites → j < v.deployment.sites → x ≡ get_or w.sites i x → y ≡ get_or w.sites j y → IsNumber y i g o n → IsInLane x g j n (Some q) → p ≡ q → n < 2 ^ 63 →
    Hands w (act.Bulk i g j o) j (input.Bulk i g n p)
bulk-handed w v i g j n o p q x y e k li lj ix iy next lane same small =
    bulk-hands w i g j n o p x y (site-at w v i x e k li ix) (site-at w v j y e k lj iy) next (subst (λ (m : Payload). IsInLane x g j n (Some m)) (sym same) lane) small

-- ---- clock

take-all : {X : Type 0} (ys zs : List X) → take (length ys) (ys ++ zs) ≡ ys
take-all [] zs = refl
take-all {X = X} (y ∷ ys) zs = ap (λ (xs : List X). y ∷ xs) (take-all ys zs)

-- a list that was written whole
written : {X : Type 0} (n : ℕ) (xs ys : List X) → n ≡ length ys → take n (ys ++ drop (length ys) xs) ≡ ys
written {X = X} n xs ys e = ap (λ (m : ℕ). take m (ys ++ drop (length ys) xs)) e ∙ take-all ys (drop (length ys) xs)

-- the gears of each site are the deployment's
pub gears-are : (w : WorldSeen) (g : ℕ) (xs : List SiteSeen) → IsWorld w → g ≡ w.deployment.gears → xs ≡ w.sites → (i : ℕ) (x : SiteSeen) → slice_get xs i ≡ Some x → x.shape.gears ≡ g
gears-are w g xs k e f i x at = ap (λ (s : Shape). s.gears) (k.stands.sites i x (subst (λ (xs : List SiteSeen). slice_get xs i ≡ Some x) f at)).shape ∙ sym e

pub did-clock : (w : WorldSeen) (ts g n : ℕ) (xs zs ys : List SiteSeen) → IsWorld w → xs ≡ w.sites → zs ≡ w.sites → g ≡ w.deployment.gears → n ≡ length ys → IsGreatest xs g ts → AreUpTo xs ts → AreClocked ts zs ys → Goes w act.Clock (ans.Clocked ts) (record w { sites = take n (ys ++ drop (length ys) w.sites) })
did-clock w ts g n xs zs ys k e a f long top up c =
    subst (λ (zs : List SiteSeen). Goes w act.Clock (ans.Clocked ts) (record w { sites = zs })) (sym (written n w.sites ys long))
    (clock-goes w ts ys k.frame (subst (λ (g : ℕ). IsGreatest w.sites g ts) f (subst (λ (xs : List SiteSeen). IsGreatest xs g ts) e top)) (subst (λ (xs : List SiteSeen). AreUpTo xs ts) e up) (subst (λ (xs : List SiteSeen). AreClocked ts xs ys) a c))

-- ---- what a world shows

pub deployment-of : (w v : WorldSeen) → w ≡ v → IsWorld w → IsDeployment v.deployment
deployment-of w v e k = (subst IsWorld e k).frame.deployment

pub seen-site : (w v : WorldSeen) (i : ℕ) (x : SiteSeen) → w ≡ v → IsWorld w → i < v.deployment.sites → x ≡ get_or w.sites i x → HasSite v i x
seen-site w v i x e k lt is = subst (λ (v : WorldSeen). HasSite v i x) e (site-at w v i x e k lt is)

pub seen-client : (w v : WorldSeen) (c : ℕ) (x : Client) → w ≡ v → IsWorld w → c < length v.deployment.clients → x ≡ get_or w.clients c x → HasClient v c x
seen-client w v c x e k lt is = subst (λ (v : WorldSeen). HasClient v c x) e (Rattle.sat_world.proofs.Hands.client-at w v c x e k lt is)

pub seen-items : (w v : WorldSeen) (i n : ℕ) (x : SiteSeen) → w ≡ v → IsWorld w → i < v.deployment.sites → x ≡ get_or w.sites i x → n < length v.deployment.items → n < length x.shape.interest.replicas
seen-items w v i n x e k lt is m = subst (λ (s : Shape). n < length s.interest.replicas) (sym (shape-at w v i x e k lt is)) (subst (λ (l : ℕ). n < l) (sym (length-map v.deployment.items replicas_of)) m)

-- whether the site keeps an item
pub seen-keeps : (w v : WorldSeen) (i n : ℕ) (x : SiteSeen) → w ≡ v → IsWorld w → i < v.deployment.sites → x ≡ get_or w.sites i x → keeps_item x n ≡ replicates v.deployment n i
seen-keeps w v i n x e k lt is =
    subst (λ (v : WorldSeen). keeps_item x n ≡ replicates v.deployment n i) e
    (keeps-here w.deployment i x ((world_state w.deployment k.history).sites i) n (k.stands.sites i x (site-at w v i x e k lt is)))
