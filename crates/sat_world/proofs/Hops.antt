-- Hops, and the act clock.
use Rattle.std.specs.Prelude.{◌≡◌, ◌<◌, ◌≤◌, ◌+◌, ◌-◌, ℕ, Bool, true, false, ◌==◌, List, [], length, set, Option, Some, None, slice_get, refl}
use Rattle.std.proofs.Common.{sym, subst, ap, ◌∙◌, arith}
use Rattle.sat_label.specs.declared.label.Label.{Label}
use Rattle.sat_label.specs.declared.node.NodeId.{NodeId}
use Rattle.sat_label.specs.declared.node.NodeId.TheVariants.{Site, Serializer}
use Rattle.sat_sites.specs.Interested.{Interested}
use Rattle.sat_tree.specs.Shape.{TreeShape}
use Rattle.sat_tree.specs.Cut.{is_edge, IsNode}
use Rattle.sat_act.specs.declared.act.Act.TheVariants as act
use Rattle.sat_act.specs.declared.answer.Answer.{Answer}
use Rattle.sat_act.specs.declared.answer.Answer.TheVariants as ans
use Rattle.sat_act.specs.declared.answer.Refusal.{Refusal}
use Rattle.sat_act.specs.declared.answer.Refusal.TheVariants as why
use Rattle.sat_act.specs.Deployed.{Deployed}
use Rattle.sat_act.specs.Answers.{refused_if}
use Rattle.sat_act.specs.Parts.{tree_of}
use Rattle.sat_serial.specs.Routes.{routes}
use Rattle.sat_model.specs.Input as given
use Rattle.sat_model.specs.Replay.{after}
use Rattle.sat_model.specs.World.{WorldState, world_given, world_answer, handled_by, first, hop_by, clock_of, greatest_row}
use Rattle.sat_net.specs.Nets.{NetSeen, link_of, is_dead, after_copies, after_hop, after_kill}
use Rattle.sat_net.specs.NetStands.{IsNetOf, StandsNet, handled_at, links_next}
use Rattle.sat_world.proofs.Laws.{hops, routes-to, net-copies, net-give, net-kill}
use Rattle.sat_site.specs.Seen.{SiteSeen}
use Rattle.sat_site.specs.Stands.{StandsSite}
use Rattle.sat_world.proofs.Laws.{each-clock}
use Rattle.sat_world.specs.Seen.{WorldSeen}
use Rattle.sat_world.specs.Stands.{Stands}
use Rattle.sat_world.specs.Clocks.{IsGreatest, IsClocked, AreClocked, AreUpTo}
use Rattle.sat_world.specs.Steps.{Goes, Hops, finds_dead, finds_none, hops as hopped, HopsAt, Kills, finds_killed, kills as killed, KillsAt}
use Rattle.sat_world.specs.Worlds.{IsFrame}
use Rattle.sat_world.proofs.Lists.{set-same, length-set, get-is, within}
use Rattle.sat_world.proofs.Greatest.{greatest-is}
use Rattle.sat_world.proofs.Parts.{next-stands, no-site, no-net, one-net, killed-net, no-client}
use Rattle.sat_world.proofs.Goes.{quiet-goes, planted-at}

-- ---- a hop

-- the answer of a hop, by whether its serializer is dead, its epoch's tree and the front of its link
abbrev hop_form : Deployed → NodeId → ℕ → Bool → Option TreeShape → Option Label → Answer
hop_form d u z dead t front = refused_if dead why.Dead (elim t [ None ↦ ans.Refused why.Empty | Some t ↦ hop_by d t u z front ])

hop-answer : (d : Deployed) (s : WorldState) (e : ℕ) (u : NodeId) (z : ℕ) → world_answer d s (act.Hop e u z) ≡ hop_form d u z (s.dead e z) (tree_of d e) (first (s.links e u (Serializer z)))
unfolding world_answer
hop-answer d s e u z = refl

hop-given : (d : Deployed) (s : WorldState) (e : ℕ) (u : NodeId) (z k : ℕ) → world_given d s (act.Hop e u z) k ≡ None
unfolding world_given
hop-given d s e u z k = refl

-- an edge of the tree of an epoch, which is above a place
pub record IsEdge (d : Deployed) (n : ℕ) (net : NetSeen) (u : NodeId) (z : ℕ) : Type 0 where
  pub node : IsNode net.tree u
  pub end : z < length net.tree.parents
  pub edge : is_edge net.tree u (Serializer z) ≡ true

module _ (w : WorldSeen) (n : ℕ) (u : NodeId) (z : ℕ) (net : NetSeen) (k : IsFrame w) (at : slice_get w.nets n ≡ Some (Some net)) (edge : IsEdge w.deployment n net u z) where
  of : IsNetOf w.deployment (n + 1) net
  of = k.planted n (Some net) at

  dead-is : (s : WorldState) → Stands w s → s.dead (n + 1) z ≡ is_dead net z
  dead-is s st = sym ((st.nets n net at).killed z edge.end)

  front-is : (s : WorldState) → Stands w s → first (s.links (n + 1) u (Serializer z)) ≡ slice_get (link_of net u (Serializer z)) 0
  front-is s st = ap (λ (ls : List Label). slice_get ls 0) (sym ((st.nets n net at).each u (Serializer z) edge.node edge.end edge.edge))

  told : (s : WorldState) (b : Bool) (o : Option Label) → Stands w s → is_dead net z ≡ b → slice_get (link_of net u (Serializer z)) 0 ≡ o → world_answer w.deployment s (act.Hop (n + 1) u z) ≡ hop_form w.deployment u z b (Some net.tree) o
  told s b o st e f =
      hop-answer w.deployment s (n + 1) u z ∙
      (λ i. hop_form w.deployment u z ((dead-is s st ∙ e) i) (of.tree i) ((front-is s st ∙ f) i))

  dead-told : (s : WorldState) → Stands w s → is_dead net z ≡ true → world_answer w.deployment s (act.Hop (n + 1) u z) ≡ ans.Refused why.Dead
  dead-told s st e = told s true (slice_get (link_of net u (Serializer z)) 0) st e refl

  hop-refused : (y : Refusal) → ((s : WorldState) → Stands w s → ans.Refused y ≡ world_answer w.deployment s (act.Hop (n + 1) u z)) → Goes w (act.Hop (n + 1) u z) (ans.Refused y) w
  hop-refused y e = quiet-goes w (act.Hop (n + 1) u z) y k (λ s st. (e s st, hop-given w.deployment s (n + 1) u z))

  hop-done : (l : Label) (nets : List (Option NetSeen)) → is_dead net z ≡ false → slice_get (link_of net u (Serializer z)) 0 ≡ Some l → nets ≡ set w.nets n (Some (after_hop net w.interest u z l)) →
      Goes w (act.Hop (n + 1) u z) (ans.Hopped l (routes w.interest net.tree z u l)) (record w { nets = nets })
  unfolding handled_by
  hop-done l nets alive front rest = record {
    deployment = refl;
    shown = refl;
    frame = record {
      deployment = k.deployment;
      interest = k.interest;
      sites = k.sites;
      nets = ap (λ (ns : List (Option NetSeen)). length ns) rest ∙ (length-set w.nets n (Some (after_hop net w.interest u z l)) ∙ k.nets);
      planted = planted-at w n (Some net) (Some (after_hop net w.interest u z l)) nets k at (λ q. record { deployment = k.deployment; tree = tree; net = net-give (after_copies net w.interest u z l) u (Serializer z) (net-copies net w.interest u z l of.net) }) rest;
      clients = k.clients;
    };
    answer = λ s st. ap (λ (ns : List NodeId). ans.Hopped l ns) (routes-to w.deployment w.interest net.tree u z l k.interest) ∙ sym (told s false (Some l) st alive front);
    stands = λ s st. next-stands w s (act.Hop (n + 1) u z) (ans.Hopped l (routes w.interest net.tree z u l)) w.sites nets w.clients
        (no-site w.deployment s.sites (world_given w.deployment s (act.Hop (n + 1) u z)) (ans.Hopped l (routes w.interest net.tree z u l)) w.sites st.sites (hop-given w.deployment s (n + 1) u z))
        (one-net w (handled_at (n + 1) (Serializer z) (Some u) l) s.links s.dead s.dead n (Some (after_hop net w.interest u z l)) nets k refl (λ e y. refl) rest
        (λ m e. subst (λ (m : NetSeen). StandsNet m (links_next w.deployment (Some (handled_at (n + 1) (Serializer z) (Some u) l)) (n + 1) (s.links (n + 1))) (s.dead (n + 1))) (Rattle.sat_laws.proofs.Labels.some_is (after_hop net w.interest u z l) m e)
        (hops w.deployment (n + 1) net w.interest (s.links (n + 1)) (s.dead (n + 1)) u z l of k.interest (st.nets n net at) edge.node edge.edge))
        st.nets)
        (no-client w.clients s.clients (act.Hop (n + 1) u z) (ans.Hopped l (routes w.interest net.tree z u l)) (λ c. refl) st.clients);
    refused = λ f. absurd (cc);
  }
    where
      same-tree : (net : NetSeen) (a : Interested) (u : NodeId) (z : ℕ) (l : Label) → (after_hop net a u z l).tree ≡ net.tree
      same-tree net a (Site i) z l = refl
      same-tree net a (Serializer y) z l = refl

      tree : tree_of w.deployment (n + 1) ≡ Some (after_hop net w.interest u z l).tree
      tree = of.tree ∙ ap (λ (t : TreeShape). Some t) (sym (same-tree net w.interest u z l))

-- a hop over an edge of the tree of an epoch
pub hop-goes : (w : WorldSeen) (n : ℕ) (u : NodeId) (z : ℕ) (r : Answer) (nets : List (Option NetSeen)) → IsFrame w → (h : HopsAt w.nets n w.interest u z r nets) → IsEdge w.deployment n h.before u z → Goes w (act.Hop (n + 1) u z) r (record w { nets = nets })
hop-goes w n u z r nets k h edge = go r h.after h.hop h.rest
  where
    same : (after : NetSeen) → after ≡ h.before → nets ≡ set w.nets n (Some after) → w ≡ record w { nets = nets }
    same after e rest = λ i. record w { nets = sym (rest ∙ (ap (λ (m : NetSeen). set w.nets n (Some m)) e ∙ set-same w.nets n (Some h.before) h.at)) i }

    go : (r : Answer) (after : NetSeen) → Hops h.before w.interest u z r after → nets ≡ set w.nets n (Some after) → Goes w (act.Hop (n + 1) u z) r (record w { nets = nets })
    go r after (finds_dead e) rest = subst (λ (v : WorldSeen). Goes w (act.Hop (n + 1) u z) (ans.Refused why.Dead) v) (same h.before refl rest)
        (hop-refused w n u z h.before k h.at edge why.Dead (λ s st. sym (dead-told w n u z h.before k h.at edge s st e)))
    go r after (finds_none e f) rest = subst (λ (v : WorldSeen). Goes w (act.Hop (n + 1) u z) (ans.Refused why.Empty) v) (same h.before refl rest)
        (hop-refused w n u z h.before k h.at edge why.Empty (λ s st. sym (told w n u z h.before k h.at edge s false None st e f)))
    go r after (hopped l e f) rest = hop-done w n u z h.before k h.at edge l nets e f rest

-- ---- a kill

kill-answer : (d : Deployed) (s : WorldState) (e z : ℕ) (b : Bool) → s.dead e z ≡ b → world_answer d s (act.Kill e z) ≡ refused_if b why.Already ans.Killed
unfolding world_answer
kill-answer d s e z b f = ap (λ (b : Bool). refused_if b why.Already ans.Killed) f

kill-given : (d : Deployed) (s : WorldState) (e z k : ℕ) → world_given d s (act.Kill e z) k ≡ None
unfolding world_given
kill-given d s e z k = refl

kill-done : (w : WorldSeen) (n z : ℕ) (net : NetSeen) (nets : List (Option NetSeen)) → IsFrame w → slice_get w.nets n ≡ Some (Some net) → z < length net.tree.parents → is_dead net z ≡ false → nets ≡ set w.nets n (Some (after_kill net z)) → Goes w (act.Kill (n + 1) z) ans.Killed (record w { nets = nets })
unfolding handled_by
kill-done w n z net nets k at lt alive rest = record {
  deployment = refl;
  shown = refl;
  frame = record {
    deployment = k.deployment;
    interest = k.interest;
    sites = k.sites;
    nets = ap (λ (ns : List (Option NetSeen)). length ns) rest ∙ (length-set w.nets n (Some (after_kill net z)) ∙ k.nets);
    planted = planted-at w n (Some net) (Some (after_kill net z)) nets k at (λ q. record { deployment = q.deployment; tree = q.tree; net = net-kill net z q.net }) rest;
    clients = k.clients;
  };
  answer = λ s st. sym (kill-answer w.deployment s (n + 1) z false (sym ((st.nets n net at).killed z lt) ∙ alive));
  stands = λ s st. next-stands w s (act.Kill (n + 1) z) ans.Killed w.sites nets w.clients
      (no-site w.deployment s.sites (world_given w.deployment s (act.Kill (n + 1) z)) ans.Killed w.sites st.sites (kill-given w.deployment s (n + 1) z))
      (killed-net w s.links s.dead n z net nets k at rest st.nets)
      st.clients;
  refused = λ f. absurd (cc);
}

-- a serializer is killed, or was
pub kill-goes : (w : WorldSeen) (n z : ℕ) (r : Answer) (nets : List (Option NetSeen)) → IsFrame w → (h : KillsAt w.nets n z r nets) → z < length h.before.tree.parents → Goes w (act.Kill (n + 1) z) r (record w { nets = nets })
kill-goes w n z r nets k h lt = go r h.after h.kill h.rest
  where
    go : (r : Answer) (after : NetSeen) → Kills h.before z r after → nets ≡ set w.nets n (Some after) → Goes w (act.Kill (n + 1) z) r (record w { nets = nets })
    go r after (finds_killed e) rest = subst (λ (ns : List (Option NetSeen)). Goes w (act.Kill (n + 1) z) (ans.Refused why.Already) (record w { nets = ns })) (sym (rest ∙ set-same w.nets n (Some h.before) h.at))
        (quiet-goes w (act.Kill (n + 1) z) why.Already k (λ s st. (sym (kill-answer w.deployment s (n + 1) z true (sym ((st.nets n h.before h.at).killed z lt) ∙ e)), kill-given w.deployment s (n + 1) z)))
    go r after (killed e) rest = kill-done w n z h.before nets k h.at lt e rest

-- ---- clock

-- the site that stood where one stands after as many changes
old-site : (xs ys : List SiteSeen) (n : ℕ) (y : SiteSeen) → length ys ≡ length xs → slice_get ys n ≡ Some y → (x : SiteSeen) × (slice_get xs n ≡ Some x)
old-site xs ys n y e at = let lt : n < length ys = within ys n y at in (Rattle.std.specs.Prelude.get_or xs n y, get-is xs n y (omega arith))

pub clock-goes : (w : WorldSeen) (ts : ℕ) (ys : List SiteSeen) → IsFrame w → IsGreatest w.sites w.deployment.gears ts → AreUpTo w.sites ts → AreClocked ts w.sites ys → Goes w act.Clock (ans.Clocked ts) (record w { sites = ys })
unfolding world_given world_answer handled_by after
clock-goes w ts ys k top up c = record {
  deployment = refl;
  shown = refl;
  frame = record { deployment = k.deployment; interest = k.interest; sites = c.count ∙ k.sites; nets = k.nets; planted = k.planted; clients = k.clients };
  answer = λ s st. ap (λ (n : ℕ). ans.Clocked n) (is s st);
  stands = λ s st. next-stands w s act.Clock (ans.Clocked ts) ys w.nets w.clients (sites s st) (no-net w None s.links s.dead s.dead k refl (λ e z. refl) st.nets) st.clients;
  refused = λ f. absurd (cc);
}
  where
    is : (s : WorldState) → Stands w s → ts ≡ clock_of w.deployment s
    is s st = top w.deployment s.sites st.sites ∙ (greatest-is (λ i g. ((s.sites i).gears g).promise) (length w.sites) w.deployment.gears ∙ ap (λ (m : ℕ). greatest_row (λ i g. ((s.sites i).gears g).promise) m w.deployment.gears) k.sites)

    sites : (s : WorldState) → Stands w s → (n : ℕ) (y : SiteSeen) → slice_get ys n ≡ Some y → StandsSite w.deployment n y (after w.deployment n (s.sites n) (Some (given.Clock (clock_of w.deployment s))) (ans.Clocked ts))
    sites s st n y at =
        let x : (x : SiteSeen) × (slice_get w.sites n ≡ Some x) = old-site w.sites ys n y c.count at in
        let q : IsClocked ts x.0 y = c.each n x.0 y x.1 at in
        subst (λ (m : ℕ). StandsSite w.deployment n y (after w.deployment n (s.sites n) (Some (given.Clock m)) (ans.Clocked ts))) (is s st)
        (subst (λ (y : SiteSeen). StandsSite w.deployment n y (after w.deployment n (s.sites n) (Some (given.Clock ts)) (ans.Clocked ts))) (sym q.after)
        (each-clock x.0 ts q.sound (up n x.0 x.1) w.deployment n (s.sites n) k.deployment (st.sites n x.0 x.1)))
