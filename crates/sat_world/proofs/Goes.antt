-- Acts by their shape: at one site, a client's write or read, an emission, a turn, a hop, and what is refused at once.
use Rattle.std.specs.Prelude.{◌≡◌, ◌⊎◌, ◌<◌, ◌+◌, ℕ, Bool, true, false, ◌==◌, List, length, set, Option, Some, None, slice_get, refl}
use Rattle.std.proofs.Common.{sym, subst, ap, ◌∙◌, arith, inl, inr}
use Rattle.sat_label.proofs.Truth.{same-number}
use Rattle.sat_label.specs.declared.label.Label.{Label}
use Rattle.sat_label.specs.declared.node.NodeId.{NodeId}
use Rattle.sat_label.specs.declared.node.NodeId.TheVariants.{Site, Serializer}
use Rattle.sat_tree.specs.Shape.{TreeShape}
use Rattle.sat_tree.specs.Cut.{seat_of, IsNode}
use Rattle.sat_act.specs.declared.act.Act.{Act}
use Rattle.sat_act.specs.declared.act.Act.TheVariants as act
use Rattle.sat_act.specs.declared.answer.Answer.{Answer}
use Rattle.sat_act.specs.declared.answer.Answer.TheVariants as ans
use Rattle.sat_act.specs.declared.answer.Refusal.{Refusal}
use Rattle.sat_act.specs.Deployed.{Deployed}
use Rattle.sat_act.specs.Done.{is_of, of_client}
use Rattle.sat_act.specs.Settling.{is_done}
use Rattle.sat_act.specs.Parts.{Handling, tree_of, seat_in}
use Rattle.sat_laws.proofs.Labels.{some_is}
use Rattle.sat_client.specs.declared.client.Client.{Client}
use Rattle.sat_model.specs.Input.{SiteInput}
use Rattle.sat_model.specs.Input as given
use Rattle.sat_model.specs.Next.{site_next}
use Rattle.sat_model.specs.Reply.{site_answer}
use Rattle.sat_model.specs.Replay.{after, given_at}
use Rattle.sat_model.specs.World.{ClientState, WorldState, world_given, world_answer, handled_by, front_at, first, client_next, dead_next}
use Rattle.sat_net.specs.Nets.{NetSeen, after_take}
use Rattle.sat_net.specs.NetStands.{IsNetOf, StandsNet, handled_at, links_next}
use Rattle.sat_world.proofs.Laws.{takes, net-give}
use Rattle.sat_site.specs.declared.input.SiteInput as code
use Rattle.sat_site.specs.declared.input.SiteInput.TheVariants as input
use Rattle.sat_site.specs.Seen.{SiteSeen}
use Rattle.sat_site.specs.Inputs.{input_of}
use Rattle.sat_site.specs.Laws.{StepHolds}
use Rattle.sat_site.specs.SiteSteps.{site_after}
use Rattle.sat_site.specs.Stands.{StandsSite}
use Rattle.sat_world.proofs.Laws.{each-step}
use Rattle.sat_world.specs.Seen.{WorldSeen, HasClient}
use Rattle.sat_world.specs.Stands.{Stands, StandsClient}
use Rattle.sat_world.specs.Steps.{Goes, StepsAt, HandsIn, Hands, is_local, told, net_taken, front_to, NetAt}
use Rattle.sat_world.specs.Worlds.{IsFrame, IsPlanted}
use Rattle.sat_world.proofs.Handles.{is_still, handles-none, kills-none, same-dead, local-still, local-client, is_told, told-client, told-none}
use Rattle.sat_world.proofs.Lists.{set-cases, set-same, length-set}
use Rattle.sat_world.proofs.Parts.{handling_of, SitesStand, NetsStand, next-stands, one-site, no-site, no-net, one-net, no-client, one-client}

-- ---- one site

-- what the site's law says of its step
pub holds : (xs ys : List SiteSeen) (i : ℕ) (given : code.SiteInput) (r : Answer) → (h : StepsAt xs i given r ys) → StepHolds h.before given
holds xs ys i given r h = each-step h.before given h.sound h.fits

pub told-by : (w : WorldSeen) (s : WorldState) (i : ℕ) (given : code.SiteInput) (r : Answer) (ys : List SiteSeen) → IsFrame w → Stands w s → StepsAt w.sites i given r ys →
    r ≡ site_answer w.deployment i (s.sites i) (input_of given)
told-by w s i given r ys k st h = h.answers ∙ (holds w.sites ys i given r h).answers w.deployment i (s.sites i) k.deployment (st.sites i h.before h.at)

-- the sites after it
pub stepped : (w : WorldSeen) (s : WorldState) (gives : ℕ → Option SiteInput) (i : ℕ) (given : code.SiteInput) (r : Answer) (ys : List SiteSeen) → IsFrame w → Stands w s → StepsAt w.sites i given r ys →
    ((k : ℕ) → gives k ≡ given_at i k (input_of given)) → SitesStand w.deployment ys (λ k. after w.deployment k (s.sites k) (gives k) r)
stepped w s gives i given r ys k st h is =
    one-site w.deployment s.sites gives r i (input_of given) w.sites ys (site_after h.before given) st.sites h.rest
    (subst (λ (r : Answer). StandsSite w.deployment i (site_after h.before given) (site_next w.deployment i (s.sites i) (input_of given) r)) (sym h.answers)
    ((holds w.sites ys i given r h).stands w.deployment i (s.sites i) k.deployment (st.sites i h.before h.at))) is

-- where it is refused they are as before
pub unmoved : (xs ys : List SiteSeen) (i : ℕ) (given : code.SiteInput) (r : Answer) → StepsAt xs i given r ys → is_done r ≡ false → ys ≡ xs
unmoved xs ys i given r h f =
    h.rest ∙ (ap (set xs i) ((holds xs ys i given r h).refused (ap is_done (sym h.answers) ∙ f)) ∙ set-same xs i h.before h.at)

pub with-sites : (w : WorldSeen) (i : ℕ) (given : code.SiteInput) (r : Answer) (ys : List SiteSeen) → StepsAt w.sites i given r ys → length ys ≡ length w.sites
with-sites w i given r ys h = ap (λ (xs : List SiteSeen). length xs) h.rest ∙ length-set w.sites i (site_after h.before given)

-- an act at one site that moves no label and is no client's
pub local-goes : (w : WorldSeen) (a : Act) (i : ℕ) (given : code.SiteInput) (r : Answer) (ys : List SiteSeen) → IsFrame w → is_local a ≡ true → Hands w a i given → StepsAt w.sites i given r ys → Goes w a r (record w { sites = ys })
local-goes w a i given r ys k l g h = record {
  deployment = refl;
  shown = refl;
  frame = record { deployment = k.deployment; interest = k.interest; sites = with-sites w i given r ys h ∙ k.sites; nets = k.nets; planted = k.planted; clients = k.clients };
  answer = λ s st. told-by w s i given r ys k st h ∙ sym (g.hands s st).answer;
  stands = λ s st. next-stands w s a r ys w.nets w.clients
      (stepped w s (world_given w.deployment s a) i given r ys k st h (g.hands s st).given)
      (no-net w (handling_of w.deployment s a r) s.links s.dead (λ e z. dead_next e z (s.dead e z) a r) k (handles-none w.deployment (λ i. (s.sites i).views.emission) (λ i. (s.sites i).views.view) a r (local-still a l)) (λ e z. kills-none e z (s.dead e z) a r (local-still a l)) st.nets)
      (no-client w.clients s.clients a r (λ c. local-client a c l) st.clients);
  refused = λ f. λ j. record w { sites = unmoved w.sites ys i given r h f j };
}

-- ---- a client

pub of-other : (a : Act) (c b : ℕ) → of_client a ≡ Some c → (c == b) ≡ false → is_of a b ≡ false
of-other a c b e f = ap (λ (o : Option ℕ). elim o [ None ↦ false | Some n ↦ n == b ]) e ∙ f

pub of-this : (a : Act) (c : ℕ) → of_client a ≡ Some c → is_of a c ≡ true
of-this a c e = ap (λ (o : Option ℕ). elim o [ None ↦ false | Some n ↦ n == c ]) e ∙ same-number c

-- an act of a client at a site, which makes y of the client x
pub client-goes : (w : WorldSeen) (a : Act) (c : ℕ) (x y : Client) (i : ℕ) (given : code.SiteInput) (r : Answer) (ys : List SiteSeen) (now : List Client) → IsFrame w → is_still a ≡ true → of_client a ≡ Some c → HasClient w c x →
    ((s : ClientState) → StandsClient x s → StandsClient y (client_next c s a r)) → (is_done r ≡ false → y ≡ x) →
    Hands w a i given → StepsAt w.sites i given r ys → now ≡ set w.clients c y → Goes w a r (record w { sites = ys; clients = now })
client-goes w a c x y i given r ys now k l e at becomes left g h n = record {
  deployment = refl;
  shown = refl;
  frame = record { deployment = k.deployment; interest = k.interest; sites = with-sites w i given r ys h ∙ k.sites; nets = k.nets; planted = k.planted; clients = ap (λ (cl : List Client). length cl) n ∙ (length-set w.clients c y ∙ k.clients) };
  answer = λ s st. told-by w s i given r ys k st h ∙ sym (g.hands s st).answer;
  stands = λ s st. next-stands w s a r ys w.nets now
      (stepped w s (world_given w.deployment s a) i given r ys k st h (g.hands s st).given)
      (no-net w (handling_of w.deployment s a r) s.links s.dead (λ e z. dead_next e z (s.dead e z) a r) k (handles-none w.deployment (λ i. (s.sites i).views.emission) (λ i. (s.sites i).views.view) a r l) (λ e z. kills-none e z (s.dead e z) a r l) st.nets)
      (one-client w.clients now s.clients a r c y (λ b ne. of-other a c b e ne) n (becomes (s.clients c) (st.clients c x at)) st.clients);
  refused = λ f. λ j. record w {
    sites = unmoved w.sites ys i given r h f j;
    clients = (n ∙ (ap (set w.clients c) (left f) ∙ set-same w.clients c x at)) j;
  };
}

-- a client's write or read at its seat
pub use-goes : (w : WorldSeen) (a : Act) (c : ℕ) (x : Client) (i : ℕ) (given : code.SiteInput) (r : Answer) (ys : List SiteSeen) (now : List Client) → IsFrame w → is_still a ≡ true → of_client a ≡ Some c → HasClient w c x → is_told r ≡ true →
    Hands w a i given → StepsAt w.sites i given r ys → now ≡ set w.clients c (told r x) → Goes w a r (record w { sites = ys; clients = now })
use-goes w a c x i given r ys now k l e at t g h n =
    client-goes w a c x (told r x) i given r ys now k l e at (λ s st. told-client c x s a r (of-this a c e) t st) (λ f. told-none r x t f) g h n

-- ---- refused at once

-- nothing is handed to a site, and nothing changes
pub quiet-goes : (w : WorldSeen) (a : Act) (y : Refusal) → IsFrame w → ((s : WorldState) → Stands w s → (ans.Refused y ≡ world_answer w.deployment s a) × ((k : ℕ) → world_given w.deployment s a k ≡ None)) → Goes w a (ans.Refused y) w
unfolding handled_by
quiet-goes w a y k h = record {
  deployment = refl;
  shown = refl;
  frame = k;
  answer = λ s st. (h s st).0;
  stands = λ s st. next-stands w s a (ans.Refused y) w.sites w.nets w.clients
      (no-site w.deployment s.sites (world_given w.deployment s a) (ans.Refused y) w.sites st.sites (h s st).1)
      (no-net w (handling_of w.deployment s a (ans.Refused y)) s.links s.dead (λ e z. dead_next e z (s.dead e z) a (ans.Refused y)) k refl (λ e z. refl) st.nets)
      st.clients;
  refused = λ f. refl;
}

-- ---- nets

-- the nets after one of them became another one
pub planted-at : (w : WorldSeen) (n : ℕ) (p q : Option NetSeen) (nets : List (Option NetSeen)) → IsFrame w → slice_get w.nets n ≡ Some p → (IsPlanted w.deployment (n + 1) p → IsPlanted w.deployment (n + 1) q) → nets ≡ set w.nets n q →
    (m : ℕ) (o : Option NetSeen) → slice_get nets m ≡ Some o → IsPlanted w.deployment (m + 1) o
planted-at w n p q nets k at new rest m o has = go (set-cases w.nets n m q o (subst (λ (ns : List (Option NetSeen)). slice_get ns m ≡ Some o) rest has))
  where
    go : ((n ≡ m) × (q ≡ o)) ⊎ (((n == m) ≡ false) × (slice_get w.nets m ≡ Some o)) → IsPlanted w.deployment (m + 1) o
    go (inl u) = subst (λ (o : Option NetSeen). IsPlanted w.deployment (m + 1) o) u.1 (subst (λ (m : ℕ). IsPlanted w.deployment (m + 1) q) u.0 (new (k.planted n p at)))
    go (inr u) = k.planted m o u.1

-- ---- a turn

-- whether a turn's answer takes the front
abbrev pub is_taking : Answer → Bool
is_taking (ans.Shown l) = true
is_taking (ans.Took l) = true
is_taking _ = false

-- what a turn that takes the front handles
abbrev taking : Deployed → ℕ → ℕ → Label → Handling
taking d epoch j l = record { epoch = epoch; node = Site j; from = seat_in d epoch j; label = l }

turn-handles-none : (d : Deployed) (emission view : ℕ → ℕ) (j : ℕ) (r : Answer) → is_taking r ≡ false → handled_by d emission view (act.Turn j) r ≡ None
unfolding handled_by
turn-handles-none d emission view j (ans.Shown l) e = absurd (cc)
turn-handles-none d emission view j (ans.Took l) e = absurd (cc)
turn-handles-none d emission view j _ e = refl

turn-handles : (d : Deployed) (emission view : ℕ → ℕ) (j : ℕ) (r : Answer) → is_taking r ≡ true → (l : Label) × (handled_by d emission view (act.Turn j) r ≡ Some (taking d (view j) j l))
unfolding handled_by
turn-handles d emission view j (ans.Shown l) e = (l, refl)
turn-handles d emission view j (ans.Took l) e = (l, refl)
turn-handles d emission view j _ e = absurd (cc)

-- what the net becomes
taken-not : (r : Answer) (p : Option NetSeen) (j : ℕ) → is_taking r ≡ false → net_taken r p j ≡ p
taken-not r None j e = refl
taken-not (ans.Shown l) (Some net) j e = absurd (cc)
taken-not (ans.Took l) (Some net) j e = absurd (cc)
taken-not _ (Some net) j e = refl

pub taken-so : (r : Answer) (net : NetSeen) (j : ℕ) → is_taking r ≡ true → net_taken r (Some net) j ≡ Some (after_take net j)
taken-so (ans.Shown l) net j e = refl
taken-so (ans.Took l) net j e = refl
taken-so _ net j e = absurd (cc)

planted-taken : (d : Deployed) (e : ℕ) (r : Answer) (p : Option NetSeen) (j : ℕ) → IsPlanted d e p → (b : Bool) → is_taking r ≡ b → IsPlanted d e (net_taken r p j)
planted-taken d e r None j k b t = k
planted-taken d e r (Some net) j k true t = subst (IsPlanted d e) (sym (taken-so r net j t)) (record { deployment = k.deployment; tree = k.tree; net = net-give net (Serializer (seat_of net.tree j)) (Site j) k.net })
planted-taken d e r (Some net) j k false t = subst (IsPlanted d e) (sym (taken-not r (Some net) j t)) k

-- a site's seat in a tree, if there is one, and the front of the link from it
abbrev seat_by : ℕ → Option TreeShape → Option NodeId
seat_by j t = elim t [ None ↦ None | Some t ↦ Some (Serializer (seat_of t j)) ]

abbrev front_by : (NodeId → NodeId → List Label) → ℕ → Option NodeId → Option Label
front_by links j o = elim o [ None ↦ None | Some z ↦ first (links z (Site j)) ]

seat-by : (d : Deployed) (e j : ℕ) → seat_in d e j ≡ seat_by j (tree_of d e)
unfolding seat_in
seat-by d e j = refl

-- what the code finds at the front is what the machine hands
pub front-found : (d : Deployed) (s : WorldState) (j n : ℕ) (p : Option NetSeen) → j < d.sites → (s.sites j).views.view ≡ n + 1 → IsPlanted d (n + 1) p → ((m : NetSeen) → p ≡ Some m → StandsNet m (s.links (n + 1)) (s.dead (n + 1))) → front_at d s j ≡ front_to p j
front-found d s j n p lt e k st =
    ap (λ (v : ℕ). front_by (s.links v) j (seat_in d v j)) e ∙ (ap (front_by (s.links (n + 1)) j) (seat-by d (n + 1) j) ∙ go p k st)
  where
    go : (p : Option NetSeen) → IsPlanted d (n + 1) p → ((m : NetSeen) → p ≡ Some m → StandsNet m (s.links (n + 1)) (s.dead (n + 1))) → front_by (s.links (n + 1)) j (seat_by j (tree_of d (n + 1))) ≡ front_to p j
    go None k st = ap (λ (t : Option TreeShape). front_by (s.links (n + 1)) j (seat_by j t)) k
    go (Some net) k st =
        ap (λ (t : Option TreeShape). front_by (s.links (n + 1)) j (seat_by j t)) k.tree ∙
        ap (λ (ls : List Label). slice_get ls 0) (sym ((st net refl).each (Serializer (seat_of net.tree j)) (Site j) (k.net.tree.seats j) (seated net k) (Rattle.sat_laws.proofs.Handlings.seat-edge net.tree j)))
      where
        seated : (net : NetSeen) → IsNetOf d (n + 1) net → IsNode net.tree (Site j)
        seated net k = let a : length net.tree.seats ≡ d.sites = k.deployment.all_seated (n + 1) net.tree k.tree in omega arith

seat-found : (d : Deployed) (e j : ℕ) (t : TreeShape) → tree_of d e ≡ Some t → seat_in d e j ≡ Some (Serializer (seat_of t j))
unfolding seat_in
seat-found d e j t k = ap (seat_by j) k

pub turn-hands : (d : Deployed) (s : WorldState) (j : ℕ) (o : Option Label) → front_at d s j ≡ o → HandsIn d s (act.Turn j) j (given.Turn o)
unfolding world_given world_answer
turn-hands d s j o e = record { given = λ k. ap (λ (o : Option Label). given_at j k (given.Turn o)) e; answer = ap (λ (o : Option Label). site_answer d j (s.sites j) (given.Turn o)) e }

-- a site takes the front of the link to it, in the net of its view, or leaves it
pub turn-goes : (w : WorldSeen) (j n : ℕ) (p : Option NetSeen) (r : Answer) (ys : List SiteSeen) (nets : List (Option NetSeen)) → IsFrame w → j < w.deployment.sites → ((x : SiteSeen) → slice_get w.sites j ≡ Some x → x.views.view ≡ n + 1) →
    StepsAt w.sites j (input.Turn (front_to p j)) r ys → NetAt w.nets n p (net_taken r p j) nets → Goes w (act.Turn j) r (record w { sites = ys; nets = nets })
turn-goes w j n p r ys nets k lt view h g = record {
  deployment = refl;
  shown = refl;
  frame = record {
    deployment = k.deployment;
    interest = k.interest;
    sites = with-sites w j (input.Turn (front_to p j)) r ys h ∙ k.sites;
    nets = ap (λ (ns : List (Option NetSeen)). length ns) g.rest ∙ (length-set w.nets n (net_taken r p j) ∙ k.nets);
    planted = planted-at w n p (net_taken r p j) nets k g.at (λ q. planted-taken w.deployment (n + 1) r p j q (is_taking r) refl) g.rest;
    clients = k.clients;
  };
  answer = λ s st. told-by w s j (input.Turn (front_to p j)) r ys k st h ∙ sym (hands s st).answer;
  stands = λ s st. next-stands w s (act.Turn j) r ys nets w.clients
      (stepped w s (world_given w.deployment s (act.Turn j)) j (input.Turn (front_to p j)) r ys k st h (hands s st).given)
      (links s st (is_taking r) refl)
      (no-client w.clients s.clients (act.Turn j) r (λ c. refl) st.clients);
  refused = λ f. λ i. record w { sites = unmoved w.sites ys j (input.Turn (front_to p j)) r h f i; nets = (same (not-taking r f)) i };
}
  where
    at : (s : WorldState) → Stands w s → (s.sites j).views.view ≡ n + 1
    at s st = let site : StandsSite w.deployment j h.before (s.sites j) = st.sites j h.before h.at in sym site.views.view ∙ view h.before h.at

    of : (s : WorldState) → Stands w s → (m : NetSeen) → p ≡ Some m → StandsNet m (s.links (n + 1)) (s.dead (n + 1))
    of s st m e = st.nets n m (subst (λ (q : Option NetSeen). slice_get w.nets n ≡ Some q) e g.at)

    hands : (s : WorldState) → Stands w s → HandsIn w.deployment s (act.Turn j) j (given.Turn (front_to p j))
    hands s st = turn-hands w.deployment s j (front_to p j) (front-found w.deployment s j n p lt (at s st) (k.planted n p g.at) (of s st))

    not-taking : (r : Answer) → is_done r ≡ false → is_taking r ≡ false
    not-taking (ans.Shown l) f = absurd (cc)
    not-taking (ans.Took l) f = absurd (cc)
    not-taking _ f = refl

    same : is_taking r ≡ false → nets ≡ w.nets
    same f = g.rest ∙ (ap (set w.nets n) (taken-not r p j f) ∙ set-same w.nets n p g.at)

    dead : (s : WorldState) (e z : ℕ) → dead_next e z (s.dead e z) (act.Turn j) r ≡ s.dead e z
    dead s e z = same-dead e z (s.dead e z) (act.Turn j) r refl

    links : (s : WorldState) → Stands w s → (b : Bool) → is_taking r ≡ b → NetsStand nets (λ e. links_next w.deployment (handling_of w.deployment s (act.Turn j) r) e (s.links e)) (λ e z. dead_next e z (s.dead e z) (act.Turn j) r)
    links s st false t =
        subst (λ (ns : List (Option NetSeen)). NetsStand ns (λ e. links_next w.deployment (handling_of w.deployment s (act.Turn j) r) e (s.links e)) (λ e z. dead_next e z (s.dead e z) (act.Turn j) r)) (sym (same t))
        (no-net w (handling_of w.deployment s (act.Turn j) r) s.links s.dead (λ e z. dead_next e z (s.dead e z) (act.Turn j) r) k (turn-handles-none w.deployment (λ i. (s.sites i).views.emission) (λ i. (s.sites i).views.view) j r t) (dead s) st.nets)
    links s st true t =
        let x = turn-handles w.deployment (λ i. (s.sites i).views.emission) (λ i. (s.sites i).views.view) j r t in
        subst (λ (y : Option Handling). NetsStand nets (λ e. links_next w.deployment y e (s.links e)) (λ e z. dead_next e z (s.dead e z) (act.Turn j) r)) (sym x.1)
        (one-net w (taking w.deployment (s.sites j).views.view j x.0) s.links s.dead (λ e z. dead_next e z (s.dead e z) (act.Turn j) r) n (net_taken r p j) nets k (at s st) (dead s) g.rest (new s st x.0 t p refl) st.nets)
      where
        new : (s : WorldState) → Stands w s → (l : Label) → is_taking r ≡ true → (q : Option NetSeen) → p ≡ q → (net : NetSeen) → net_taken r p j ≡ Some net → StandsNet net (links_next w.deployment (Some (taking w.deployment (s.sites j).views.view j l)) (n + 1) (s.links (n + 1))) (s.dead (n + 1))
        new s st l t None e net f = absurd (let a : net_taken r None j ≡ Some net = subst (λ (p : Option NetSeen). net_taken r p j ≡ Some net) e f in let b : None ≡ Some net = a in cc)
        new s st l t (Some m) e net f =
            let net-of : IsNetOf w.deployment (n + 1) m = subst (IsPlanted w.deployment (n + 1)) e (k.planted n p g.at) in
            let is : after_take m j ≡ net = some_is (after_take m j) net (sym (taken-so r m j t) ∙ subst (λ (p : Option NetSeen). net_taken r p j ≡ Some net) e f) in
            let x : taking w.deployment (s.sites j).views.view j l ≡ handled_at (n + 1) (Site j) (Some (Serializer (seat_of m.tree j))) l =
            ap (λ (v : ℕ). taking w.deployment v j l) (at s st) ∙ ap (λ (o : Option NodeId). handled_at (n + 1) (Site j) o l) (seat-found w.deployment (n + 1) j m.tree net-of.tree) in
            subst (λ (net : NetSeen). StandsNet net (links_next w.deployment (Some (taking w.deployment (s.sites j).views.view j l)) (n + 1) (s.links (n + 1))) (s.dead (n + 1))) is
            (subst (λ (x : Handling). StandsNet (after_take m j) (links_next w.deployment (Some x) (n + 1) (s.links (n + 1))) (s.dead (n + 1))) (sym x)
            (takes w.deployment (n + 1) m (s.links (n + 1)) (s.dead (n + 1)) j l net-of (of s st m e) lt))
