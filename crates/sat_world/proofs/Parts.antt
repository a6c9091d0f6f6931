-- From the parts of a world after an act to the world: its sites, its nets and its clients.
use Rattle.std.specs.Prelude.{◌≡◌, ◌⊎◌, ℕ, ◌+◌, Bool, true, false, ◌&&◌, ◌==◌, List, set, Option, Some, None, slice_get, if◌then◌else◌, refl}
use Rattle.std.proofs.Common.{sym, subst, ap, ◌∙◌, arith, inl, inr}
use Rattle.std.proofs.lemmas.Bool.Decides.{nat_tests}
use Rattle.sat_label.proofs.Truth.{same-number}
use Rattle.sat_label.specs.declared.label.Label.{Label}
use Rattle.sat_label.specs.declared.node.NodeId.{NodeId}
use Rattle.sat_act.specs.declared.act.Act.{Act}
use Rattle.sat_act.specs.declared.answer.Answer.{Answer}
use Rattle.sat_act.specs.Deployed.{Deployed}
use Rattle.sat_act.specs.Done.{is_of}
use Rattle.sat_act.specs.Parts.{Handling}
use Rattle.sat_client.specs.declared.client.Client.{Client}
use Rattle.sat_model.specs.State.{SiteState}
use Rattle.sat_model.specs.Input.{SiteInput}
use Rattle.sat_model.specs.Next.{site_next}
use Rattle.sat_model.specs.Replay.{after, given_at}
use Rattle.sat_model.specs.World.{ClientState, WorldState, world_given, world_next, handled_by, client_next, dead_next}
use Rattle.sat_laws.proofs.Labels.{some_is}
use Rattle.sat_net.specs.Nets.{NetSeen, after_kill}
use Rattle.sat_net.specs.NetStands.{StandsNet, links_next}
use Rattle.sat_world.proofs.Laws.{kills, others, rests}
use Rattle.sat_site.specs.Seen.{SiteSeen}
use Rattle.sat_site.specs.Stands.{StandsSite}
use Rattle.sat_world.specs.Seen.{WorldSeen}
use Rattle.sat_world.specs.Stands.{StandsClient, Stands}
use Rattle.sat_world.specs.Worlds.{IsFrame}
use Rattle.sat_world.proofs.Lists.{set-cases}
use Rattle.sat_world.proofs.Handles.{other-client}

-- the label that an act handled
abbrev pub handling_of : Deployed → WorldState → Act → Answer → Option Handling
handling_of d s a r = handled_by d (λ i. (s.sites i).views.emission) (λ i. (s.sites i).views.view) a r

abbrev pub SitesStand : Deployed → List SiteSeen → (ℕ → SiteState) → Type 0
SitesStand d xs S = (k : ℕ) (x : SiteSeen) → slice_get xs k ≡ Some x → StandsSite d k x (S k)

abbrev pub NetsStand : List (Option NetSeen) → (ℕ → NodeId → NodeId → List Label) → (ℕ → ℕ → Bool) → Type 0
NetsStand nets links dead = (n : ℕ) (net : NetSeen) → slice_get nets n ≡ Some (Some net) → StandsNet net (links (n + 1)) (dead (n + 1))

abbrev pub ClientsStand : List Client → (ℕ → ClientState) → Type 0
ClientsStand cl C = (c : ℕ) (x : Client) → slice_get cl c ≡ Some x → StandsClient x (C c)

-- a world whose parts are those of the machine after the act
pub next-stands : (w : WorldSeen) (s : WorldState) (a : Act) (r : Answer) (xs : List SiteSeen) (nets : List (Option NetSeen)) (cl : List Client) →
    SitesStand w.deployment xs (λ k. after w.deployment k (s.sites k) (world_given w.deployment s a k) r) →
    NetsStand nets (λ e. links_next w.deployment (handling_of w.deployment s a r) e (s.links e)) (λ e z. dead_next e z (s.dead e z) a r) →
    ClientsStand cl (λ c. client_next c (s.clients c) a r) →
    Stands (record w { sites = xs; nets = nets; clients = cl }) (world_next w.deployment s a r)
unfolding world_next
next-stands w s a r xs nets cl sites links clients = record { sites = sites; nets = links; clients = clients }

-- ---- sites

after-here : (d : Deployed) (i : ℕ) (s : SiteState) (input : SiteInput) (r : Answer) → site_next d i s input r ≡ after d i s (given_at i i input) r
unfolding after
after-here d i s input r = sym (ap (λ (b : Bool). after d i s (if b then Some input else None) r) (same-number i))

after-there : (d : Deployed) (i k : ℕ) (s : SiteState) (input : SiteInput) (r : Answer) → (i == k) ≡ false → s ≡ after d k s (given_at i k input) r
unfolding after
after-there d i k s input r e = sym (ap (λ (b : Bool). after d k s (if b then Some input else None) r) e)

after-none : (d : Deployed) (k : ℕ) (s : SiteState) (r : Answer) → s ≡ after d k s None r
unfolding after
after-none d k s r = refl

-- one site was handed something
pub one-site : (d : Deployed) (S : ℕ → SiteState) (gives : ℕ → Option SiteInput) (r : Answer) (i : ℕ) (input : SiteInput) (xs ys : List SiteSeen) (y : SiteSeen) →
    SitesStand d xs S → ys ≡ set xs i y → StandsSite d i y (site_next d i (S i) input r) → ((k : ℕ) → gives k ≡ given_at i k input) → SitesStand d ys (λ k. after d k (S k) (gives k) r)
one-site d S gives r i input xs ys y st rest new is k x at =
    subst (λ (g : Option SiteInput). StandsSite d k x (after d k (S k) g r)) (sym (is k)) (go (set-cases xs i k y x (subst (λ (zs : List SiteSeen). slice_get zs k ≡ Some x) rest at)))
  where
    here : StandsSite d i y (after d i (S i) (given_at i i input) r)
    here = subst (λ (s : SiteState). StandsSite d i y s) (after-here d i (S i) input r) new

    go : ((i ≡ k) × (y ≡ x)) ⊎ (((i == k) ≡ false) × (slice_get xs k ≡ Some x)) → StandsSite d k x (after d k (S k) (given_at i k input) r)
    go (inl u) = subst (λ (x : SiteSeen). StandsSite d k x (after d k (S k) (given_at i k input) r)) u.1 (subst (λ (k : ℕ). StandsSite d k y (after d k (S k) (given_at i k input) r)) u.0 here)
    go (inr u) = subst (λ (s : SiteState). StandsSite d k x s) (after-there d i k (S k) input r u.0) (st k x u.1)

-- no site was
pub no-site : (d : Deployed) (S : ℕ → SiteState) (gives : ℕ → Option SiteInput) (r : Answer) (xs : List SiteSeen) → SitesStand d xs S → ((k : ℕ) → gives k ≡ None) → SitesStand d xs (λ k. after d k (S k) (gives k) r)
no-site d S gives r xs st is k x at = subst (λ (g : Option SiteInput). StandsSite d k x (after d k (S k) g r)) (sym (is k)) (subst (λ (s : SiteState). StandsSite d k x s) (after-none d k (S k) r) (st k x at))

-- ---- nets

same-dead : (net : NetSeen) (links : NodeId → NodeId → List Label) (D E : ℕ → Bool) → ((z : ℕ) → E z ≡ D z) → StandsNet net links D → StandsNet net links E
same-dead net links D E e st = record { each = st.each; killed = λ z lt. st.killed z lt ∙ sym (e z) }

-- no label was handled
pub no-net : (w : WorldSeen) (o : Option Handling) (links : ℕ → NodeId → NodeId → List Label) (D E : ℕ → ℕ → Bool) → IsFrame w → o ≡ None → ((e z : ℕ) → E e z ≡ D e z) → NetsStand w.nets links D → NetsStand w.nets (λ e. links_next w.deployment o e (links e)) E
no-net w o links D E k e dead st n net at =
    subst (λ (o : Option Handling). StandsNet net (links_next w.deployment o (n + 1) (links (n + 1))) (E (n + 1))) (sym e)
    (same-dead net (links_next w.deployment None (n + 1) (links (n + 1))) (D (n + 1)) (E (n + 1)) (λ z. dead (n + 1) z)
    (rests w.deployment (n + 1) net (links (n + 1)) (D (n + 1)) (k.planted n (Some net) at) (st n net at)))

apart-epochs : (m n : ℕ) → (m == n) ≡ false → ((m + 1) == (n + 1)) ≡ false
apart-epochs m n e = grind (arith, nat_tests)

-- a label was handled in the net at one place
pub one-net : (w : WorldSeen) (x : Handling) (links : ℕ → NodeId → NodeId → List Label) (D E : ℕ → ℕ → Bool) (m : ℕ) (p : Option NetSeen) (nets : List (Option NetSeen)) → IsFrame w → x.epoch ≡ m + 1 → ((e z : ℕ) → E e z ≡ D e z) → nets ≡ set w.nets m p →
    ((net : NetSeen) → p ≡ Some net → StandsNet net (links_next w.deployment (Some x) (m + 1) (links (m + 1))) (D (m + 1))) → NetsStand w.nets links D → NetsStand nets (λ e. links_next w.deployment (Some x) e (links e)) E
one-net w x links D E m p nets k e dead rest new st n net at =
    same-dead net (links_next w.deployment (Some x) (n + 1) (links (n + 1))) (D (n + 1)) (E (n + 1)) (λ z. dead (n + 1) z)
    (go (set-cases w.nets m n p (Some net) (subst (λ (ns : List (Option NetSeen)). slice_get ns n ≡ Some (Some net)) rest at)))
  where
    go : ((m ≡ n) × (p ≡ Some net)) ⊎ (((m == n) ≡ false) × (slice_get w.nets n ≡ Some (Some net))) → StandsNet net (links_next w.deployment (Some x) (n + 1) (links (n + 1))) (D (n + 1))
    go (inl u) = subst (λ (n : ℕ). StandsNet net (links_next w.deployment (Some x) (n + 1) (links (n + 1))) (D (n + 1))) u.0 (new net u.1)
    go (inr u) = others w.deployment (n + 1) net (links (n + 1)) (D (n + 1)) x (k.planted n (Some net) u.1) (st n net u.1) (ap (λ (e : ℕ). e == (n + 1)) e ∙ apart-epochs m n u.0)

-- no label was handled, and a serializer of the net at one place is dead
killed-here : (e z y : ℕ) (b : Bool) → (if (e == e) && (z == y) then true else b) ≡ (if z == y then true else b)
killed-here e z y b = ap (λ (t : Bool). if t && (z == y) then true else b) (same-number e)

killed-there : (e f z y : ℕ) (b : Bool) → (f == e) ≡ false → (if (f == e) && (z == y) then true else b) ≡ b
killed-there e f z y b g = ap (λ (t : Bool). if t && (z == y) then true else b) g

pub killed-net : (w : WorldSeen) (links : ℕ → NodeId → NodeId → List Label) (D : ℕ → ℕ → Bool) (m z : ℕ) (before : NetSeen) (nets : List (Option NetSeen)) → IsFrame w → slice_get w.nets m ≡ Some (Some before) → nets ≡ set w.nets m (Some (after_kill before z)) → NetsStand w.nets links D →
    NetsStand nets (λ e. links_next w.deployment None e (links e)) (λ e y. if ((m + 1) == e) && (z == y) then true else D e y)
killed-net w links D m z before nets k has rest st n net at = go (set-cases w.nets m n (Some (after_kill before z)) (Some net) (subst (λ (ns : List (Option NetSeen)). slice_get ns n ≡ Some (Some net)) rest at))
  where
    still : (n : ℕ) (net : NetSeen) → slice_get w.nets n ≡ Some (Some net) → StandsNet net (links_next w.deployment None (n + 1) (links (n + 1))) (D (n + 1))
    still n net at = rests w.deployment (n + 1) net (links (n + 1)) (D (n + 1)) (k.planted n (Some net) at) (st n net at)

    here : StandsNet (after_kill before z) (links_next w.deployment None (m + 1) (links (m + 1))) (λ y. if ((m + 1) == (m + 1)) && (z == y) then true else D (m + 1) y)
    here = same-dead (after_kill before z) (links_next w.deployment None (m + 1) (links (m + 1))) (λ y. if z == y then true else D (m + 1) y) (λ y. if ((m + 1) == (m + 1)) && (z == y) then true else D (m + 1) y) (λ y. killed-here (m + 1) z y (D (m + 1) y))
        (kills before (links_next w.deployment None (m + 1) (links (m + 1))) (D (m + 1)) z (k.planted m (Some before) has).net (still m before has))

    go : ((m ≡ n) × (Some (after_kill before z) ≡ Some net)) ⊎ (((m == n) ≡ false) × (slice_get w.nets n ≡ Some (Some net))) → StandsNet net (links_next w.deployment None (n + 1) (links (n + 1))) (λ y. if ((m + 1) == (n + 1)) && (z == y) then true else D (n + 1) y)
    go (inl u) = subst (λ (n : ℕ). StandsNet net (links_next w.deployment None (n + 1) (links (n + 1))) (λ y. if ((m + 1) == (n + 1)) && (z == y) then true else D (n + 1) y)) u.0
        (subst (λ (net : NetSeen). StandsNet net (links_next w.deployment None (m + 1) (links (m + 1))) (λ y. if ((m + 1) == (m + 1)) && (z == y) then true else D (m + 1) y)) (some_is (after_kill before z) net u.1) here)
    go (inr u) = same-dead net (links_next w.deployment None (n + 1) (links (n + 1))) (D (n + 1)) (λ y. if ((m + 1) == (n + 1)) && (z == y) then true else D (n + 1) y) (λ y. killed-there (n + 1) (m + 1) z y (D (n + 1) y) (apart-epochs m n u.0)) (still n net u.1)

-- ---- clients

-- an act of no client
pub no-client : (cl : List Client) (C : ℕ → ClientState) (a : Act) (r : Answer) → ((c : ℕ) → is_of a c ≡ false) → ClientsStand cl C → ClientsStand cl (λ c. client_next c (C c) a r)
no-client cl C a r e st c x at = subst (StandsClient x) (sym (other-client c (C c) a r (e c))) (st c x at)

-- an act of one client
pub one-client : (cl now : List Client) (C : ℕ → ClientState) (a : Act) (r : Answer) (c : ℕ) (y : Client) → ((b : ℕ) → (c == b) ≡ false → is_of a b ≡ false) → now ≡ set cl c y → StandsClient y (client_next c (C c) a r) → ClientsStand cl C →
    ClientsStand now (λ c. client_next c (C c) a r)
one-client cl now C a r c y others rest new st b x at = go (set-cases cl c b y x (subst (λ (zs : List Client). slice_get zs b ≡ Some x) rest at))
  where
    go : ((c ≡ b) × (y ≡ x)) ⊎ (((c == b) ≡ false) × (slice_get cl b ≡ Some x)) → StandsClient x (client_next b (C b) a r)
    go (inl u) = subst (λ (x : Client). StandsClient x (client_next b (C b) a r)) u.1 (subst (λ (b : ℕ). StandsClient y (client_next b (C b) a r)) u.0 new)
    go (inr u) = subst (StandsClient x) (sym (other-client b (C b) a r (others b u.0))) (st b x u.1)
