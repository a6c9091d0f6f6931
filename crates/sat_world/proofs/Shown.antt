-- What a world shows, and the world in which nothing has happened.
use Rattle.std.specs.Prelude.{◌≡◌, ◌≤◌, ◌+◌, ◌-◌, ℕ, true, false, List, [], length, map, Option, Some, None, slice_get, refl}
use Rattle.std.proofs.Common.{sym, subst, ap, ◌∙◌, arith, Bor, MatchOption}
use Rattle.std.proofs.lemmas.List.{length-map}
use Rattle.sat_label.specs.declared.carried.Carried.{Carried}
use Rattle.sat_label.specs.declared.label.Label.{Label}
use Rattle.sat_tree.specs.Shape.{TreeShape}
use Rattle.sat_act.specs.declared.deployment.ClientLine.{ClientLine}
use Rattle.sat_act.specs.declared.entry.Entry.{Entry}
use Rattle.sat_act.specs.Deployed.{Deployed}
use Rattle.sat_act.specs.Histories.{listed}
use Rattle.sat_act.specs.Limits.{IsDeployment}
use Rattle.sat_act.specs.Runs.{IsRun}
use Rattle.sat_act.specs.declared.deployment.Plan.{Plan}
use Rattle.sat_act.specs.declared.deployment.Plan.TheVariants as plan
use Rattle.sat_act.proofs.Plans.{tree_from_plans}
use Rattle.sat_act.specs.Parts.{planned_tree, tree_of, view, emission, in_stamp_mode, waiting, replicates, version, value_of, carried, moving, seat}
use Rattle.sat_act.proofs.Valid.{is_valid}
use Rattle.sat_laws.proofs.Labels.{some_is}
use Rattle.sat_bulk.specs.Payloads.{Payload}
use Rattle.sat_label.specs.Versions.{Version}
use Rattle.sat_model.specs.State.{SiteState, Version as VersionSeen}
use Rattle.sat_model.specs.Next.{version_at}
use Rattle.sat_model.specs.Look.{mode_of}
use Rattle.sat_model.specs.World.{world_state}
use Rattle.sat_model.proofs.Worlds.{world-starts}
use Rattle.sat_model.proofs.Simple.{view-agrees, emission-agrees}
use Rattle.sat_model.proofs.Raising.{mode-agrees}
use Rattle.sat_model.proofs.Pools.{pool-agrees}
use Rattle.sat_model.proofs.Stores.{store-agrees}
use Rattle.sat_site.specs.Seen.{SiteSeen}
use Rattle.sat_model.specs.Interests.{interest_of}
use Rattle.sat_net.specs.Nets.{NetSeen, fresh_net}
use Rattle.sat_net.specs.NetStands.{StandsNet}
use Rattle.sat_world.proofs.Laws.{starts}
use Rattle.sat_world.proofs.Laws.{net-fresh}
use Rattle.sat_site.specs.Stands.{StandsSite, version_seen}
use Rattle.sat_site.specs.declared.output.SiteView.{SiteView}
use Rattle.sat_client.specs.declared.client.Client.{Client}
use Rattle.sat_world.specs.Seen.{WorldSeen, HasSite, HasClient}
use Rattle.sat_world.specs.Counts.{shown_count}
use Rattle.sat_world.specs.Starts.{AreFresh, fresh_for, seated}
use Rattle.sat_world.specs.Worlds.{IsFrame, IsPlanted, IsWorld}
use Rattle.sat_world.specs.Shows.{IsVersion}
use Rattle.sat_world.specs.Stands.{Stands, StandsFor}
use Rattle.sat_world.proofs.Lists.{map-get}
use Rattle.sat_world.proofs.Meets.{home-is}
use Rattle.sat_model.specs.Parts.{valued, valued_version}

-- ---- what a world shows

-- what the code reads off a site, in each state that it stands for
abbrev pub ShowsView : SiteSeen → SiteView → Type 0
ShowsView x v = (d : Deployed) (i : ℕ) (s : SiteState) → StandsSite d i x s → v ≡ record { view = s.views.view; emission = s.views.emission; stamp = mode_of d s; waiting = length s.proxy.pool }

module _ (w : WorldSeen) (h : List Entry) (i : ℕ) (x : SiteSeen) (v : SiteView) (run : IsRun w.deployment h) (st : StandsFor w h) (at : HasSite w i x) (is : ShowsView x v) where
  pub shows-view : v.view ≡ view h i
  unfolding world_state
  shows-view = ap (λ (v : SiteView). v.view) (is _ _ _ (st.parts.sites i x at)) ∙ view-agrees w.deployment h i run

  pub shows-emission : v.emission ≡ emission h i
  unfolding world_state
  shows-emission = ap (λ (v : SiteView). v.emission) (is _ _ _ (st.parts.sites i x at)) ∙ emission-agrees w.deployment h i run

  pub shows-mode : v.stamp ≡ in_stamp_mode w.deployment h i
  unfolding world_state
  shows-mode = ap (λ (v : SiteView). v.stamp) (is _ _ _ (st.parts.sites i x at)) ∙ mode-agrees w.deployment h i run

  pub shows-waiting : IsDeployment w.deployment → v.waiting ≡ length (waiting h i)
  unfolding world_state
  shows-waiting k = ap (λ (v : SiteView). v.waiting) (is _ _ _ (st.parts.sites i x at)) ∙ (ap (λ (ps : List Payload). length ps) (pool-agrees w.deployment h i (is_valid w.deployment k) run) ∙ length-map (waiting h i) (valued h))

none-stored : (h : List Entry) (n : ℕ) (o : Option Label) → valued_version h n o ≡ None → o ≡ None
none-stored h n None e = refl
none-stored h n (Some l) e = absurd (cc)

some-stored : (h : List Entry) (n : ℕ) (o : Option Label) (v : Version) → valued_version h n o ≡ version_seen (Some v) → (o ≡ Some v.label) × (value_of h v.label n ≡ v.value)
some-stored h n None v e = absurd (cc)
some-stored h n (Some l) v e =
    let p : version_at l (value_of h l n) ≡ record { label = v.label; value = v.value } = some_is _ _ e in
    let q : l ≡ v.label = ap (λ (p : VersionSeen). p.label) p in
    (ap (λ (l : Label). Some l) q, sym (ap (λ (l : Label). value_of h l n) q) ∙ ap (λ (p : VersionSeen). p.value) p)

-- the version of an item at a site that keeps it
abbrev pub ShowsVersion : SiteSeen → ℕ → Option (Bor Version) → Type 0
ShowsVersion x n r = (d : Deployed) (i : ℕ) (s : SiteState) → StandsSite d i x s → replicates d n i ≡ true → MatchOption r (s.store n ≡ None) (λ v. s.store n ≡ version_seen (Some v.now))

pub shows-version : (w : WorldSeen) (h : List Entry) (i n : ℕ) (x : SiteSeen) (r : Option (Bor Version)) → IsDeployment w.deployment → IsRun w.deployment h → StandsFor w h → HasSite w i x → replicates w.deployment n i ≡ true → ShowsVersion x n r →
    MatchOption r (version h i n ≡ None) (λ v. IsVersion h i n v.now)
unfolding world_state
shows-version w h i n x None k run st at kept is = none-stored h n (version h i n) (sym (store-agrees w.deployment h i n (is_valid w.deployment k) run) ∙ is _ _ _ (st.parts.sites i x at) kept)
shows-version w h i n x (Some v) k run st at kept is =
    let p = some-stored h n (version h i n) v.now (sym (store-agrees w.deployment h i n (is_valid w.deployment k) run) ∙ is _ _ _ (st.parts.sites i x at) kept) in
    record { label = p.0; value = p.1 }

-- what a client of the world carries, and its seat
module _ (w : WorldSeen) (h : List Entry) (c : ℕ) (x : Client) (st : StandsFor w h) (at : HasClient w c x) where
  pub shows-point : x.carried.point ≡ carried h c
  unfolding world_state
  shows-point = ap (λ (k : Carried). k.point) (st.parts.clients c x at).carried

  pub shows-moving : x.carried.moving ≡ moving h c
  unfolding world_state
  shows-moving = ap (λ (k : Carried). k.moving) (st.parts.clients c x at).carried

  pub shows-seat : x.seat ≡ seat w.deployment h c
  unfolding world_state
  shows-seat = (st.parts.clients c x at).seat

-- ---- the new world

-- the parts of the new world
pub record AreNew (w : WorldSeen) : Type 0 where
  pub interest : w.interest ≡ interest_of w.deployment
  pub sites : AreFresh w.deployment w.deployment.sites w.sites
  pub nets : w.nets ≡ map fresh_for w.deployment.plans
  pub clients : w.clients ≡ map seated w.deployment.clients

planned-at : (d : Deployed) (n : ℕ) → tree_of d (n + 1) ≡ planned_tree d.plans n
planned-at d n = let low : 1 ≤ n + 1 = omega arith in let e : (n + 1) - 1 ≡ n = omega arith in tree_from_plans d (n + 1) low ∙ ap (planned_tree d.plans) e

abbrev planned_by : Option Plan → Option TreeShape
planned_by o = elim o [ None ↦ None | Some p ↦ elim p [ plan.Stamp ↦ None | plan.Tree t ↦ Some t ] ]

module _ (w : WorldSeen) (k : IsDeployment w.deployment) (n : AreNew w) where
  new-client : (c : ℕ) (x : Client) → slice_get w.clients c ≡ Some x → (line : ClientLine) × (slice_get w.deployment.clients c ≡ Some line) × (seated line ≡ x)
  new-client c x e = map-get seated w.deployment.clients c x (subst (λ (cl : List Client). slice_get cl c ≡ Some x) n.clients e)

  new-net : (m : ℕ) (o : Option NetSeen) → slice_get w.nets m ≡ Some o → (p : Plan) × (slice_get w.deployment.plans m ≡ Some p) × (fresh_for p ≡ o)
  new-net m o e = map-get fresh_for w.deployment.plans m o (subst (λ (ns : List (Option NetSeen)). slice_get ns m ≡ Some o) n.nets e)

  planted : (m : ℕ) (p : Plan) → slice_get w.deployment.plans m ≡ Some p → IsPlanted w.deployment (m + 1) (fresh_for p)
  planted m plan.Stamp e = planned-at w.deployment m ∙ ap (λ (o : Option Plan). planned_by o) e
  planted m (plan.Tree t) e =
      let tree : tree_of w.deployment (m + 1) ≡ Some t = planned-at w.deployment m ∙ ap (λ (o : Option Plan). planned_by o) e in
      record { deployment = k; tree = tree; net = net-fresh t (k.trees (m + 1) t tree) }

  new-frame : IsFrame w
  new-frame = record {
    deployment = k;
    interest = n.interest;
    sites = n.sites.count;
    nets = ap (λ (ns : List (Option NetSeen)). length ns) n.nets ∙ length-map w.deployment.plans fresh_for;
    planted = λ m o at. let p = new-net m o at in subst (IsPlanted w.deployment (m + 1)) p.2 (planted m p.0 p.1);
    clients = ap (λ (cl : List Client). length cl) n.clients ∙ length-map w.deployment.clients seated;
  }

  fresh-net : (p : Plan) (net : NetSeen) → fresh_for p ≡ Some net → StandsNet net (λ u v. []) (λ z. false)
  fresh-net plan.Stamp net e = absurd (let f : None ≡ Some net = e in cc)
  fresh-net (plan.Tree t) net e = subst (λ (net : NetSeen). StandsNet net (λ u v. []) (λ z. false)) (some_is (fresh_net t) net e) (starts t)

  new-parts : Stands w (world_state w.deployment [])
  new-parts = subst (Stands w) (sym (world-starts w.deployment)) (record {
    sites = n.sites.each;
    nets = λ m net at. let p = new-net m (Some net) at in fresh-net p.0 net p.2;
    clients = λ c x at. let l = new-client c x at in record {
      carried = sym (ap (λ (x : Client). x.carried) l.2);
      seat = sym (ap (λ (x : Client). x.seat) l.2) ∙ sym (home-is w.deployment c (Some l.0) l.1);
    };
  })

  pub new-stands : w.shown ≡ 0 → StandsFor w []
  unfolding shown_count listed
  new-stands e = record { parts = new-parts; shown = e }

  pub new-world : IsWorld w
  unfolding IsRun
  new-world = record { frame = new-frame; history = []; run = tt; stands = new-parts }
