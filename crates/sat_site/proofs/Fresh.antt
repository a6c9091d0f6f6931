-- A site at which nothing has happened.
use Rattle.std.specs.Prelude.{◌≡◌, ◌⊎◌, ◌<◌, ◌≤◌, ◌-◌, ◌/◌, ℕ, zero, suc, Bool, true, false, ◌==◌, if◌then◌else◌, is_none, List, [], ◌∷◌, ◌++◌, length, map, replicate, get_or, Option, Some, None, slice_get, refl}
use Rattle.std.proofs.Common.{subst, ap, sym, ◌∙◌, arith, inl, inr}
use Rattle.std.proofs.lemmas.List.{length-map}
use Rattle.sat_label.proofs.Numbers.{length-below}
use Rattle.sat_label.specs.Words.{below}
use Rattle.sat_sites.specs.declared.shape.Shape.{Shape}
use Rattle.sat_gear.specs.Gear.{GearSeen, IsShape, fresh_gear, version_of, places}
use Rattle.sat_sink.specs.Sink.{fresh_sink}
use Rattle.sat_tree.specs.Shape.{TreeShape}
use Rattle.sat_act.specs.declared.deployment.Plan.{Plan}
use Rattle.sat_act.specs.declared.deployment.Plan.TheVariants as plan
use Rattle.sat_act.specs.Answers.{gear_of}
use Rattle.sat_act.specs.Deployed.{Deployed}
use Rattle.sat_act.specs.Parts.{planned_tree, tree_of}
use Rattle.sat_model.specs.State.{fresh_site}
use Rattle.std.proofs.lemmas.Bool.{ne_eqb}
use Rattle.sat_label.specs.declared.point.Point.{Point}
use Rattle.sat_proxy.specs.Proxy.{fresh_proxy, note_of}
use Rattle.sat_proxy.specs.Stands.{StandsProxy}
use Rattle.sat_proxy.specs.Laws.{Starts}
use Rattle.sat_hub.specs.Changes as hub
use Rattle.sat_hub.specs.Seen.{HubSeen, IsHub}
use Rattle.sat_hub.proofs.Fresh.{always, none-pending}
use Rattle.sat_site.specs.Seen.{SiteSeen, AreGears, IsSite, IsGearAt, site_of}
use Rattle.sat_site.specs.Changes.{fresh_seen, is_stamp_plan, new_site, shape_for}
use Rattle.sat_site.specs.Stands.{StandsSite, StandsGear, version_seen}
use Rattle.sat_hub.proofs.Lists.{map-cases, Mapped}

below-at : (n g k : ℕ) → slice_get (below n) g ≡ Some k → k ≡ g
below-at zero g k e = absurd (cc)
below-at (suc n) g k e = elim (last (below n) n g k e) [ inl w ↦ below-at n g k w | inr w ↦ sym w.1 ∙ (sym (length-below n) ∙ sym w.0) ]
  where
    last : (ns : List ℕ) (m g k : ℕ) → slice_get (ns ++ m ∷ []) g ≡ Some k → (slice_get ns g ≡ Some k) ⊎ ((g ≡ length ns) × (m ≡ k))
    last [] m zero k e = inr (refl, cc)
    last [] m (suc g) k e = absurd (cc)
    last (j ∷ ns) m zero k e = inl e
    last (j ∷ ns) m (suc g) k e = elim (last ns m g k e) [ inl w ↦ inl w | inr w ↦ inr (let q : g ≡ length ns = w.0 in omega arith, w.1) ]

-- gear g of a fresh site
fresh-at : (shape : Shape) (g : ℕ) (gear : GearSeen) → slice_get (map (fresh_gear shape) (below shape.gears)) g ≡ Some gear → fresh_gear shape g ≡ gear
fresh-at shape g gear at =
    let w : Mapped (fresh_gear shape) (below shape.gears) g gear = map-cases (fresh_gear shape) (below shape.gears) g gear at in
    ap (fresh_gear shape) (sym (below-at shape.gears g w.old w.at)) ∙ w.is

no-version : (shape : Shape) (g n : ℕ) → version_of (fresh_gear shape g) n ≡ None
no-version shape g n = always (places (length shape.interest.replicas) shape.gears) (n / shape.gears) None

pub fresh-gear-site : (shape : Shape) (g : ℕ) (gear : GearSeen) → fresh_gear shape g ≡ gear → IsGearAt shape (fresh_sink shape.site shape.gears) g gear
fresh-gear-site shape g gear e = subst (IsGearAt shape (fresh_sink shape.site shape.gears) g) e (record {
  shape = refl;
  number = refl;
  gathered = always shape.gears g 0;
  fresh = λ l i. absurd i;
  pending = λ l i. absurd (none-pending shape.gears g l i);
})

-- the shape of a hub is one of a site
pub hub-shape : (h : HubSeen) (shape : Shape) → IsHub h → shape ≡ h.shape → IsShape shape
hub-shape h shape k e = subst IsShape (sym e) k.shape

fresh-is : (shape : Shape) (stamp : List Bool) → IsHub (hub.fresh_hub shape stamp) → AreGears (map (fresh_gear shape) (below shape.gears)) → IsSite (fresh_seen shape stamp)
fresh-is shape stamp k good = record {
  shape = k.shape;
  gears = record {
    count = length-map (below shape.gears) (fresh_gear shape) ∙ length-below shape.gears;
    each = λ g gear at. fresh-gear-site shape g gear (fresh-at shape g gear at);
    are = good;
  };
  sink = k.sink;
  counts = k.counts;
  views = k.views;
  proxy = k.proxy;
  made = k.made;
}

-- the gears of a new hub's shape
gears-are : (d : Deployed) (i : ℕ) (h : HubSeen) (shape : Shape) (gears : List GearSeen) → h ≡ hub.new_hub d i → shape ≡ h.shape → gears ≡ map (fresh_gear shape) (below shape.gears) → gears ≡ map (fresh_gear (shape_for d i)) (below d.gears)
gears-are d i h shape gears is same e = e ∙ ap (λ (s : Shape). map (fresh_gear s) (below s.gears)) (same ∙ ap (λ (y : HubSeen). y.shape) is)

pub fresh-site : (d : Deployed) (i : ℕ) (h : HubSeen) (shape : Shape) (gears : List GearSeen) → IsHub h → h ≡ hub.new_hub d i → shape ≡ h.shape → gears ≡ map (fresh_gear shape) (below shape.gears) → AreGears gears → IsSite (site_of h gears)
fresh-site d i h shape gears k is same e good =
    let all : gears ≡ map (fresh_gear (shape_for d i)) (below d.gears) = gears-are d i h shape gears is same e in
    subst IsSite (λ j. site_of (sym is j) (sym all j)) (fresh-is (shape_for d i) (map is_stamp_plan d.plans) (subst IsHub is k) (subst AreGears all good))

fresh-stands-gear : (d : Deployed) (shape : Shape) (g : ℕ) (gear : GearSeen) → fresh_gear shape g ≡ gear → StandsGear d gear (record { promise = 0; fresh = []; lanes = λ j. [] })
fresh-stands-gear d shape g gear e = subst (λ (y : GearSeen). StandsGear d y (record { promise = 0; fresh = []; lanes = λ j. [] })) e (record { promise = refl; fresh = refl; lanes = λ j lt. always shape.sites j [] })

-- ---- plans

-- the flag at a place says whether there is no tree
stamp-at : (plans : List Plan) (n : ℕ) → n < length plans → get_or (map is_stamp_plan plans) n false ≡ is_none (planned_tree plans n)
stamp-at [] n lt = absurd (omega arith)
stamp-at (p ∷ plans) zero lt = go p
  where
    go : (p : Plan) → is_stamp_plan p ≡ is_none {T = TreeShape} (elim p [ plan.Stamp ↦ None | plan.Tree tree ↦ Some tree ])
    go plan.Stamp = refl
    go (plan.Tree tree) = refl
stamp-at (p ∷ plans) (suc n) lt = stamp-at plans n (omega arith)

plans-are : (d : Deployed) (e : ℕ) → 1 ≤ e → e ≤ length d.plans → get_or (map is_stamp_plan d.plans) (e - 1) false ≡ is_none (tree_of d e)
unfolding tree_of
plans-are d e low high =
    stamp-at d.plans (e - 1) (omega arith) ∙ ap (λ (b : Bool). is_none (if b then None else planned_tree d.plans (e - 1))) (sym (ne_eqb e 0 (λ f. omega arith)))

no-close : (e : ℕ) (b : Bool) → ◌≡◌ {A = Option Point} None (if b then None else slice_get [] (e - 1))
no-close e true = refl
no-close e false = refl

abbrev empty-row : List ℕ
empty-row = []

no-count : (n g j : ℕ) → get_or (get_or (replicate n empty-row) g empty-row) j 0 ≡ 0
no-count n g j = ap (λ (row : List ℕ). get_or row j 0) (always n g (empty-row))

pub fresh-stands : (d : Deployed) (i : ℕ) (shape : Shape) → Starts → shape ≡ shape_for d i → StandsSite d i (fresh_seen shape (map is_stamp_plan d.plans)) (fresh_site i)
fresh-stands d i shape starts e = record {
  shape = e;
  gears = record { each = λ g gear at. fresh-stands-gear d shape g gear (fresh-at shape g gear at); none = λ g j past. refl };
  sink = record {
    promises = λ g lt. always shape.gears g 0;
    pending = λ g lt. always shape.gears g [];
    counted = λ g j lt. no-count shape.gears g j;
    last = (λ j. record { ts = 0; site = (e j).site; gear = 0 });
    pulse = refl;
  };
  views = record {
    view = refl;
    emission = refl;
    fallen = refl;
    closes = λ n. no-close n (n == 0);
    heard = λ k lt other. sym (always shape.sites k false);
    later = λ k n past. refl;
    plans = λ n low high. plans-are d n low high;
    count = length-map d.plans is_stamp_plan;
  };
  proxy = subst (λ (s : Shape). StandsProxy (fresh_proxy s.sites s.gears s.site) (fresh_site i).proxy) (sym e) (starts d i);
  store = record { each = λ n gear lt kept at. subst (λ (y : GearSeen). version_seen (version_of y n) ≡ None) (fresh-at shape (gear_of d n) gear at) (ap version_seen (no-version shape (gear_of d n) n)) };
  made = λ j lt. ap (map note_of) (always shape.sites j []);
}

pub made-same : (d : Deployed) (i : ℕ) (h : HubSeen) (shape : Shape) (gears : List GearSeen) → h ≡ hub.new_hub d i → shape ≡ h.shape → gears ≡ map (fresh_gear shape) (below shape.gears) → site_of h gears ≡ new_site d i
made-same d i h shape gears is same e = λ j. site_of (is j) (gears-are d i h shape gears is same e j)

pub made-stands : (d : Deployed) (i : ℕ) (h : HubSeen) (shape : Shape) (gears : List GearSeen) → Starts → h ≡ hub.new_hub d i → shape ≡ h.shape → gears ≡ map (fresh_gear shape) (below shape.gears) → StandsSite d i (site_of h gears) (fresh_site i)
made-stands d i h shape gears starts is same e =
    subst (λ (x : SiteSeen). StandsSite d i x (fresh_site i)) (sym (made-same d i h shape gears is same e)) (fresh-stands d i (shape_for d i) starts refl)
