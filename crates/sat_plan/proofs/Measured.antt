-- The routes give the latencies and the mismatch.
use Rattle.std.proofs.Common.{ℕ, ◌≡◌, ◌<◌, ◌&&◌, not, List, [], ◌∷◌, length, sum_by, slice_index, slice_index_or, refl, arith}
use Rattle.std.specs.List.{All}
use Rattle.std.proofs.lemmas.List.Elements.{All-head, All-tail}
use Rattle.std.proofs.lemmas.List.Sums.{sum_by-cons}
use Rattle.std.proofs.lemmas.Bool.{lt-ltb}
use Rattle.sat_label.specs.Words.{bit}
use Rattle.sat_tree.specs.Shape.{TreeShape}
use Rattle.sat_delay.specs.Table.{DelayTable}
use Rattle.sat_plan.specs.declared.edges.Edge.{Edge}
use Rattle.sat_plan.specs.declared.pairs.Pair.{Pair}
use Rattle.sat_plan.specs.declared.routes.Leg.{Leg}
use Rattle.sat_plan.specs.declared.routes.Routes.{Routes}
use Rattle.sat_plan.specs.Config.{config_of, edges, edge_at}
use Rattle.sat_plan.specs.Mismatch.{on_way, leg, access, latency, pair_cost, pairs, mismatch}
use Rattle.sat_plan.specs.Routes.{no_leg, routed_leg, routed, routed_cost, site_access, IsLeg, IsRoutes}
use Rattle.sat_plan.specs.Drafts.{IsPairBelow}
use Rattle.sat_plan.proofs.Legs.{access_at}
use Rattle.sat_plan.proofs.Lists.{pairs_are}
use Rattle.sat_plan.proofs.SumLemmas.{sum_to-same}

-- a leg is on the way where its edge is
pub leg_on_way : (d : DelayTable) (t : TreeShape) (places : List ℕ) (e : Edge) (l : Leg) (i k : ℕ) → IsLeg d t places e l → i < length t.seats → k < length t.seats → (bit l.far.bits k && not (bit l.far.bits i)) ≡ on_way t e i k
unfolding on_way
leg_on_way d t places e l i k stands from to = rw (stands.far k, stands.far i, lt-ltb i (length t.seats) from, lt-ltb k (length t.seats) to) refl

leg_same : (d : DelayTable) (t : TreeShape) (places delays : List ℕ) (legs : List Leg) (i k e : ℕ) → IsLeg d t places (edge_at t e) (slice_index_or legs e no_leg) → i < length t.seats → k < length t.seats → routed_leg legs delays i k e ≡ leg d (config_of t places delays) i k e
unfolding routed_leg leg
leg_same d t places delays legs i k e stands from to = rw (leg_on_way d t places (edge_at t e) (slice_index_or legs e no_leg) i k stands from to, stands.spans) refl

pub routed_is : (d : DelayTable) (t : TreeShape) (places delays : List ℕ) (r : Routes) (i k : ℕ) → IsRoutes d t places r → i < length t.seats → k < length t.seats → routed r delays i k ≡ latency d (config_of t places delays) i k
unfolding routed latency access site_access
routed_is d t places delays r i k routes from to =
    let a : slice_index r.access.items i ≡ access d (config_of t places delays) i = access_at d t places r.access.items i routes.access from in
    let b : slice_index r.access.items k ≡ access d (config_of t places delays) k = access_at d t places r.access.items k routes.access to in
    let same = sum_to-same (routed_leg r.legs.items delays i k) (leg d (config_of t places delays) i k) (length (edges t)) (λ e under. leg_same d t places delays r.legs.items i k e (routes.legs.stand e under) from to) in
    rw (a, b, routes.legs.many, same) refl

pub sum_by-same : {X : Type 0} (P : X → Type 0) (f g : X → ℕ) → ((x : X) → P x → f x ≡ g x) → (xs : List X) → All P xs → sum_by f xs ≡ sum_by g xs
sum_by-same P f g same [] all = refl
sum_by-same P f g same (x ∷ xs) all =
    let here = same x (All-head P x xs all) in
    let rest = sum_by-same P f g same xs (All-tail P x xs all) in
    omega (arith, sum_by-cons f x xs, sum_by-cons g x xs)

cost_same : (d : DelayTable) (t : TreeShape) (places delays : List ℕ) (r : Routes) (p : Pair) → IsRoutes d t places r → length t.seats ≡ d.sites → IsPairBelow d.sites p → routed_cost d r delays p ≡ pair_cost d (config_of t places delays) p
unfolding routed_cost pair_cost
cost_same d t places delays r p routes seats pair =
    rw (routed_is d t places delays r p.from p.to routes (let a = pair.from in omega arith) (let a = pair.to in omega arith)) refl

pub mismatch_is : (d : DelayTable) (t : TreeShape) (places delays : List ℕ) (r : Routes) → IsRoutes d t places r → length t.seats ≡ d.sites → sum_by (routed_cost d r delays) (pairs d.sites) ≡ mismatch d (config_of t places delays)
unfolding mismatch
mismatch_is d t places delays r routes seats =
    sum_by-same (IsPairBelow d.sites) (routed_cost d r delays) (pair_cost d (config_of t places delays)) (λ p pair. cost_same d t places delays r p routes seats pair) (pairs d.sites) (pairs_are d.sites)
