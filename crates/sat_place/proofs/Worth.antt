-- What is kept of all pairs gives the mismatch, so the search finds the least placement.
use Rattle.std.proofs.Common.{ℕ, zero, suc, ◌≡◌, ◌<◌, ◌≤◌, ◌+◌, Bool, true, false, max, nat_lt, if◌then◌else◌, List, [], ◌∷◌, length, map, replicate, slice_index, get_or, sum_by, refl, arith}
use Rattle.std.specs.List.{All}
use Rattle.std.proofs.lemmas.Bool.Decides.{nat_tests}
use Rattle.std.proofs.lemmas.List.Elements.{All-nil, All-cons, All-append, All-get_or, All-from_get_or}
use Rattle.std.proofs.lemmas.List.Sums.{sum_by-append, sum_by-cons}
use Rattle.sat_label.specs.declared.node.NodeId.{NodeId}
use Rattle.sat_label.specs.declared.node.NodeId.TheVariants.{Site, Serializer}
use Rattle.sat_tree.specs.Shape.{TreeShape}
use Rattle.sat_tree.specs.Cut.{seat_of, IsNode}
use Rattle.sat_tree.specs.Flaw.{IsSmallTree}
use Rattle.sat_delay.specs.Table.{DelayTable, IsWithinLimits}
use Rattle.sat_plan.specs.declared.edges.Edge.{Edge}
use Rattle.sat_plan.specs.declared.pairs.Pair.{Pair}
use Rattle.sat_plan.specs.Sums.{sum_to}
use Rattle.sat_plan.specs.Config.{edge_of, edges, edge_at}
use Rattle.sat_plan.specs.Drafts.{IsEdgeOf}
use Rattle.sat_plan.specs.Mismatch.{on_way, span, span_to, leg, access, latency, pair_cost, pairs, mismatch}
use Rattle.sat_plan.specs.Steps.{undelayed}
use Rattle.sat_plan.proofs.Lists.{edges_are}
use Rattle.sat_place.specs.declared.placed.Placed.{Placed}
use Rattle.sat_place.specs.declared.ways.Hop.{Hop}
use Rattle.sat_place.specs.declared.ways.Way.{Way}
use Rattle.sat_place.specs.Placing.{worth, IsPlacing, IsLeast}
use Rattle.sat_place.specs.Search.{least_from, best_from, least_places, IsFirstLeast}
use Rattle.sat_place.specs.Laws.{LeastIsFound}
use Rattle.sat_place.proofs.Order.{least_is_one}
use Rattle.sat_place.specs.Ways.{hop_to, hop_over, hops_below, hops_of, no_hop, highest, way_of, hop_span, hops_span, way_latency, way_cost, known_cost, known}
use Rattle.sat_place.proofs.Found.{Finds, finds}

zeros : (n i : ℕ) → get_or (replicate n zero) i 0 ≡ 0
zeros zero i = refl
zeros (suc n) zero = refl
zeros (suc n) (suc i) = zeros n i

-- ---- the hops' milliseconds are those of the edges

hop_leg : (d : DelayTable) (t : TreeShape) (places : List ℕ) (i k e : ℕ) → sum_by (hop_span d places) (hop_over t (edge_at t e) i k) ≡ leg d (undelayed t places) i k e
unfolding hop_over leg undelayed
hop_leg d t places i k e = go (on_way t (edge_at t e) i k) refl
  where
    to_node : (z : ℕ) (n : NodeId) → sum_by (hop_span d places) (hop_to z n) ≡ span_to d places z n
    to_node z (Site j) = refl
    to_node z (Serializer y) = let e = sum_by-cons (hop_span d places) (record { from = z; to = y }) [] in omega arith

    go : (b : Bool) → on_way t (edge_at t e) i k ≡ b → sum_by (hop_span d places) (if on_way t (edge_at t e) i k then hop_to (edge_at t e).from (edge_at t e).to else []) ≡ (if on_way t (edge_at t e) i k then span d places (edge_at t e) + slice_index (replicate (length (edges t)) 0) e else 0)
    go true is = rw is (let none = zeros (length (edges t)) e in let own = to_node (edge_at t e).from (edge_at t e).to in omega arith)
    go false is = rw is refl

hops_legs : (d : DelayTable) (t : TreeShape) (places : List ℕ) (i k n : ℕ) → sum_by (hop_span d places) (hops_below t i k n) ≡ sum_to (leg d (undelayed t places) i k) n
unfolding hops_below sum_to
hops_legs d t places i k zero = refl
hops_legs d t places i k (suc n) =
    let front = hops_legs d t places i k n in
    let here = hop_leg d t places i k n in
    let whole = sum_by-append (hop_span d places) (hops_below t i k n) (hop_over t (edge_at t n) i k) in
    omega arith

-- ---- no serializer on a way is past the last one

inside : TreeShape → Hop → Type 0
inside t h = max h.from h.to < length t.parents

edge_short : (t : TreeShape) (e : ℕ) → e < length (edges t) → IsEdgeOf t (edge_at t e)
unfolding edge_at
edge_short t e under = All-get_or (IsEdgeOf t) (edges t) e (edge_of 0 (Site 0)) under (edges_are t)

hop_inside : (t : TreeShape) (z : ℕ) (n : NodeId) → z < length t.parents → IsNode t n → All (inside t) (hop_to z n)
unfolding inside
hop_inside t z (Site j) from node = All-nil (inside t)
hop_inside t z (Serializer y) from node = All-cons (inside t) (record { from = z; to = y }) [] (omega arith) (All-nil (inside t))

over_inside : (t : TreeShape) (e : Edge) (i k : ℕ) → IsEdgeOf t e → All (inside t) (hop_over t e i k)
unfolding hop_over
over_inside t e i k is = go (on_way t e i k) refl
  where
    go : (b : Bool) → on_way t e i k ≡ b → All (inside t) (if on_way t e i k then hop_to e.from e.to else [])
    go true way = rw way (hop_inside t e.from e.to is.from is.to)
    go false way = rw way (All-nil (inside t))

hops_inside : (t : TreeShape) (i k n : ℕ) → n ≤ length (edges t) → All (inside t) (hops_below t i k n)
unfolding hops_below
hops_inside t i k zero most = All-nil (inside t)
hops_inside t i k (suc n) most = All-append (inside t) (hops_below t i k n) (hop_over t (edge_at t n) i k) (hops_inside t i k n (omega arith)) (over_inside t (edge_at t n) i k (edge_short t n (omega arith)))

highest_inside : (t : TreeShape) (near far : ℕ) (hops : List Hop) (n : ℕ) → near < length t.parents → far < length t.parents → n ≤ length hops → All (inside t) hops → highest near far hops n < length t.parents
unfolding highest inside
highest_inside t near far hops zero a b most all = omega arith
highest_inside t near far hops (suc n) a b most all =
    let front = highest_inside t near far hops n a b (omega arith) all in
    let here : max (get_or hops n no_hop).from (get_or hops n no_hop).to < length t.parents = All-get_or (inside t) hops n no_hop (omega arith) all in
    omega arith

last_inside : (d : DelayTable) (t : TreeShape) (p : Pair) → IsSmallTree t → (way_of d t p).last < length t.parents
unfolding way_of hops_of
last_inside d t p small =
    highest_inside t (seat_of t p.from) (seat_of t p.to) (hops_below t p.from p.to (length (edges t))) _ (small.tree.seats p.from) (small.tree.seats p.to) (omega arith)
    (hops_inside t p.from p.to (length (edges t)) (omega arith))

-- ---- what is kept gives the mismatch

cost_is : (d : DelayTable) (t : TreeShape) (places : List ℕ) (p : Pair) → way_cost d places (way_of d t p) ≡ pair_cost d (undelayed t places) p
unfolding way_cost way_latency hops_span way_of hops_of pair_cost latency access undelayed
cost_is d t places p = rw (hops_legs d t places p.from p.to (length (edges t))) refl

whole_is : (d : DelayTable) (t : TreeShape) (places : List ℕ) (p : Pair) → IsSmallTree t → length places ≡ length t.parents → known_cost d places (way_of d t p) ≡ pair_cost d (undelayed t places) p
unfolding known_cost
whole_is d t places p small whole =
    let last = last_inside d t p small in
    let test : nat_lt (way_of d t p).last (length places) ≡ true = grind (arith, nat_tests) in
    rw test (cost_is d t places p)

sums : (d : DelayTable) (t : TreeShape) (places : List ℕ) (list : List Pair) → IsSmallTree t → length places ≡ length t.parents → sum_by (known_cost d places) (map (way_of d t) list) ≡ sum_by (pair_cost d (undelayed t places)) list
sums d t places [] small whole = refl
sums d t places (p ∷ ps) small whole =
    let here = whole_is d t places p small whole in
    let rest = sums d t places ps small whole in
    omega (arith, sum_by-cons (known_cost d places) (way_of d t p) (map (way_of d t) ps), sum_by-cons (pair_cost d (undelayed t places)) p ps)

known_is : (d : DelayTable) (t : TreeShape) (ways : List Way) (places : List ℕ) → IsSmallTree t → ways ≡ map (way_of d t) (pairs d.sites) → length places ≡ length t.parents → known d ways places ≡ worth d t places
unfolding known worth mismatch
known_is d t ways places small is whole = rw is (sums d t places (pairs d.sites) small whole)

-- ---- the least placement

placing_within : (d : DelayTable) (t : TreeShape) (places : List ℕ) → IsPlacing d t places → All (λ p. p < d.places) places
placing_within d t places is = All-from_get_or (λ p. p < d.places) places 0 is.within

found_least : (d : DelayTable) (t : TreeShape) (ways : List Way) (rest : List ℕ) → IsSmallTree t → ways ≡ map (way_of d t) (pairs d.sites) → IsFirstLeast (known d ways) d.places (length t.parents) [] rest → IsLeast d t rest (known d ways rest)
found_least d t ways rest small is least = record {
  placing = record { one_each = least.count; within = λ z under. All-get_or (λ p. p < d.places) rest z 0 under least.within };
  own = known_is d t ways rest small is least.count;
  best = λ others placing. let other = known_is d t ways others small is placing.one_each in let most = least.best others placing.one_each (placing_within d t others placing) in omega arith;
  first = λ others placing before. let other = known_is d t ways others small is placing.one_each in let less = least.first others placing.one_each (placing_within d t others placing) before in omega arith;
}

pub is_least : (d : DelayTable) (t : TreeShape) (ways : List Way) (placed : Placed) → IsWithinLimits d → IsSmallTree t → ways ≡ map (way_of d t) (pairs d.sites) → placed ≡ best_from (known d ways) d.places (length t.parents) [] → IsLeast d t placed.places placed.mismatch
unfolding best_from
is_least d t ways placed limits small is found = rw found (go (finds (known d ways) d.places (length t.parents) [] limits.some_place))
  where
    go : Finds (known d ways) d.places (length t.parents) [] → IsLeast d t (least_from (known d ways) d.places (length t.parents) []) (known d ways (least_from (known d ways) d.places (length t.parents) []))
    go all = rw all.is (found_least d t ways all.rest small is all.least)

-- ---- the one that the definition finds

pub least_is_found : LeastIsFound
unfolding least_places
least_is_found d t some = go (finds (worth d t) d.places (length t.parents) [] some)
  where
    go : Finds (worth d t) d.places (length t.parents) [] → IsLeast d t (least_from (worth d t) d.places (length t.parents) []) (worth d t (least_from (worth d t) d.places (length t.parents) []))
    go all = rw all.is (record {
      placing = record { one_each = all.least.count; within = λ z under. All-get_or (λ p. p < d.places) all.rest z 0 under all.least.within };
      own = refl;
      best = λ others placing. all.least.best others placing.one_each (placing_within d t others placing);
      first = λ others placing before. all.least.first others placing.one_each (placing_within d t others placing) before;
    })

pub is_found : (d : DelayTable) (t : TreeShape) (places : List ℕ) (mismatch : ℕ) → 0 < d.places → IsLeast d t places mismatch → places ≡ least_places d t
is_found d t places mismatch some least = (least_is_one d t places (least_places d t) mismatch (worth d t (least_places d t)) least (least_is_found d t some)).0
