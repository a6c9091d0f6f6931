-- What is kept of each pair of sites, so that placing one more serializer decides what it adds.
use Rattle.std.specs.Prelude.{ℕ, zero, suc, ◌<◌, ◌≤◌, ◌+◌, ◌*◌, ◌==◌, max, nat_lt, List, [], ◌∷◌, ◌++◌, length}
use Rattle.std.specs.Prelude.{slice_index, sum_by, All, if◌then◌else◌}
use Rattle.std.specs.List.{slice_index_or}
use Rattle.sat_label.specs.declared.node.NodeId.{NodeId}
use Rattle.sat_label.specs.declared.node.NodeId.TheVariants.{Site, Serializer}
use Rattle.sat_tree.specs.Shape.{TreeShape}
use Rattle.sat_tree.specs.Cut.{seat_of}
use Rattle.sat_delay.specs.Table.{DelayTable, IsWithinLimits, entry}
use Rattle.sat_plan.specs.declared.edges.Edge.{Edge}
use Rattle.sat_plan.specs.declared.limits.TheConstants.{MOST_EDGES, MOST_PAIRS}
use Rattle.sat_plan.specs.declared.pairs.Pair.{Pair}
use Rattle.sat_plan.specs.Sums.{gap}
use Rattle.sat_plan.specs.Config.{edges, edge_at}
use Rattle.sat_plan.specs.Mismatch.{on_way}
use Rattle.sat_place.specs.declared.ways.Hop.{Hop}
use Rattle.sat_place.specs.declared.ways.Way.{Way}

-- ---- the ways

-- an edge between serializers is a hop, and one to a site is none
abbrev pub hop_to : ℕ → NodeId → List Hop
hop_to z (Site i) = []
hop_to z (Serializer y) = record { from = z; to = y } ∷ []

-- the hop over an edge, if it lies on the way from site i to site k
unfoldable pub hop_over : TreeShape → Edge → ℕ → ℕ → List Hop
unfolding on_way
hop_over t e i k = if on_way t e i k then hop_to e.from e.to else []

-- the hops over the first so many edges
unfoldable pub hops_below : TreeShape → ℕ → ℕ → ℕ → List Hop
unfolding hop_over edge_at
hops_below t i k zero = []
hops_below t i k (suc e) = hops_below t i k e ++ hop_over t (edge_at t e) i k

-- the hops on the way from site i to site k
unfoldable pub hops_of : TreeShape → ℕ → ℕ → List Hop
unfolding hops_below edges
hops_of t i k = hops_below t i k (length (edges t))

-- a hop that leads nowhere
abbrev pub no_hop : Hop
no_hop = record { from = 0; to = 0 }

-- the highest serializer of two and of the first so many hops
unfoldable pub highest : ℕ → ℕ → List Hop → ℕ → ℕ
highest near far hops zero = max near far
highest near far hops (suc n) =
    max (highest near far hops n) (max (slice_index_or hops n no_hop).from (slice_index_or hops n no_hop).to)

-- what is kept of a pair of sites
unfoldable pub way_of : DelayTable → TreeShape → Pair → Way
unfolding hops_of highest seat_of
way_of d t p = record {
  from = p.from;
  to = p.to;
  near = seat_of t p.from;
  far = seat_of t p.to;
  hops = hops_of t p.from p.to;
  last = highest (seat_of t p.from) (seat_of t p.to) (hops_of t p.from p.to) (length (hops_of t p.from p.to));
  weight = entry d.weight p.from p.to;
  optimal = entry d.optimal p.from p.to;
}

-- ---- what they add

-- milliseconds over a hop
abbrev pub hop_span : DelayTable → List ℕ → Hop → ℕ
hop_span d places h = entry d.between (slice_index places h.from) (slice_index places h.to)

-- milliseconds over all its hops
unfoldable pub hops_span : DelayTable → List ℕ → List Hop → ℕ
hops_span d places hops = sum_by (hop_span d places) hops

-- milliseconds that metadata takes on the way
unfoldable pub way_latency : DelayTable → List ℕ → Way → ℕ
unfolding hops_span
way_latency d places w =
    entry d.reach w.from (slice_index places w.near) + hops_span d places w.hops
    + entry d.reach w.to (slice_index places w.far)

-- what the pair adds to the mismatch
unfoldable pub way_cost : DelayTable → List ℕ → Way → ℕ
unfolding way_latency
way_cost d places w = w.weight * gap (way_latency d places w) w.optimal

-- what the pair adds where the places of all its serializers are known, else nothing
unfoldable pub known_cost : DelayTable → List ℕ → Way → ℕ
unfolding way_cost
known_cost d places w = if nat_lt w.last (length places) then way_cost d places w else 0

-- what all pairs add of which the places are known
unfoldable pub known : DelayTable → List Way → List ℕ → ℕ
unfolding known_cost
known d ways places = sum_by (known_cost d places) ways

-- what the pair adds where the last of these places was the last one wanting, else nothing
unfoldable pub added_cost : DelayTable → List ℕ → Way → ℕ
unfolding way_cost
added_cost d places w = if suc w.last == length places then way_cost d places w else 0

-- what the last of these places adds
unfoldable pub added : DelayTable → List Way → List ℕ → ℕ
unfolding added_cost
added d ways places = sum_by (added_cost d places) ways

-- ---- what they are

-- both ends are at most this
pub record IsHopWithin (last : ℕ) (h : Hop) : Type 0 where
  pub from : h.from ≤ last
  pub to : h.to ≤ last

-- sites of the table, serializers of which none is above the last, and numbers so small that sums fit
pub record IsWay (d : DelayTable) (w : Way) : Type 0 where
  pub from : w.from < d.sites
  pub to : w.to < d.sites
  pub near : w.near ≤ w.last
  pub far : w.far ≤ w.last
  pub hops : All (IsHopWithin w.last) w.hops
  pub few : length w.hops ≤ MOST_EDGES
  pub weight : w.weight ≤ 1000000
  pub optimal : w.optimal ≤ 100000

-- so few of them that sums fit
pub record AreWays (d : DelayTable) (ways : List Way) : Type 0 where
  pub limits : IsWithinLimits d
  pub sound : All (IsWay d) ways
  pub few : length ways ≤ MOST_PAIRS
