-- How far a tree's latencies lie from the best ones.
use Rattle.std.specs.Prelude.{ℕ, zero, suc, ◌+◌, ◌*◌, ◌==◌, ◌&&◌, not, Bool, List, [], ◌++◌, length, map, filter}
use Rattle.std.specs.Prelude.{slice_index, sum_by, if◌then◌else◌}
use Rattle.sat_label.specs.declared.node.NodeId.{NodeId}
use Rattle.sat_label.specs.declared.node.NodeId.TheVariants.{Site, Serializer}
use Rattle.sat_label.specs.Words.{below}
use Rattle.sat_tree.specs.Shape.{TreeShape}
use Rattle.sat_tree.specs.Cut.{beyond, seat_of}
use Rattle.sat_delay.specs.Table.{DelayTable, entry}
use Rattle.sat_plan.specs.declared.edges.Edge.{Edge}
use Rattle.sat_plan.specs.declared.pairs.Pair.{Pair}
use Rattle.sat_plan.specs.Sums.{sum_to, gap}
use Rattle.sat_plan.specs.Config.{Config, edges, edge_at}

-- A directed edge lies on the path from site i to site k where, with the edge cut, i stands on its near side and k on
-- its far side.
unfoldable pub on_way : TreeShape → Edge → ℕ → ℕ → Bool
on_way t e i k = beyond t (Serializer e.from) e.to (Site k) && not (beyond t (Serializer e.from) e.to (Site i))

-- milliseconds between the places of an edge's ends; a site's own are part of its reach
abbrev pub span_to : DelayTable → List ℕ → ℕ → NodeId → ℕ
span_to d places z (Site i) = 0
span_to d places z (Serializer y) = entry d.between (slice_index places z) (slice_index places y)

-- the milliseconds from the place of an edge's serializer to that of its other end; none to a site
abbrev pub span : DelayTable → List ℕ → Edge → ℕ
span d places e = span_to d places e.from e.to

-- what the edge with a number adds on the way from i to k
unfoldable pub leg : DelayTable → Config → ℕ → ℕ → ℕ → ℕ
unfolding on_way edge_at
leg d c i k e =
    if on_way c.tree (edge_at c.tree e) i k then span d c.places (edge_at c.tree e) + slice_index c.delays e else 0

-- milliseconds between a site and the place of its serializer
unfoldable pub access : DelayTable → Config → ℕ → ℕ
unfolding seat_of
access d c i = entry d.reach i (slice_index c.places (seat_of c.tree i))

-- Milliseconds that metadata takes from site i to site k: to the place of i's serializer, over the edges on the path
-- with their delays, and from the place of k's serializer.
unfoldable pub latency : DelayTable → Config → ℕ → ℕ → ℕ
unfolding access sum_to leg edges
latency d c i k = access d c i + sum_to (leg d c i k) (length (edges c.tree)) + access d c k

-- the pair from one site to another
abbrev pub pair_of : ℕ → ℕ → Pair
pair_of from to = record { from = from; to = to }

-- two sites differ
abbrev pub is_other : ℕ → ℕ → Bool
is_other i k = not (k == i)

-- the ordered pairs of different sites, the first below i
unfoldable pub pairs_below : ℕ → ℕ → List Pair
pairs_below sites zero = []
pairs_below sites (suc i) = pairs_below sites i ++ map (pair_of i) (filter (is_other i) (below sites))

-- all ordered pairs of different sites
unfoldable pub pairs : ℕ → List Pair
unfolding pairs_below
pairs sites = pairs_below sites sites

-- what a pair of sites adds
unfoldable pub pair_cost : DelayTable → Config → Pair → ℕ
unfolding latency
pair_cost d c p = entry d.weight p.from p.to * gap (latency d c p.from p.to) (entry d.optimal p.from p.to)

-- the sum over all pairs
unfoldable pub mismatch : DelayTable → Config → ℕ
unfolding pair_cost pairs
mismatch d c = sum_by (pair_cost d c) (pairs d.sites)
