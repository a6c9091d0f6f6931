-- What is kept of a tree at its places, so that latencies need no walk.
use Rattle.std.specs.Prelude.{ℕ, ◌≡◌, ◌<◌, ◌≤◌, ◌+◌, ◌*◌, ◌&&◌, not, nat_lt, List, length, map, slice_index}
use Rattle.std.specs.Prelude.{if◌then◌else◌}
use Rattle.std.specs.List.{slice_index_or}
use Rattle.sat_label.specs.Words.{bit, below}
use Rattle.sat_label.specs.declared.node.NodeId.TheVariants.{Site, Serializer}
use Rattle.sat_tree.specs.Shape.{TreeShape}
use Rattle.sat_tree.specs.Cut.{beyond, seat_of}
use Rattle.sat_delay.specs.Table.{DelayTable, entry}
use Rattle.sat_plan.specs.declared.edges.Edge.{Edge}
use Rattle.sat_plan.specs.declared.limits.TheConstants.{MOST_EDGES}
use Rattle.sat_plan.specs.declared.pairs.Pair.{Pair}
use Rattle.sat_plan.specs.declared.routes.Leg.{Leg}
use Rattle.sat_plan.specs.declared.routes.Routes.{Routes}
use Rattle.sat_plan.specs.Sums.{sum_to, gap}
use Rattle.sat_plan.specs.Config.{edges, edge_at}
use Rattle.sat_plan.specs.Mismatch.{span}

-- a leg that leads nowhere
abbrev pub no_leg : Leg
no_leg = record { far = record { bits = 0 }; span = 0 }

-- what an edge with a delay adds on the way from i to k
abbrev pub leg_way : Leg → ℕ → ℕ → ℕ → ℕ
leg_way l delay i k = if bit l.far.bits k && not (bit l.far.bits i) then l.span + delay else 0

-- what a leg adds on the way from i to k
unfoldable pub routed_leg : List Leg → List ℕ → ℕ → ℕ → ℕ → ℕ
routed_leg legs delays i k e = leg_way (slice_index_or legs e no_leg) (slice_index delays e) i k

-- the latency from i to k
unfoldable pub routed : Routes → List ℕ → ℕ → ℕ → ℕ
unfolding sum_to routed_leg
routed r delays i k =
    slice_index r.access.items i + sum_to (routed_leg r.legs.items delays i k) (length r.legs.items)
    + slice_index r.access.items k

-- what a pair adds to the mismatch
unfoldable pub routed_cost : DelayTable → Routes → List ℕ → Pair → ℕ
unfolding routed
routed_cost d r delays p = entry d.weight p.from p.to * gap (routed r delays p.from p.to) (entry d.optimal p.from p.to)

-- a leg stands for an edge of a tree at its places
pub record IsLeg (d : DelayTable) (t : TreeShape) (places : List ℕ) (e : Edge) (l : Leg) : Type 0 where
  pub spans : l.span ≡ span d places e
  pub far : (k : ℕ) → bit l.far.bits k ≡ (nat_lt k (length t.seats) && beyond t (Serializer e.from) e.to (Site k))

-- legs stand for a tree's first edges, as many as they are
pub record AreLegs (d : DelayTable) (t : TreeShape) (places : List ℕ) (n : ℕ) (legs : List Leg) : Type 0 where
  pub many : length legs ≡ n
  pub stand : (e : ℕ) → e < n → IsLeg d t places (edge_at t e) (slice_index_or legs e no_leg)
  pub short : (e : ℕ) → (slice_index_or legs e no_leg).span ≤ 100000

-- milliseconds between a site and the place of its serializer
unfoldable pub site_access : DelayTable → TreeShape → List ℕ → ℕ → ℕ
unfolding seat_of
site_access d t places i = entry d.reach i (slice_index places (seat_of t i))

-- the routes stand for a tree at its places
pub record IsRoutes (d : DelayTable) (t : TreeShape) (places : List ℕ) (r : Routes) : Type 0 where
  pub access : r.access.items ≡ map (site_access d t places) (below (length t.seats))
  pub legs : AreLegs d t places (length (edges t)) r.legs.items

-- so few and so short that sums over them fit
pub record AreShort (r : Routes) : Type 0 where
  pub access : (i : ℕ) → slice_index r.access.items i ≤ 100000
  pub spans : (e : ℕ) → (slice_index_or r.legs.items e no_leg).span ≤ 100000
  pub few : length r.legs.items ≤ MOST_EDGES
