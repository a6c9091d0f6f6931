-- What is known of trees that are being built.
use Rattle.std.specs.Prelude.{ℕ, ◌≡◌, ◌<◌, ◌≤◌, ◌+◌, ◌*◌, ◌-◌, ◌&&◌, ◌||◌, ◌==◌, nat_lt, not, true, List, length, Bool}
use Rattle.std.specs.Prelude.{sum_by, slice_index, if◌then◌else◌}
use Rattle.std.specs.List.{slice_index_or}
use Rattle.sat_label.specs.Words.{bit}
use Rattle.sat_label.specs.declared.node.NodeId.{NodeId}
use Rattle.sat_label.specs.declared.node.NodeId.TheVariants.{Site, Serializer}
use Rattle.sat_tree.specs.Shape.{TreeShape}
use Rattle.sat_tree.specs.Cut.{is_edge, IsNode}
use Rattle.sat_delay.specs.Table.{DelayTable, entry}
use Rattle.sat_plan.specs.declared.best.Best.{Best}
use Rattle.sat_plan.specs.declared.draft.Draft.{Draft}
use Rattle.sat_plan.specs.declared.edges.Edge.{Edge}
use Rattle.sat_plan.specs.declared.pairs.Pair.{Pair}
use Rattle.sat_plan.specs.declared.routes.Routes.{Routes}
use Rattle.sat_plan.specs.declared.terms.Term.{Term}
use Rattle.sat_plan.specs.declared.terms.Choice.{Choice}
use Rattle.sat_plan.specs.Sums.{least_of, gap}
use Rattle.sat_plan.specs.Config.{Config, config_of}
use Rattle.sat_plan.specs.Routes.{routed, no_leg}

-- the tree that a draft stands for
abbrev pub draft_config : Draft → Config
draft_config c = config_of c.tree c.places.items c.delays.items

-- a serializer below a number, or any site
abbrev pub EndsBelow : NodeId → ℕ → Type 0
EndsBelow (Site i) n = Unit {0}
EndsBelow (Serializer z) n = z < n

-- the edge's ends are neighbours
pub record IsEdgeOf (t : TreeShape) (e : Edge) : Type 0 where
  pub from : e.from < length t.parents
  pub to : IsNode t e.to
  pub edge : is_edge t (Serializer e.from) e.to ≡ true

-- two sites below a number
pub record IsPairBelow (sites : ℕ) (p : Pair) : Type 0 where
  pub from : p.from < sites
  pub to : p.to < sites

-- the least of the numbers below one, and what it costs
abbrev pub best_below : (ℕ → ℕ) → ℕ → Best
best_below f n = record { number = least_of f n; cost = f (least_of f n) }

-- ---- the mismatch as a function of one edge's delay

-- what a pair of sites adds where the edge has a delay
unfoldable pub term_cost : ℕ → Term → ℕ
term_cost delay t = t.weight * gap (t.rest + (if t.crosses then delay else 0)) t.optimal

-- what all pairs add
unfoldable pub terms_cost : List Term → ℕ → ℕ
unfolding term_cost
terms_cost terms delay = sum_by (term_cost delay) terms

-- the delay at which a pair's latency is the best one, or 0
abbrev pub turn_of : Term → ℕ
turn_of t = if t.crosses then t.optimal - t.rest else 0

-- so small that sums fit
pub record IsSmallTerm (t : Term) : Type 0 where
  pub weight : t.weight ≤ 1000000
  pub rest : t.rest ≤ 100000000
  pub optimal : t.optimal ≤ 100000

-- whether an edge lies on the way of a pair
unfoldable pub crosses : Routes → ℕ → Pair → Bool
crosses r e p = bit (slice_index_or r.legs.items e no_leg).far.bits p.to
    && not (bit (slice_index_or r.legs.items e no_leg).far.bits p.from)

-- a pair of sites, with its latency without the edge's delay
unfoldable pub term_of : DelayTable → Routes → List ℕ → ℕ → Pair → Term
unfolding routed crosses
term_of d r delays e p = record {
  weight = entry d.weight p.from p.to;
  rest = routed r delays p.from p.to - (if crosses r e p then slice_index delays e else 0);
  optimal = entry d.optimal p.from p.to;
  crosses = crosses r e p;
}

-- the cheaper of two, and among equals the one of lower delay, or else the first
abbrev pub better : Choice → Choice → Choice
better a b = if nat_lt b.cost a.cost || ((b.cost == a.cost) && nat_lt b.delay a.delay) then b else a
