-- A tree with a place for each serializer, and a delay for each directed edge that leaves a serializer.
use Rattle.std.specs.Prelude.{ℕ, zero, suc, ◌≡◌, ◌<◌, ◌≤◌, List, [], ◌++◌, length, map, slice_index, slice_set}
use Rattle.std.specs.List.{slice_index_or}
use Rattle.sat_label.specs.declared.node.NodeId.{NodeId}
use Rattle.sat_label.specs.declared.node.NodeId.TheVariants.{Site}
use Rattle.sat_tree.specs.Shape.{TreeShape}
use Rattle.sat_tree.specs.Cut.{neighbours}
use Rattle.sat_delay.specs.Table.{DelayTable}
use Rattle.sat_plan.specs.declared.edges.Edge.{Edge}

-- a tree with a place for each serializer and a delay for each edge
pub record Config : Type 0 where
  pub tree : TreeShape
  pub places : List ℕ
  pub delays : List ℕ

-- the same of its parts
abbrev pub config_of : TreeShape → List ℕ → List ℕ → Config
config_of tree places delays = record { tree = tree; places = places; delays = delays }

-- a directed edge that leaves a serializer
abbrev pub edge_of : ℕ → NodeId → Edge
edge_of from to = record { from = from; to = to }

-- those that leave the serializers below z, by serializer, then in the order of neighbours
unfoldable pub edges_below : TreeShape → ℕ → List Edge
edges_below t zero = []
edges_below t (suc z) = edges_below t z ++ map (edge_of z) (neighbours t z)

-- all edges, by the serializer that they leave, then in the order of its neighbours
unfoldable pub edges : TreeShape → List Edge
unfolding edges_below
edges t = edges_below t (length t.parents)

-- the edge of a number
unfoldable pub edge_at : TreeShape → ℕ → Edge
unfolding edges
edge_at t e = slice_index_or (edges t) e (edge_of 0 (Site 0))

-- the same with another delay of one edge
abbrev pub delayed : Config → ℕ → ℕ → Config
delayed c e delay = record c { delays = slice_set c.delays e delay }

-- one seat for each site, one place for each serializer, and one delay of at most 100,000 milliseconds for each edge
pub record Fits (d : DelayTable) (c : Config) : Type 0 where
  pub seats : length c.tree.seats ≡ d.sites
  pub one_each : length c.places ≡ length c.tree.parents
  pub placed : (z : ℕ) → z < length c.places → slice_index c.places z < d.places
  pub edges : length c.delays ≡ length (edges c.tree)
  pub prompt : (e : ℕ) → slice_index c.delays e ≤ 100000
