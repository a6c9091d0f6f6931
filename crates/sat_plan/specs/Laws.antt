-- What the words of the definitions mean.
use Rattle.std.specs.Prelude.{ℕ, ◌≡◌, ◌<◌, ◌≤◌, ◌⊎◌, ◌↔◌, true, List, [], ◌∷◌, length}
use Rattle.sat_label.specs.declared.node.NodeId.{NodeId}
use Rattle.sat_label.specs.declared.node.NodeId.TheVariants.{Site, Serializer}
use Rattle.sat_tree.specs.Shape.{TreeShape}
use Rattle.sat_tree.specs.Cut.{IsTree, is_edge}
use Rattle.sat_tree.specs.Laws.{Path}
use Rattle.sat_delay.specs.Table.{DelayTable, IsWithinLimits}
use Rattle.sat_plan.specs.Sums.{least_of, IsLeastBelow, IsLeast}
use Rattle.sat_plan.specs.Config.{Config, Fits, edge_of, edges}
use Rattle.sat_plan.specs.Mismatch.{on_way, mismatch}
use Rattle.sat_plan.specs.Steps.{best_hung, grown, delay_cost, best_delay, pass, built}

-- the least below a number is the least, and the lowest of those that are
abbrev pub LeastIsLeast : Type 0
LeastIsLeast = (f : ℕ → ℕ) (n : ℕ) → 0 < n → IsLeastBelow f n (least_of f n)

-- a tree is grown until no pair of a serializer and a place is lower, or there are 15 serializers
abbrev pub GrowsToTheEnd : Type 0
GrowsToTheEnd = (d : DelayTable) → (mismatch d (grown d) ≤ mismatch d (best_hung d (grown d)))
    ⊎ (length (grown d).tree.parents ≡ 15)

-- the best delay of an edge is the best of all whole numbers, and the lowest of those that are as good
abbrev pub BestDelayIsBest : Type 0
BestDelayIsBest = (d : DelayTable) (c : Config) (e : ℕ) → IsWithinLimits d → Fits d c → e < length (edges c.tree)
    → IsLeast (delay_cost d c e) (best_delay d c e)

-- a pass over the tree that is built changes nothing
abbrev pub SettlesToTheEnd : Type 0
SettlesToTheEnd = (d : DelayTable) → pass d (built d) ≡ built d

-- a node stands right after another
abbrev pub Follows : NodeId → NodeId → List NodeId → Type 0
Follows u v [] = ⊥
Follows u v (x ∷ []) = ⊥
Follows u v (x ∷ y ∷ nodes) = ((u ≡ x) × (v ≡ y)) ⊎ Follows u v (y ∷ nodes)

-- an edge lies on the way between two sites just where it is a step of the path between them
abbrev pub OnWayIsOnPath : Type 0
OnWayIsOnPath = (t : TreeShape) (i k z : ℕ) (n : NodeId) (nodes : List NodeId) → IsTree t
    → Path t (Site i) (Site k) nodes → is_edge t (Serializer z) n ≡ true → (on_way t (edge_of z n) i k ≡ true)
    ↔ Follows (Serializer z) n nodes
