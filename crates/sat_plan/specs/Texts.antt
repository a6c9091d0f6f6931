-- What is printed of a tree that was built.
use Rattle.std.specs.Prelude.{ℕ, zero, suc, nat_lt, List, [], ◌∷◌, ◌++◌, length, slice_index, Result, Ok, Err}
use Rattle.std.specs.Prelude.{if◌then◌else◌, codes}
use Rattle.std.specs.Fmt.{decimal}
use Rattle.sat_label.specs.Text.{node_text}
use Rattle.sat_tree.specs.Shape.{TreeShape}
use Rattle.sat_tree.specs.PlanLine.{tree_line}
use Rattle.sat_delay.specs.declared.fault.DelayFault.{DelayFault}
use Rattle.sat_delay.specs.Table.{DelayTable}
use Rattle.sat_delay.specs.Reading.{reading}
use Rattle.sat_delay.specs.Texts.{fault_text}
use Rattle.sat_plan.specs.declared.edges.Edge.{Edge}
use Rattle.sat_plan.specs.Config.{Config, edges, edge_at}
use Rattle.sat_plan.specs.Mismatch.{mismatch}
use Rattle.sat_plan.specs.Steps.{built}

-- `place zK P`
unfoldable pub place_line : List ℕ → ℕ → List ℕ
place_line places z = codes "place z" ++ (decimal z ++ 32 ∷ (decimal (slice_index places z) ++ 10 ∷ []))

-- the lines of so many serializers
unfoldable pub place_lines : List ℕ → ℕ → List ℕ
unfolding place_line
place_lines places zero = []
place_lines places (suc z) = place_lines places z ++ place_line places z

-- `delay zK NODE D`, for a delay above 0
abbrev pub edge_line : Edge → ℕ → List ℕ
edge_line e delay = codes "delay z" ++ (decimal e.from ++ 32 ∷ (node_text e.to ++ 32 ∷ (decimal delay ++ 10 ∷ [])))

-- the line of an edge, or nothing where it has no delay
unfoldable pub delay_line : TreeShape → List ℕ → ℕ → List ℕ
unfolding edge_at
delay_line t delays e = if nat_lt 0 (slice_index delays e) then edge_line (edge_at t e) (slice_index delays e) else []

-- the lines of so many edges
unfoldable pub delay_lines : TreeShape → List ℕ → ℕ → List ℕ
unfolding delay_line
delay_lines t delays zero = []
delay_lines t delays (suc e) = delay_lines t delays e ++ delay_line t delays e

-- `mismatch M`
unfoldable pub mismatch_line : ℕ → List ℕ
mismatch_line cost = codes "mismatch " ++ (decimal cost ++ 10 ∷ [])

-- the plan of the tree, its places, its delays and its mismatch
unfoldable pub config_text : Config → ℕ → List ℕ
unfolding tree_line place_lines delay_lines mismatch_line edges
config_text c cost =
    tree_line c.tree ++ (place_lines c.places (length c.tree.parents)
    ++ (delay_lines c.tree c.delays (length (edges c.tree)) ++ mismatch_line cost))

-- ---- what comes of a text

-- the text of the tree that is built from a table, or the line of its fault
abbrev pub result_text : Result DelayTable DelayFault → List ℕ
result_text (Ok d) = config_text (built d) (mismatch d (built d))
result_text (Err fault) = fault_text fault

-- the tree that is built from a text of delays, or the line of its fault
unfoldable pub plan_text : List ℕ → List ℕ
plan_text bytes = result_text (reading bytes)
