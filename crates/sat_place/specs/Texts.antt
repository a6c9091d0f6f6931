-- What is printed of a placement.
use Rattle.std.specs.Prelude.{ℕ, List, ◌++◌, length, Result, Ok, Err, codes}
use Rattle.sat_tree.specs.Shape.{TreeShape}
use Rattle.sat_tree.specs.PlanLine.{tree_line}
use Rattle.sat_delay.specs.Table.{DelayTable}
use Rattle.sat_delay.specs.declared.fault.DelayFault.{DelayFault}
use Rattle.sat_delay.specs.Texts.{fault_line}
use Rattle.sat_place.specs.Placing.{worth}
use Rattle.sat_place.specs.Search.{least_places}
use Rattle.sat_place.specs.Shape.{Shape, shape_reading}
use Rattle.sat_plan.specs.Texts.{place_lines, mismatch_line}

-- the plan of a tree, its places and its mismatch
unfoldable pub placed_text : TreeShape → List ℕ → ℕ → List ℕ
unfolding tree_line place_lines mismatch_line
placed_text t places mismatch = tree_line t ++ (place_lines places (length t.parents) ++ mismatch_line mismatch)

-- the text of the least placement
unfoldable pub least_text : DelayTable → TreeShape → List ℕ
unfolding placed_text least_places worth
least_text d t = placed_text t (least_places d t) (worth d t (least_places d t))

-- `place: CAUSE`
unfoldable pub shape_fault_text : DelayFault → List ℕ
unfolding fault_line
shape_fault_text fault = fault_line (codes "place") fault

-- ---- what comes of a text

-- the text of the least placement, or the line of a fault
abbrev pub result_text : Result Shape DelayFault → List ℕ
result_text (Ok s) = least_text s.table s.tree
result_text (Err fault) = shape_fault_text fault

-- the least placement of the tree that stands in a text beside its table, or the line of the text's fault
unfoldable pub place_text : List ℕ → List ℕ
unfolding shape_reading least_text shape_fault_text
place_text bytes = result_text (shape_reading bytes)
