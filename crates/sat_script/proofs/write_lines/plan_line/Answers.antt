use Rattle.std.proofs.Common.{rules, sym, ◌∙◌, ◌++◌, ◌≡◌, ◌∷◌, map}
use Rattle.std.specs.Fmt.{decimal}
use Rattle.std.specs.Prelude.{codes}
use Rattle.sat_tree.specs.PlanLine.{spaced, parent_text}
use Rattle.sat_script.proofs.Written.{tree_line}
use Rattle.sat_script.proofs.write_lines.plan_line.Goals as goal

pub returns-in_ok-add_seats-in-Tree : goal.returns-in_ok-add_seats-in-Tree
returns-in_ok-add_seats-in-Tree c =
    let whole : c.add_seats.new.line.items ≡ ((codes "plan tree" ++ spaced (map parent_text c.in-Tree.tree.parents)) ++ 32 ∷ codes "/") ++ spaced (map decimal c.in-Tree.tree.seats) = search rules in
    rw c.in-Tree.is (whole ∙ sym (tree_line (map parent_text c.in-Tree.tree.parents) (map decimal c.in-Tree.tree.seats)))
