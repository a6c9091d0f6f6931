use Rattle.std.proofs.Common.{◌≡◌, ◌++◌, map, take}
use Rattle.std.specs.Fmt.{decimal}
use Rattle.sat_tree.specs.PlanLine.{spaced}
use Rattle.sat_script.proofs.write_lines.add_seats.Given as goal

abbrev pub invariant-loop-site : goal.invariant-loop-site
invariant-loop-site l = l.line.items ≡ l.initial.line.items ++ spaced (map decimal (take l.site l.tree.seats))
