use Rattle.std.proofs.Common.{◌≡◌, map, take}
use Rattle.std.specs.Fmt.{decimal}
use Rattle.sat_tree.specs.PlanLine.{spaced}
use Rattle.sat_plan.proofs.text.seats_text.Given as goal

abbrev pub invariant-loop-site : goal.invariant-loop-site
invariant-loop-site l = l.text.items ≡ spaced (map decimal (take l.site l.tree.seats))
