use Rattle.std.proofs.Common.{◌≡◌}
use Rattle.sat_plan.specs.Texts.{place_lines}
use Rattle.sat_plan.proofs.text.place_lines.Given as goal

abbrev pub invariant-loop-z : goal.invariant-loop-z
invariant-loop-z l = l.text.items ≡ place_lines l.places l.z
