use Rattle.std.proofs.Common.{◌≡◌}
use Rattle.sat_plan.specs.Texts.{delay_lines}
use Rattle.sat_plan.proofs.text.delay_lines.Given as goal

abbrev pub invariant-loop-e : goal.invariant-loop-e
invariant-loop-e l = l.text.items ≡ delay_lines l.tree l.delays l.e
