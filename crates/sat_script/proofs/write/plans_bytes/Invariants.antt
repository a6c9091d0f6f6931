use Rattle.std.proofs.Common.{◌≡◌, ◌++◌, drop}
use Rattle.sat_script.specs.Spelled.{plans_text}
use Rattle.sat_script.proofs.write.plans_bytes.Given as goal

abbrev pub invariant-loop-plan : goal.invariant-loop-plan
invariant-loop-plan l = l.text.items ++ plans_text (drop l.plan-index l.plans) ≡ plans_text l.plans
