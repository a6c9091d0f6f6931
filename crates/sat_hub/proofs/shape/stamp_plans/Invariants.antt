use Rattle.std.proofs.Common.{◌≡◌, map, take}
use Rattle.sat_hub.specs.Changes.{is_stamp_plan}
use Rattle.sat_hub.proofs.shape.stamp_plans.Given as goal

abbrev pub invariant-loop-plan : goal.invariant-loop-plan
invariant-loop-plan l = l.stamp.items ≡ map is_stamp_plan (take l.plan-index l.plans)
