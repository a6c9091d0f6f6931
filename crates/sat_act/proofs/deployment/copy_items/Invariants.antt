use Rattle.std.proofs.Common.{◌≡◌, take}
use Rattle.sat_act.proofs.deployment.copy_items.Given as goal

abbrev pub invariant-loop-item : goal.invariant-loop-item
invariant-loop-item l = l.copy.items ≡ take l.item-index l.items
