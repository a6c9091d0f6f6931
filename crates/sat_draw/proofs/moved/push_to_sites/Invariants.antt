use Rattle.std.proofs.Common.{◌≡◌, ◌++◌, take}
use Rattle.std.specs.List.{flat_map}
use Rattle.sat_draw.specs.Moved.{site_hauls}
use Rattle.sat_draw.proofs.moved.push_to_sites.Given as goal

abbrev pub invariant-loop-node : goal.invariant-loop-node
invariant-loop-node l = l.out.items ≡ l.fn.out.items ++ flat_map (site_hauls l.epoch l.z l.label) (take l.node-index l.to)
