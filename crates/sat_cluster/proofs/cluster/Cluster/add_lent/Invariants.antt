use Rattle.std.proofs.Common.{◌≡◌, ◌≤◌, length, map, vec_capacity}
use Rattle.sat_label.specs.declared.node.NodeName.TheVariants.{Gear as AtGear}
use Rattle.sat_node.specs.Together.{lent}
use Rattle.sat_opened.specs.Opened.{name_in}
use Rattle.sat_parts_pump.specs.Lent.{gears_from, lends}
use Rattle.sat_cluster.proofs.cluster.Cluster.add_lent.Given as goal

abbrev pub invariant-loop-gear : goal.invariant-loop-gear
invariant-loop-gear g l =
    (map name_in (lent l.gears.items) ≡ map (AtGear l.site) (gears_from (lends l.hub.node.machine.shape l.lent) 0 l.gear))
    × (length l.gears.items ≤ l.gear)
    × (vec_capacity l.gears ≡ vec_capacity l.initial.gears)
