use Rattle.std.proofs.Common.{◌≡◌, ◌+◌, ◌-◌, ◌≤◌, ◌++◌, length, map, vec_capacity}
use Rattle.sat_label.specs.declared.node.NodeName.TheVariants.{Gear as AtGear}
use Rattle.sat_node.specs.Together.{lent}
use Rattle.sat_opened.specs.Opened.{name_in}
use Rattle.sat_parts_pump.specs.Lent.{gears_from}
use Rattle.sat_cluster.specs.Locking.{has_item}
use Rattle.sat_cluster.proofs.cluster.Cluster.add_some.Given as goal

abbrev pub invariant-loop-gear : goal.invariant-loop-gear
invariant-loop-gear g l =
    (l.from ≤ l.gear)
    × (map name_in (lent l.gears.items) ≡ map name_in (lent l.initial.gears.items) ++ map (AtGear l.site) (gears_from (has_item g.N.Laid.deployment l.items) l.from (l.gear - l.from)))
    × (length l.gears.items + l.from ≤ length l.initial.gears.items + l.gear)
    × (vec_capacity l.gears ≡ vec_capacity l.initial.gears)
