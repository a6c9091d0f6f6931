use Rattle.std.proofs.Common.{rules, ◌≡◌, ◌≤◌, ◌+◌, ◌++◌, ◌∙◌, length, map, arith}
use Rattle.sat_label.specs.declared.node.NodeName.TheVariants.{Gear as AtGear}
use Rattle.sat_node.specs.Together.{lent}
use Rattle.sat_opened.specs.Opened.{name_in}
use Rattle.sat_parts_pump.specs.Lent.{lends}
use Rattle.sat_cluster.specs.Locking.{one_if}
use Rattle.sat_cluster.proofs.Locking.{first_more}
use Rattle.sat_cluster.proofs.cluster.Cluster.add_lent.Goals as goal

pub loop-gear-preserved : goal.loop-gear-preserved
loop-gear-preserved g c =
    let added : map name_in (lent c.add_if.new.gears.items) ≡ map name_in (lent c.loop-gear.gears.items) ++ map (AtGear c.args.site) (one_if c.lends-wanted.result c.loop-gear.gear) = search rules in
    let more : length c.add_if.new.gears.items ≤ length c.loop-gear.gears.items + 1 = c.add_if.ensures.many in
    let was : length c.loop-gear.gears.items ≤ c.loop-gear.gear = c.loop-gear.invariant.1 in
    let many : length c.add_if.new.gears.items ≤ c.loop-gear.gear + 1 = omega arith in (
      first_more (lends c.args.hub.now.node.machine.shape c.args.lent.now) c.lends-wanted.result c.args.site c.loop-gear.gear _ _ c.lends-wanted.ensures added c.loop-gear.invariant.0,
      many,
      c.add_if.ensures.room ∙ c.loop-gear.invariant.2,
    )
