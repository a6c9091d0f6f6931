use Rattle.std.proofs.Common.{rules, ◌≡◌, ◌≤◌, ◌+◌, ◌++◌, ◌∙◌, length, map, arith}
use Rattle.sat_label.specs.declared.node.NodeName.TheVariants.{Gear as AtGear}
use Rattle.sat_node.specs.Together.{lent}
use Rattle.sat_opened.specs.Opened.{name_in}
use Rattle.sat_cluster.specs.Locking.{has_item, one_if}
use Rattle.sat_cluster.proofs.Locking.{range_more}
use Rattle.sat_cluster.proofs.cluster.Cluster.add_some.Goals as goal

pub loop-gear-preserved : goal.loop-gear-preserved
loop-gear-preserved g c =
    let le : c.args.from ≤ c.loop-gear.gear = c.loop-gear.invariant.0 in
    let above : c.args.from ≤ c.loop-gear.gear + 1 = omega arith in
    let added : map name_in (lent c.add_if.new.gears.items) ≡ map name_in (lent c.loop-gear.gears.items) ++ map (AtGear c.args.site) (one_if c.has_one-wanted.result c.loop-gear.gear) = search rules in
    let more : length c.add_if.new.gears.items ≤ length c.loop-gear.gears.items + 1 = c.add_if.ensures.many in
    let was : length c.loop-gear.gears.items + c.args.from ≤ length c.args.gears.now.items + c.loop-gear.gear = c.loop-gear.invariant.2 in
    let many : length c.add_if.new.gears.items + c.args.from ≤ length c.args.gears.now.items + (c.loop-gear.gear + 1) = omega arith in (
      above,
      range_more (has_item g.N.Laid.deployment c.args.items.now) c.has_one-wanted.result c.args.site c.args.from c.loop-gear.gear _ _ _ le c.has_one-wanted.ensures added c.loop-gear.invariant.1,
      many,
      c.add_if.ensures.room ∙ c.loop-gear.invariant.3,
    )
