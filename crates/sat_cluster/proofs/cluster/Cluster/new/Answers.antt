use Rattle.std.proofs.Common.{rules, ◌≡◌, ◌+◌, false, length, map, replicate}
use Rattle.sat_label.specs.declared.node.NodeName.TheVariants.{Site as AtSite}
use Rattle.sat_label.specs.Words.{below}
use Rattle.sat_opened.specs.Opened.{name_in, serial_names}
use Rattle.sat_parts.specs.Layout.{gear_names}
use Rattle.sat_cluster.proofs.Marks.{is_cluster}
use Rattle.sat_cluster.proofs.cluster.Cluster.new.Goals as goal

pub invariant_of-result : goal.invariant_of-result
invariant_of-result g c =
    let hubs = c.in_ok-hubs.field-0.hubs.items in
    let gears = c.in_ok-hubs.field-0.gears.items in
    let serials = c.in_ok-hubs.field-0.serials.items in
    let a : map name_in hubs ≡ map AtSite (below c.args.d.sites) = search rules in
    let b : map name_in gears ≡ gear_names c.args.d = search rules in
    let s : map name_in serials ≡ serial_names c.args.d = search rules in
    let w : c.in_ok-names.names.items ≡ map name_in serials = search rules in
    let k : c.in_ok-given.given.items ≡ replicate (length c.args.d.clients + 1) false = search rules in
    is_cluster g.N.Laid.deployment c.args.d hubs gears serials c.in_ok-hubs-2.hubs c.in_ok-gears.gears c.in_ok-serials.serials c.in_ok-names.names.items c.in_ok-given.given.items c.requires.deployment a b s c.in_ok-hubs-2.ensures c.in_ok-gears.ensures c.in_ok-serials.ensures w k
