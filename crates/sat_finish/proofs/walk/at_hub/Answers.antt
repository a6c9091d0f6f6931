use Rattle.std.proofs.Common.{◌*◌, ◌+◌, sym}
use Rattle.sat_label.specs.declared.node.NodeName.TheVariants as named
use Rattle.sat_opened.specs.Opened.{entries_at}
use Rattle.sat_finish.proofs.Marked.{hub_marks_as}
use Rattle.sat_finish.proofs.Walks.{hub_walked}
use Rattle.sat_finish.proofs.walk.at_hub.Goals as goal

pub of_hub-requires : goal.of_hub-requires
of_hub-requires g c =
    hub_marks_as c.in_ok-hub.hub.now.node.entries (entries_at (named.Site c.args.site) c.args.hubs.now) c.as_slice.result.now c.args.marks.now.hub.items
    (sym (c.requires.names.hub c.args.site c.args.site c.in_ok-hub.hub.now c.in_ok-hub.ensures.there c.in_ok-hub.ensures.name))
    c.as_slice.ensures.value c.requires.marks.at_hub

pub returns : goal.returns
returns g c =
    hub_walked c.args.d.now c.args.hubs.now c.args.gears.now c.requires.names c.args.site c.args.gear c.args.site (c.args.site * c.gears.result + c.args.gear) c.in_ok-hub.hub.now c.in_ok-own.own.now c.of_hub.result
    c.in_ok-hub.ensures.there c.in_ok-hub.ensures.name c.in_ok-own.ensures.there c.in_ok-own.ensures.name c.of_hub.ensures
