use Rattle.sat_world.proofs.Lefts.{as-many, shapes-are, counts-both}
use Rattle.sat_world.proofs.world.World.underway.Goals as goal

pub in_lanes-requires-clause-count : goal.in_lanes-requires-clause-count
in_lanes-requires-clause-count c = as-many _ _ _ c.self.invariant c.sites-sites.ensures.sites c.deref.ensures.value

pub in_lanes-requires-clause-shapes : goal.in_lanes-requires-clause-shapes
in_lanes-requires-clause-shapes c = shapes-are _ _ _ _ c.self.invariant c.sites-sites.ensures.sites c.gears-gears.ensures.gears c.deref.ensures.value

pub returns : goal.returns
returns c =
    counts-both _ _ _ _ _ _ _ _ _ c.self.view_is c.self.invariant c.sites-sites.ensures.sites c.gears-gears.ensures.gears c.deref.ensures.value c.deref-2.ensures.value
    c.in_lanes.ensures c.on_links.ensures c.saturating_add.ensures
