use Rattle.std.proofs.Common.{map}
use Rattle.sat_opened.specs.Opened.{name_in}
use Rattle.sat_parts_wires.proofs.Grown.{gears_grow}
use Rattle.sat_parts_wires.proofs.made.add_gears.Goals as goal

pub loop-gear-preserved : goal.loop-gear-preserved
loop-gear-preserved g c =
    gears_grow (map name_in c.args.gears.now.items) c.args.site c.loop-gear.gear c.loop-gear.gears.items c.push.new.self.items c.in_ok-held.held c.in_ok-push.ensures.items c.loop-gear.invariant c.in_ok-held.ensures.name c.in_ok-held.ensures.fresh
