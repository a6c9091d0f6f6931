use Rattle.sat_parts_wires.proofs.Grown.{gears_more}
use Rattle.sat_parts_wires.proofs.made.make_gears.Goals as goal

pub loop-site-preserved : goal.loop-site-preserved
loop-site-preserved g c =
    gears_more c.args.d.now.gears c.loop-site.site c.loop-site.gears.items c.add_gears.new.gears.items c.loop-site.invariant c.in_ok-add_gears.ensures.names c.in_ok-add_gears.ensures.fresh
