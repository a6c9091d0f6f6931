use Rattle.sat_parts_notes.proofs.Loops.{gears-more}
use Rattle.sat_parts_notes.proofs.names.gear_names.Goals as goal

pub loop-site-preserved : goal.loop-site-preserved
loop-site-preserved c = gears-more c.gears-gears.result c.loop-site.site c.loop-site.names.items c.add_site.new.names.items c.loop-site.invariant c.in_ok-add_site.ensures
