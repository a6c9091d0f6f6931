use Rattle.std.proofs.Common.{max, ◌∙◌, ap}
use Rattle.sat_place.proofs.Waymarks.{highest_more}
use Rattle.sat_place.proofs.ways.highest.Goals as goal

pub loop-hop-preserved : goal.loop-hop-preserved
loop-hop-preserved c = highest_more _ _ _ _ _ _ c.loop-hop.invariant (c.max-last-in-loop-hop.ensures ∙ ap (max c.loop-hop.last) c.max.ensures)
