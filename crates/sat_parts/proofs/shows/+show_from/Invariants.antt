use Rattle.std.proofs.Common.{length}
use Rattle.sat_parts.proofs.shows.+show_from.Given as goal

abbrev pub decreases-show_from : goal.decreases-show_from
decreases-show_from l = length l.items.now
