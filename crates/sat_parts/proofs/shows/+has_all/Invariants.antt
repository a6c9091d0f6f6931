use Rattle.std.proofs.Common.{length, ◌-◌}
use Rattle.sat_parts.proofs.shows.+has_all.Given as goal

abbrev pub decreases-has_all : goal.decreases-has_all
decreases-has_all l = length l.payload.now.values - l.place
