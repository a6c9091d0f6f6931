use Rattle.std.proofs.Common.{◌≡◌, length}
use Rattle.sat_beat.specs.Beats.{newest}
use Rattle.sat_beat.proofs.taken.newest_of_all.Given as goal

abbrev pub invariant-loop-number : goal.invariant-loop-number
invariant-loop-number l = newest l.fronts l.later.entries ≡ newest l.fronts l.beats

abbrev pub decreases-loop-number : goal.decreases-loop-number
decreases-loop-number l = length l.beats
