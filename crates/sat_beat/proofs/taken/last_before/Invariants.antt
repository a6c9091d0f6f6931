use Rattle.std.proofs.Common.{◌≡◌, length, None}
use Rattle.sat_beat.specs.Rising.{last_before}
use Rattle.sat_beat.proofs.taken.last_before.Given as goal

abbrev pub invariant-loop-number : goal.invariant-loop-number
invariant-loop-number l = last_before l.fronts None l.later.entries ≡ last_before l.fronts l.last l.beats

abbrev pub decreases-loop-number : goal.decreases-loop-number
decreases-loop-number l = length l.beats
