use Rattle.std.proofs.Common.{◌≡◌, length}
use Rattle.sat_beat.specs.Beats.{passed}
use Rattle.sat_beat.proofs.taken.pass.Given as goal

abbrev pub invariant-beats : goal.invariant-beats
invariant-beats l = passed l.number l.best l.later.entries ≡ passed l.fn.number l.fn.best l.fn.later.entries

abbrev pub decreases-beats : goal.decreases-beats
decreases-beats l = length l.later.entries
