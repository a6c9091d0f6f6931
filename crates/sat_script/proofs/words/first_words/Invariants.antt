use Rattle.std.proofs.Common.{◌<◌, length}
use Rattle.sat_script.proofs.FirstWords.{AreFound}
use Rattle.sat_script.proofs.words.first_words.Given as goal

abbrev pub invariant-loop-place : goal.invariant-loop-place
invariant-loop-place l = AreFound l.line l.words.items l.start l.place × (length l.words.items < 11)
