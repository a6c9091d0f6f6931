use Rattle.std.proofs.Common.{take}
use Rattle.sat_script.specs.Words.{HasNo}
use Rattle.sat_script.proofs.words.cut_word.Given as goal

abbrev pub invariant-loop-place : goal.invariant-loop-place
invariant-loop-place l = HasNo 32 (take l.place l.text)
