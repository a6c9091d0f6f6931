use Rattle.std.proofs.Common.{◌≡◌, ◌++◌, take}
use Rattle.sat_top.specs.Drawing.{numbered}
use Rattle.sat_top.proofs.drawing.push_moves.Given as goal

abbrev pub invariant-loop-place : goal.invariant-loop-place
invariant-loop-place l = l.moved.items ≡ l.fn.moved.items ++ numbered l.row 0 (take l.place l.kept)
