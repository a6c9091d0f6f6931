use Rattle.std.proofs.Common.{take}
use Rattle.sat_draw.specs.Tracks.{IsDrawn}
use Rattle.sat_draw.proofs.picture.append_rows.Given as goal

abbrev pub invariant-loop-place : goal.invariant-loop-place
invariant-loop-place l = IsDrawn l.d l.lines.items l.words.items l.tracks (take l.place l.entries)
