use Rattle.std.proofs.Common.{◌≡◌, length}
use Rattle.sat_follow.specs.ByLines.{Follows}
use Rattle.sat_follow.proofs.LineByLine.{HasTaken}
use Rattle.sat_follow.proofs.lines.Lines.take.Given as goal

abbrev pub invariant-lines : goal.invariant-lines
invariant-lines g l = record {
  same : g.L.LineFollower.rules l.self.each ≡ g.L.LineFollower.rules l.initial.self.each;
  had : HasTaken (g.L.LineFollower.rules l.initial.self.each) (Follows (g.L.LineFollower.rules l.initial.self.each) (g.L.LineFollower.stands_for l.initial.self.each) l.initial.self.begun.items) (Follows (g.L.LineFollower.rules l.initial.self.each) (g.L.LineFollower.stands_for l.self.each) l.self.begun.items) l.piece l.rest l.initial.text.items l.text.items;
}

abbrev pub decreases-lines : goal.decreases-lines
decreases-lines g l = length l.rest
