use Rattle.std.proofs.Common.{◌∙◌}
use Rattle.sat_follow.specs.ByLines.{Follows}
use Rattle.sat_follow.proofs.LineByLine.{taken_line, taken_breaks, taken_adds, taken_bad}
use Rattle.sat_follow.proofs.lines.Lines.take.Goals as goal

pub returns-then-not-good-clause-bad : goal.returns-then-not-good-clause-bad
returns-then-not-good-clause-bad g c = λ _.
    taken_breaks (g.L.LineFollower.rules c.args.self.now.each) (Follows (g.L.LineFollower.rules c.args.self.now.each) (g.L.LineFollower.stands_for c.args.self.now.each) c.args.self.now.begun.items) (Follows (g.L.LineFollower.rules c.args.self.now.each) (g.L.LineFollower.stands_for c.lines.self.each) c.lines.self.begun.items) c.args.piece.now c.lines.rest.now c.in-Some.line.now c.in-Some.more.now c.args.text.now.items c.lines.text.items c.end_of_line.new.text.items c.lines.invariant.had c.in-Some.ensures
    (c.in_ok-good.ensures.bad (g.L.LineFollower.rules c.args.self.now.each) c.lines.invariant.same c.if-not-good.true)

pub lines-preserved : goal.lines-preserved
lines-preserved g c = record {
  same = c.in_ok-good.ensures.same ∙ c.lines.invariant.same;
  had = taken_line (g.L.LineFollower.rules c.args.self.now.each) (Follows (g.L.LineFollower.rules c.args.self.now.each) (g.L.LineFollower.stands_for c.args.self.now.each) c.args.self.now.begun.items) (Follows (g.L.LineFollower.rules c.args.self.now.each) (g.L.LineFollower.stands_for c.lines.self.each) c.lines.self.begun.items) (Follows (g.L.LineFollower.rules c.args.self.now.each) (g.L.LineFollower.stands_for c.end_of_line.new.self.each) c.end_of_line.new.self.begun.items) c.args.piece.now c.lines.rest.now c.in-Some.line.now c.in-Some.more.now c.args.text.now.items c.lines.text.items c.end_of_line.new.text.items c.lines.invariant.had c.in-Some.ensures
      (c.in_ok-good.ensures.good (g.L.LineFollower.rules c.args.self.now.each) c.lines.invariant.same c.if-not-good.false);
}

pub returns-clause-good : goal.returns-clause-good
returns-clause-good g c =
    taken_adds (g.L.LineFollower.rules c.args.self.now.each) (Follows (g.L.LineFollower.rules c.args.self.now.each) (g.L.LineFollower.stands_for c.args.self.now.each) c.args.self.now.begun.items) (Follows (g.L.LineFollower.rules c.args.self.now.each) (g.L.LineFollower.stands_for c.lines.self.each) c.lines.self.begun.items) (Follows (g.L.LineFollower.rules c.args.self.now.each) (g.L.LineFollower.stands_for c.front.new.self.each) c.front.new.self.begun.items) c.args.piece.now c.lines.rest.now c.args.text.now.items c.lines.text.items c.front.new.text.items c.front.result c.lines.invariant.had (c.front.ensures.good (g.L.LineFollower.rules c.args.self.now.each) c.lines.invariant.same)

pub returns-clause-bad : goal.returns-clause-bad
returns-clause-bad g c =
    taken_bad (g.L.LineFollower.rules c.args.self.now.each) (Follows (g.L.LineFollower.rules c.args.self.now.each) (g.L.LineFollower.stands_for c.args.self.now.each) c.args.self.now.begun.items) (Follows (g.L.LineFollower.rules c.args.self.now.each) (g.L.LineFollower.stands_for c.lines.self.each) c.lines.self.begun.items) c.args.piece.now c.lines.rest.now c.args.text.now.items c.lines.text.items c.front.new.text.items c.front.result c.lines.invariant.had (c.front.ensures.bad (g.L.LineFollower.rules c.args.self.now.each) c.lines.invariant.same)
