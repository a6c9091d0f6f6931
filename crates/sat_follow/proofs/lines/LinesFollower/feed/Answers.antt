use Rattle.sat_follow.proofs.LineByLine.{goes_on_of, stops_at_of}
use Rattle.sat_follow.proofs.lines.LinesFollower.feed.Goals as goal

pub returns-clause-good : goal.returns-clause-good
returns-clause-good g c = goes_on_of (g.L.LineFollower.rules c.args.self.now.each) (g.L.LineFollower.rules c.take.new.self.each) (g.L.LineFollower.stands_for c.args.self.now.each) (g.L.LineFollower.stands_for c.take.new.self.each) c.args.self.now.begun.items c.take.new.self.begun.items c.args.piece.now c.clear.new.self.items c.take.new.text.items c.take.result c.take.ensures.same c.clear.ensures.items c.take.ensures.good

pub returns-clause-bad : goal.returns-clause-bad
returns-clause-bad g c = stops_at_of (g.L.LineFollower.rules c.args.self.now.each) (g.L.LineFollower.stands_for c.args.self.now.each) c.args.self.now.begun.items c.args.piece.now c.clear.new.self.items c.take.new.text.items c.take.result c.clear.ensures.items c.take.ensures.bad
