use Rattle.sat_follow.proofs.LineByLine.{ends_at_of}
use Rattle.sat_follow.proofs.lines.LinesFollower.finish.Goals as goal

pub returns : goal.returns
returns g c = ends_at_of (g.L.LineFollower.rules c.args.self.now.each) (g.L.LineFollower.stands_for c.args.self.now.each) c.args.self.now.begun.items c.as_slice.result.now c.clear.new.self.items c.finish.new.text.items c.finish.result c.clear.ensures.items c.as_slice.ensures.value c.finish.ensures
