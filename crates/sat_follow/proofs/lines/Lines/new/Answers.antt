use Rattle.sat_follow.proofs.LineByLine.{follows_start}
use Rattle.sat_follow.proofs.lines.Lines.new.Goals as goal

pub returns-clause-fresh : goal.returns-clause-fresh
returns-clause-fresh g c = follows_start (g.L.LineFollower.rules c.args.each) (g.L.LineFollower.stands_for c.args.each) c.new.result.items c.new.ensures.items c.requires
