use Rattle.sat_beat.proofs.Passed.{passed_whole}
use Rattle.sat_beat.proofs.taken.pass_all.Goals as goal

pub returns : goal.returns
returns c = passed_whole c.args.number c.args.best.now c.pop_last.result c.args.later.now.entries c.pop_last.new.self.entries _ c.requires.rises c.requires.ends c.pop_last.ensures.variant c.pop_last.ensures.removal c.clear.ensures.empty
