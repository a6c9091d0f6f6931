use Rattle.sat_settle.proofs.Going.{tried-makes}
use Rattle.sat_settle.proofs.trying.once.Goals as goal

pub returns-clause-ok : goal.returns-clause-ok
returns-clause-ok c = tried-makes _ _ _ _ _ c.requires.act c.requires.plain c.in_ok-answer.ensures.tries c.count_of.ensures
