use Rattle.sat_settle.proofs.Going.{tried-makes}
use Rattle.sat_settle.proofs.KeptOn.{keeps-once}
use Rattle.sat_settle.proofs.keeping.once_keeping.Goals as goal

pub returns-clause-ok : goal.returns-clause-ok
returns-clause-ok c = tried-makes _ _ _ _ _ c.requires.act c.requires.plain c.in_ok-answer.ensures.tries c.count_of-done.ensures

pub returns-clause-keeps : goal.returns-clause-keeps
returns-clause-keeps c = keeps-once _ _ _ _ _ _ c.in_ok-answer.ensures.tries c.in_ok-note.ensures
