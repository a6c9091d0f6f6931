use Rattle.sat_settle.proofs.Going.{tries-by}
use Rattle.sat_settle.proofs.trying.try_act.Goals as goal

pub returns-clause-tries : goal.returns-clause-tries
returns-clause-tries c = tries-by _ _ _ _ c.in_ok-answer.ensures.answer c.in_ok-answer.ensures.stands
