use Rattle.std.proofs.Common.{refl}
use Rattle.sat_act.proofs.checks.flaw_of.Goals as goal

pub returns-in-None-clause-trees : goal.returns-in-None-clause-trees
returns-in-None-clause-trees c = λ _. c.in-None.ensures.trees refl
