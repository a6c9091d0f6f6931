use Rattle.sat_told.proofs.Naming.{judged-good}
use Rattle.sat_told.proofs.law.every_run_is_judged_good.Goals as goal

pub returns : goal.returns
returns c = judged-good
