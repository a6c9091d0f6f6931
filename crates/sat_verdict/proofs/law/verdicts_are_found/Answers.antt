use Rattle.sat_verdict.proofs.Found.{found-causal, found-once, found-fresh}
use Rattle.sat_verdict.proofs.law.verdicts_are_found.Goals as goal

pub returns : goal.returns
returns c = λ sets h. (found-causal sets h, found-once sets h, found-fresh h)
