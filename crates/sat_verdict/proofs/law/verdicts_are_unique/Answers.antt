use Rattle.sat_verdict.proofs.Settled.{one-causal, one-once, one-fresh}
use Rattle.sat_verdict.proofs.law.verdicts_are_unique.Goals as goal

pub returns : goal.returns
returns c = λ sets h. (one-causal sets h, one-once sets h, one-fresh h)
