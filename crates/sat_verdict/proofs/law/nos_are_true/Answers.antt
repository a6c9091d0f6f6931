use Rattle.sat_verdict.proofs.Settled.{lack-excludes, again-excludes, miss-excludes}
use Rattle.sat_verdict.proofs.law.nos_are_true.Goals as goal

pub returns : goal.returns
returns c = λ sets h. (λ v. lack-excludes sets h v.0 v.1 v.2, λ n. again-excludes sets h n, λ v. miss-excludes h v.0 v.1)
