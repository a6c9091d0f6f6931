use Rattle.sat_runs.proofs.Good.{good_run}
use Rattle.sat_runs.proofs.law.good_runs.Goals as goal

pub returns : goal.returns
returns c = λ d acts is all. good_run d acts (record { good = c.headline.ensures; settles = c.settles_all.ensures.settles; rests = c.settles_all.ensures.rests }) is all
