use Rattle.sat_settle.specs.LoadActs.{load_acts}
use Rattle.sat_settle.specs.LoadHeader.{load_deployment}
use Rattle.sat_runs.proofs.Good.{good_run}
use Rattle.sat_top.proofs.loading.load_output.Goals as goal

pub returns-clause-good : goal.returns-clause-good
returns-clause-good c =
    let spelled = c.new-coming.ensures.spelled in
    good_run load_deployment (load_acts c.args.seed c.args.acts) (record { good = c.headline.ensures; settles = c.settles_all.ensures.settles; rests = c.settles_all.ensures.rests }) spelled.deployment spelled.each
