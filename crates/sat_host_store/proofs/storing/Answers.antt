use Rattle.sat_host_store.proofs.Whole.{stores_are_one_run, stores_hold}
use Rattle.sat_host_store.proofs.storing.Goals as goal

pub returns : goal.returns
returns c = record { run = stores_are_one_run; good = stores_hold }
