use Rattle.sat_host_laws.proofs.Taken.{stores_fit, stores_are_runs, stores_are_good, one_more, stays_sent}
use Rattle.sat_host_laws.proofs.hosting.Goals as goal

pub returns : goal.returns
returns c = record {
  stores = stores_fit;
  store_runs = stores_are_runs;
  store_good = stores_are_good;
  more = one_more;
  stays = stays_sent;
}
