use Rattle.sat_opened.proofs.Whole.{hosts_fit, hosts_join, hosts_are_runs, hosts_are_good, opened_are_hosts}
use Rattle.sat_opened.proofs.delivering.Goals as goal

pub returns : goal.returns
returns c = record {
  fit = hosts_fit;
  join = hosts_join;
  runs = hosts_are_runs;
  good = hosts_are_good;
  opened = opened_are_hosts;
}
