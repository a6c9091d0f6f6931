use Rattle.sat_pool.proofs.Members.{add-members, add-length, add-pool, add-sites, take-members, take-length, take-none, take-pool, take-sites, found-in, in-found, none-pool, none-all}
use Rattle.sat_pool.proofs.pool_laws.Goals as goal

pub returns : goal.returns
returns c = record {
  add_members = add-members;
  add_counts = add-length;
  add_keeps = λ w p is lt. (add-pool w p is lt, add-sites w p);
  take_members = take-members;
  take_counts = take-length;
  take_of_none = take-none;
  take_keeps = λ w q is. (take-pool w q is, take-sites w q);
  found_waits = found-in;
  waiting_is_found = in-found;
  none_waits = λ n. (none-pool n, none-all n);
}
