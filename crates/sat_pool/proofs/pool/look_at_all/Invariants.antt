use Rattle.std.proofs.Common.{◌≡◌}
use Rattle.sat_pool.proofs.pool.look_at_all.Given as goal

abbrev pub invariant-sites : goal.invariant-sites
invariant-sites l = l.rows.items ≡ l.initial.rows.items
