use Rattle.std.proofs.Common.{◌≡◌, map, take}
use Rattle.sat_chain.specs.Starts.{fresh_row}
use Rattle.sat_chain.proofs.chains.fresh_rows.Given as goal

abbrev pub invariant-loop-plan : goal.invariant-loop-plan
invariant-loop-plan l = l.rows.items ≡ map (fresh_row l.replicas) (take l.plan-index l.plans)
