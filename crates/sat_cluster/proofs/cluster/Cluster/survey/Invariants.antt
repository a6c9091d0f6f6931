use Rattle.std.proofs.Common.{◌≤◌}
use Rattle.sat_label.specs.declared.limits.TheConstants.{TS_END}
use Rattle.sat_cluster.proofs.cluster.Cluster.survey.Given as goal

abbrev pub invariant-loop-gear : goal.invariant-loop-gear
invariant-loop-gear g l = l.most ≤ TS_END
