use Rattle.std.proofs.Common.{◌≡◌, length, vec_capacity}
use Rattle.sat_cluster.proofs.locks.open_watched.Given as goal

abbrev pub invariant-loop-lock : goal.invariant-loop-lock
invariant-loop-lock g l = (length l.nodes.items ≡ length l.yielded) × (vec_capacity l.nodes ≡ vec_capacity l.initial.nodes)
