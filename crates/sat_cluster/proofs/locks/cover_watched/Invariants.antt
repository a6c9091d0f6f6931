use Rattle.std.proofs.Common.{◌≡◌, length, vec_len}
use Rattle.sat_cluster.proofs.locks.cover_watched.Given as goal

abbrev pub invariant-loop-held : goal.invariant-loop-held
invariant-loop-held g l = vec_len l.locks ≡ length l.yielded
