use Rattle.std.proofs.Common.{◌≡◌, ◌≤◌, ◌-◌}
use Rattle.sat_follow.proofs.Followed.{HasFollowed}
use Rattle.sat_follow.proofs.pieces.follow.Given as goal

abbrev pub invariant-pieces : goal.invariant-pieces
invariant-pieces g l = record {
  same : g.F.Follower.meaning l.follower ≡ g.F.Follower.meaning l.initial.follower;
  later : g.S.Source.faults l.initial.source ≤ g.S.Source.faults l.source;
  kept : g.K.Sink.faults l.initial.sink ≤ g.K.Sink.faults l.sink;
  ends : g.S.Source.ends l.source ≡ g.S.Source.ends l.initial.source;
  had : HasFollowed (g.F.Follower.meaning l.initial.follower) (g.F.Follower.follows l.follower) (g.S.Source.left l.initial.source) (g.S.Source.left l.source) (g.K.Sink.told l.initial.sink) (g.K.Sink.told l.sink) l.taken;
}

abbrev pub decreases-pieces : goal.decreases-pieces
decreases-pieces g l = 1099511627776 - l.taken
