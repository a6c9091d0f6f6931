use Rattle.std.proofs.Common.{subst}
use Rattle.sat_follow.specs.HasFollowed.{HasFollowed}
use Rattle.sat_follow.specs.Meaning.{Meaning}
use Rattle.sat_lasting_runs.proofs.following.follow_lasting.Goals as goal

pub returns : goal.returns
returns g c = subst (λ (m : Meaning). HasFollowed m c.follow.result (g.S.Source.left c.args.source.now) (g.S.Source.left c.follow.new.source) (g.K.Sink.told c.args.sink.now) (g.K.Sink.told c.follow.new.sink)
    (g.S.Source.faults c.args.source.now) (g.S.Source.faults c.follow.new.source) (g.K.Sink.faults c.args.sink.now) (g.K.Sink.faults c.follow.new.sink) (g.S.Source.ends c.args.source.now) (g.S.Source.ends c.follow.new.source))
    c.lasting_follower-follower.ensures.meaning (record {
      whole = c.follow.ensures.whole;
      end = c.follow.ensures.end;
      bounded = c.follow.ensures.bounded;
      stops = c.follow.ensures.stops;
      failed = c.follow.ensures.failed;
      answered = c.follow.ensures.answered;
      refused = c.follow.ensures.refused;
      front = c.follow.ensures.front;
      stopped = c.follow.ensures.stopped;
      once = c.follow.ensures.once;
      later = c.follow.ensures.later;
      kept = c.follow.ensures.kept;
    })
