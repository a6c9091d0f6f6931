use Rattle.sat_top.proofs.Meetings.{met}
use Rattle.sat_top.proofs.top.streamed.Goals as goal

pub returns-in-Ok : goal.returns-in-Ok
returns-in-Ok g c = record {
  meets = met c.in-Ok.status (g.S.Source.left c.args.source.now) (g.S.Source.left c.run_script.new.source) (g.K.Sink.told c.args.sink.now) (g.K.Sink.told c.run_script.new.sink)
      (g.S.Source.faults c.args.source.now) (g.S.Source.faults c.run_script.new.source) (g.K.Sink.faults c.args.sink.now) (g.K.Sink.faults c.run_script.new.sink) (g.S.Source.ends c.args.source.now) (g.S.Source.ends c.run_script.new.source)
      c.in-Ok.ensures.whole c.in-Ok.ensures.end c.run_script.ensures.bounded c.run_script.ensures.stops c.run_script.ensures.once c.run_script.ensures.later c.run_script.ensures.kept;
}
