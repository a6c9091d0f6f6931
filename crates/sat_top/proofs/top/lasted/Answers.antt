use Rattle.sat_top.specs.declared.words.Command.TheVariants.{Durable}
use Rattle.sat_top.proofs.LastingFollowed.{lasting_followed}
use Rattle.sat_top.proofs.Followed.{has_followed}
use Rattle.sat_top.proofs.top.lasted.Goals as goal

pub returns : goal.returns
returns g c = record {
  meets = rw c.status_of.ensures (has_followed Durable _ (lasting_followed c.good_lasting_texts.ensures) c.follow_lasting.result (g.S.Source.left c.args.source.now) (g.S.Source.left c.follow_lasting.new.source) (g.K.Sink.told c.args.sink.now) (g.K.Sink.told c.follow_lasting.new.sink)
      (g.S.Source.faults c.args.source.now) (g.S.Source.faults c.follow_lasting.new.source) (g.K.Sink.faults c.args.sink.now) (g.K.Sink.faults c.follow_lasting.new.sink) (g.S.Source.ends c.args.source.now) (g.S.Source.ends c.follow_lasting.new.source)
      c.follow_lasting.ensures);
}
