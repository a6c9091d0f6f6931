use Rattle.sat_top.specs.declared.words.Command.TheVariants.{Chain}
use Rattle.sat_top.proofs.ChainFollowed.{chain_followed}
use Rattle.sat_top.proofs.Followed.{has_followed}
use Rattle.sat_top.proofs.top.chained.Goals as goal

pub returns : goal.returns
returns g c = record {
  meets = rw c.status_of.ensures (has_followed (Chain c.args.replicas) _ (chain_followed c.args.replicas c.good_chain_texts.ensures) c.follow_chains.result (g.S.Source.left c.args.source.now) (g.S.Source.left c.follow_chains.new.source) (g.K.Sink.told c.args.sink.now) (g.K.Sink.told c.follow_chains.new.sink)
      (g.S.Source.faults c.args.source.now) (g.S.Source.faults c.follow_chains.new.source) (g.K.Sink.faults c.args.sink.now) (g.K.Sink.faults c.follow_chains.new.sink) (g.S.Source.ends c.args.source.now) (g.S.Source.ends c.follow_chains.new.source)
      c.follow_chains.ensures);
}
