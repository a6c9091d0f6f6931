use Rattle.sat_stream.proofs.Coming.{few_bytes, settled_after}
use Rattle.sat_stream.proofs.Drained.{lacks_its_end}
use Rattle.sat_stream.proofs.stream.ScriptReader.feed.Goals as goal

pub returns-clause-few : goal.returns-clause-few
returns-clause-few c = rw (← c.self.view_is) (few_bytes (record { lines = c.self.inside.lines; begun = c.self.inside.begun.items }) c.self.invariant.fit c.self.invariant.short)

pub returns-clause-settled : goal.returns-clause-settled
returns-clause-settled c = settled_after c.take-taken.new.self c.take-taken.result c.args.self.now c.args.piece.now c.take-taken.ensures

pub returns-clause-lacks : goal.returns-clause-lacks
returns-clause-lacks c = rw (← c.self.view_is) (λ none. lacks_its_end (record { lines = c.self.inside.lines; begun = c.self.inside.begun.items }) none c.self.invariant.short c.self.invariant.ended)
