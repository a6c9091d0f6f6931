use Rattle.std.proofs.Common.{ap, rules}
use Rattle.sat_stream.specs.Stream.{lines_seen}
use Rattle.sat_stream.proofs.Drained.{drained_deploys}
use Rattle.sat_stream.proofs.lines.Lines.drain.Goals as goal

pub returns-clause-stays : goal.returns-clause-stays
returns-clause-stays c =
    rw (← c.self.view_is)
    (drained_deploys (lines_seen c.self.inside.reader c.self.inside.acts) (lines_seen c.self.inside.reader c.replace.new.dest) c.self.invariant (ap (lines_seen c.self.inside.reader) (search rules)))
