use Rattle.sat_stream.proofs.Pieces.{finish_gives}
use Rattle.sat_stream.proofs.lines.Lines.finish.Goals as goal

pub returns-clause-means : goal.returns-clause-means
returns-clause-means c =
    rw (c.fault-fault.ensures, c.into_deployment.ensures, ← c.self.view_is) (finish_gives c.self.inside.reader c.close.new.self c.close.result c.self.inside.acts c.args.rest.now c.close.ensures)
