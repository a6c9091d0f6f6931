use Rattle.sat_stream.proofs.Coming.{stopped_within}
use Rattle.sat_stream.proofs.stream.ScriptReader.take.Goals as goal

pub returns-in-Err : goal.returns-in-Err
returns-in-Err c =
    stopped_within c.args.self.now c.lines.self c.end_of_line.new.self c.args.piece.now c.lines.rest.now c.in-Some.line.now c.in-Some.more.now c.in-Err.fault c.in-Some.ensures c.lines.invariant.1 c.in-Err.ensures
