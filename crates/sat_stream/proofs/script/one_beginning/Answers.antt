use Rattle.sat_stream.proofs.Begins.{begins_once}
use Rattle.sat_stream.proofs.script.one_beginning.Goals as goal

pub returns : goal.returns
returns c = begins_once
