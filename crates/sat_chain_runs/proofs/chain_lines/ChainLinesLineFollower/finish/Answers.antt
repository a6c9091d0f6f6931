use Rattle.sat_chain_runs.proofs.Ending.{has_begun}
use Rattle.sat_chain_runs.proofs.chain_lines.ChainLinesLineFollower.finish.Goals as goal

pub make_chains-requires : goal.make_chains-requires
make_chains-requires c = record { begun = has_begun c.self.inside.reader.fault c.self.inside.reader.state c.close.new.self c.close.result c.args.rest.now c.in_default.field-0 c.in_default.is c.close.ensures }
