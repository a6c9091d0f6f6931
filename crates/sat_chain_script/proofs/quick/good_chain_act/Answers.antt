use Rattle.std.proofs.Common.{rules}
use Rattle.sat_script.specs.Said.{TakesActs}
use Rattle.sat_chain_script.proofs.QuickActs.{plain_said}
use Rattle.sat_chain_script.proofs.quick.good_chain_act.Goals as goal

pub returns : goal.returns
returns c =
    let takes : TakesActs c.args.reader.now.state = search rules in
    plain_said c.args.replicas c.args.reader.now.state c.args.line.now c.in_ok-act.act takes.body c.in_ok-act.ensures
