use Rattle.std.proofs.Common.{rules, ◌≡◌, Some, refl}
use Rattle.sat_script.specs.State.{deployment_of}
use Rattle.sat_chain_runs.proofs.Doing.{made_held, made_keeps}
use Rattle.sat_chain_runs.proofs.chain_lines.ChainLines.begin_chains.Goals as goal

pub invariant_of-self : goal.invariant_of-self
invariant_of-self c =
    let deployment : deployment_of c.self.inside.reader.state ≡ Some c.in_ok-chains.chains.world.deployment = search rules in
    made_held _ _ c.in_ok-chains.chains c.self.invariant refl refl refl deployment c.in_ok-chains.ensures.replicas c.in_ok-chains.ensures.stands

pub returns-clause-keeps : goal.returns-clause-keeps
returns-clause-keeps c = made_keeps c.args.self.now.chains c.in_ok-chains.chains c.requires.none c.in_ok-chains.ensures.stands
