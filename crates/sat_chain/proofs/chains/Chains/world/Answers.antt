use Rattle.std.proofs.Common.{subst, sym}
use Rattle.sat_act.specs.Limits.{IsDeployment}
use Rattle.sat_act.proofs.Valid.{is_valid}
use Rattle.sat_world.specs.Stands.{StandsFor}
use Rattle.sat_chain_laws.specs.Chains.{plain}
use Rattle.sat_chain_laws.proofs.Theorem.{chains}
use Rattle.sat_chain.specs.Stands.{ChainsSeen}
use Rattle.sat_chain.proofs.chains.Chains.world.Goals as goal

pub returns-clause-stands : goal.returns-clause-stands
returns-clause-stands c = λ h run st. subst (λ (s : ChainsSeen). StandsFor s.world (plain c.args.self.now.replicas h)) (sym c.self.view_is) st.world

pub returns-clause-good : goal.returns-clause-good
returns-clause-good c = λ h run st.
    let dep : IsDeployment c.args.self.now.world.deployment = subst (λ (s : ChainsSeen). IsDeployment s.world.deployment) c.self.view_is c.self.invariant.frame.deployment in
    chains c.args.self.now.world.deployment c.args.self.now.replicas h (is_valid c.args.self.now.world.deployment dep) dep.trees dep.all_seated run
