use Rattle.sat_chain.proofs.Fresh.{new-stands, new-chains}
use Rattle.sat_chain.proofs.chains.Chains.new.Goals as goal

pub invariant_of-result : goal.invariant_of-result
invariant_of-result c = new-chains _ _ _ _ _ _ c.plans.ensures.limits c.in_ok-world.ensures.deployment c.in_ok-world.ensures.stands c.in_ok-interest.ensures.interest c.plans.ensures.plans c.in_ok-rows.ensures

pub returns-clause-stands : goal.returns-clause-stands
returns-clause-stands c = new-stands _ _ _ _ _ _ c.plans.ensures.limits c.in_ok-world.ensures.deployment c.in_ok-world.ensures.stands c.in_ok-interest.ensures.interest c.plans.ensures.plans c.in_ok-rows.ensures
