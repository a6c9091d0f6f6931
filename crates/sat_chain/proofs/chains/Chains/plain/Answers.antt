use Rattle.sat_chain.proofs.Deeds.{plain-deed}
use Rattle.sat_chain.proofs.chains.Chains.plain.Goals as goal

pub returns-clause-applies : goal.returns-clause-applies
returns-clause-applies c = (plain-deed _ _ c.self.view_is c.self.invariant _ _ _ c.requires c.in_ok-answer.ensures.applies).applies

pub invariant_of-self-2 : goal.invariant_of-self-2
invariant_of-self-2 c = (plain-deed _ _ c.self.view_is c.self.invariant _ _ _ c.requires c.in_ok-answer.ensures.applies).invariant
