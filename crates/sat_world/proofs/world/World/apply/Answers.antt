use Rattle.sat_world.proofs.Counted.{applied, applied-deployment}
use Rattle.sat_world.proofs.world.World.apply.Goals as goal

pub returns-clause-answer : goal.returns-clause-answer
returns-clause-answer c = applied _ _ _ _ c.step.result (λ r s. s.answer) c.step.ensures.applies

pub returns-clause-run : goal.returns-clause-run
returns-clause-run c = applied _ _ _ _ c.step.result (λ r s. s.run) c.step.ensures.applies

pub returns-clause-stands : goal.returns-clause-stands
returns-clause-stands c = applied _ _ _ _ c.step.result (λ r s. s.stands) c.step.ensures.applies

pub returns-clause-good : goal.returns-clause-good
returns-clause-good c = applied _ _ _ _ c.step.result (λ r s. s.good) c.step.ensures.applies

pub returns-clause-refused : goal.returns-clause-refused
returns-clause-refused c = applied _ _ _ _ c.step.result (λ r s. s.refused) c.step.ensures.applies

pub returns-clause-deployment : goal.returns-clause-deployment
returns-clause-deployment c = applied-deployment _ _ _ c.step.result c.step.ensures.applies c.step.ensures.err
