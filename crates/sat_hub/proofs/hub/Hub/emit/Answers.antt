use Rattle.sat_hub.proofs.Sound.{emit-after, emit-answer, emit-hub, idle-after, idle-answer}
use Rattle.sat_hub.proofs.hub.Hub.emit.Goals as goal

pub returns-in_default-clause-answer : goal.returns-in_default-clause-answer
returns-in_default-clause-answer c = idle-answer _ _ _ c.self.view_is c.emit.ensures.label c.in_default.is

pub returns-in_default-clause-after : goal.returns-in_default-clause-after
returns-in_default-clause-after c = idle-after _ _ _ _ c.self.view_is c.emit.ensures.label c.in_default.is c.emit.ensures.new

pub invariant_of-self-2 : goal.invariant_of-self-2
invariant_of-self-2 c = emit-hub _ _ _ _ c.self.invariant c.emit.ensures.label c.in-Some.is c.emit.ensures.new

pub returns-clause-answer : goal.returns-clause-answer
returns-clause-answer c = emit-answer _ _ _ _ c.self.view_is c.emit.ensures.label c.in-Some.is

pub returns-clause-after : goal.returns-clause-after
returns-clause-after c = emit-after _ _ _ _ _ c.self.view_is c.emit.ensures.label c.in-Some.is c.emit.ensures.new
