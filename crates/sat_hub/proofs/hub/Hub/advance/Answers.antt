use Rattle.sat_hub.proofs.Peers.{advance-done, advance-hub}
use Rattle.sat_hub.proofs.hub.Hub.advance.Goals as goal

pub invariant_of-self : goal.invariant_of-self
invariant_of-self c = advance-hub _ c.advance-passed.result c.advance-passed.new.views c.advance-passed.new.self c.self.invariant c.sound.ensures.views c.sound.ensures.proxy c.advance-passed.ensures.new c.advance-passed.ensures.passed c.advance-passed.ensures.err c.advance-passed.ensures.stayed

pub returns-clause-after : goal.returns-clause-after
returns-clause-after c = advance-done _ _ c.advance-passed.result c.advance-passed.new.views c.advance-passed.new.self c.self.view_is c.advance-passed.ensures.fault c.advance-passed.ensures.new c.advance-passed.ensures.passed c.advance-passed.ensures.err c.advance-passed.ensures.stayed
