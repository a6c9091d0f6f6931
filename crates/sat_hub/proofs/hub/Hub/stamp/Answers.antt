use Rattle.sat_hub.proofs.Given.{stamp-after, stamp-gives, stamp-ok, stamp-told}
use Rattle.sat_hub.proofs.Peers.{stamp-hub}
use Rattle.sat_hub.proofs.hub.Hub.stamp.Goals as goal

pub invariant_of-self : goal.invariant_of-self
invariant_of-self c = stamp-hub _ c.stamp-shown.result c.stamp-shown.new.self c.self.invariant c.sound.ensures.proxy c.stamp-shown.ensures.new c.stamp-shown.ensures.err

pub returns-clause-answer : goal.returns-clause-answer
returns-clause-answer c = stamp-told _ _ c.stamp-shown.result c.self.view_is c.self.invariant c.stamp-shown.ensures.fault c.stamp-shown.ensures.shown

pub returns-clause-shows : goal.returns-clause-shows
returns-clause-shows c = stamp-gives _ _ c.stamp-shown.result c.self.view_is c.stamp-shown.ensures.fault c.stamp-shown.ensures.shown

pub returns-clause-guest : goal.returns-clause-guest
returns-clause-guest c = stamp-ok _ _ c.stamp-shown.result c.self.view_is c.self.invariant c.stamp-shown.ensures.shown

pub returns-clause-after : goal.returns-clause-after
returns-clause-after c = stamp-after _ _ c.stamp-shown.result c.stamp-shown.new.self c.self.view_is c.stamp-shown.ensures.fault c.stamp-shown.ensures.new c.stamp-shown.ensures.err
