use Rattle.sat_site.proofs.Hubs.{did-emit, emit-site}
use Rattle.sat_site.proofs.site.Site.emit.Goals as goal

pub invariant_of-self : goal.invariant_of-self
invariant_of-self c = emit-site _ _ _ _ c.self.invariant c.limits_of.ensures c.emit-answer.ensures.after

pub returns : goal.returns
returns c = did-emit _ _ _ _ _ c.self.view_is c.emit-answer.ensures.answer c.emit-answer.ensures.after
