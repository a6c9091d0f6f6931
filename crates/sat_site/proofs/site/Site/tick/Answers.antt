use Rattle.sat_site.proofs.Deeds.{tick-site, did-tick, within-gears}
use Rattle.sat_site.proofs.site.Site.tick.Goals as goal

pub invariant_of-self : goal.invariant_of-self
invariant_of-self c = tick-site _ _ _ _ _ c.self.invariant (within-gears _ _ _ c.self.view_is c.self.invariant c.requires.gear) c.index_mut-gear.ensures.value c.tick-promise.ensures.new c.limits.ensures

pub returns : goal.returns
returns c = did-tick _ _ _ _ _ _ _ c.self.view_is (within-gears _ _ _ c.self.view_is c.self.invariant c.requires.gear) c.index_mut-gear.ensures.value c.tick-promise.ensures.promise c.tick-promise.ensures.new
