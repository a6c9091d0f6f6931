use Rattle.std.proofs.Common.{◌∙◌}
use Rattle.sat_site.proofs.Shown.{promise-same}
use Rattle.sat_site.proofs.site.Site.promise.Goals as goal

pub returns-clause-promise : goal.returns-clause-promise
returns-clause-promise c = λ d i s st. c.promise.ensures.promise ∙ (st.gears.each _ _ c.gear-gear.ensures.gear).promise

pub returns-clause-seen : goal.returns-clause-seen
returns-clause-seen c = λ g at. promise-same c.args.self.now c.args.gear _ c.gear-gear.result.now g c.gear-gear.ensures.gear c.promise.ensures.promise at
