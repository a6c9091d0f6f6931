use Rattle.sat_site.proofs.Steps.{each-step, each-clock}
use Rattle.sat_site.proofs.Fitting.{each-fits}
use Rattle.sat_site.proofs.site_laws.Goals as goal

pub returns-clause-steps : goal.returns-clause-steps
returns-clause-steps c = each-step c.lane_laws.ensures c.proxy_laws.ensures.answers c.proxy_laws.ensures.follows

pub returns-clause-clocks : goal.returns-clause-clocks
returns-clause-clocks c = each-clock

pub returns-clause-fits : goal.returns-clause-fits
returns-clause-fits c = each-fits
