use Rattle.sat_site_laws.proofs.Started.{start}
use Rattle.sat_site_laws.proofs.Stays.{stay}
use Rattle.sat_site_laws.proofs.sites_stay.Goals as goal

pub returns-clause-start : goal.returns-clause-start
returns-clause-start c = start

pub returns-clause-stay : goal.returns-clause-stay
returns-clause-stay c = stay
