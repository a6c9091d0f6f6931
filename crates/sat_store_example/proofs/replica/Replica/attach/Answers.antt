use Rattle.sat_site.specs.SiteSteps.{site_after}
use Rattle.sat_store_example.proofs.replica.Replica.attach.Goals as goal

pub returns-clause-replica : goal.returns-clause-replica
unfolding site_after
returns-clause-replica c = c.in_ok-out.ensures.after
