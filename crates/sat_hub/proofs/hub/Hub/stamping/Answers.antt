use Rattle.sat_hub.proofs.Given.{next-guest}
use Rattle.sat_hub.proofs.hub.Hub.stamping.Goals as goal

pub returns-clause-guest : goal.returns-clause-guest
returns-clause-guest c = next-guest _ _ c.stamp_shows.result c.self.view_is c.self.invariant c.stamp_shows.ensures
