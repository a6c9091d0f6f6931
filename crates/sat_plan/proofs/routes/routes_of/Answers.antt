use Rattle.sat_plan.proofs.Legs.{are_short}
use Rattle.sat_plan.proofs.routes.routes_of.Goals as goal

pub returns-clause-short : goal.returns-clause-short
returns-clause-short c = are_short c.args.d.now c.args.tree.now c.args.places.now _ c.requires.limits c.access.ensures.small c.requires.seats c.in_ok-access.ensures.access c.in_ok-legs.ensures
