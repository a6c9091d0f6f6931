use Rattle.sat_plan.specs.Routes.{AreLegs}
use Rattle.sat_plan.proofs.routes.legs.Given as goal

abbrev pub invariant-loop-edge : goal.invariant-loop-edge
invariant-loop-edge l = AreLegs l.d l.tree l.places l.edge-index l.legs.items
