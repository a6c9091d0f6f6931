use Rattle.std.proofs.Common.{arith, rules, ◌∙◌}
use Rattle.sat_plan.proofs.Legs.{edge_in, legs_step}
use Rattle.sat_plan.proofs.routes.legs.Goals as goal

pub leg_of-requires-clause-edge : goal.leg_of-requires-clause-edge
leg_of-requires-clause-edge c = edge_in _ _ _ (c.deref-edge-items.ensures.value ∙ c.in_ok-edges.ensures) (omega arith)

pub loop-edge-preserved : goal.loop-edge-preserved
loop-edge-preserved c =
    legs_step _ _ _ _ _ _ _ _ (c.deref-edge-items.ensures.value ∙ c.in_ok-edges.ensures) c.loop-edge.invariant c.leg_of.ensures.leg c.leg_of.ensures.short (search rules)
