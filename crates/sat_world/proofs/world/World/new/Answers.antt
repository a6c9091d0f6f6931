use Rattle.std.proofs.Common.{refl, ◌∙◌, List, map, ap}
use Rattle.sat_act.specs.declared.deployment.Plan.{Plan}
use Rattle.sat_world.specs.Starts.{fresh_for}
use Rattle.sat_world.proofs.Shown.{new-world, new-stands}
use Rattle.sat_world.proofs.world.World.new.Goals as goal

pub invariant_of-result : goal.invariant_of-result
invariant_of-result c = new-world _ c.plans.ensures.limits (record {
  interest = c.in_ok-interest.ensures.interest;
  sites = c.in_ok-sites.ensures;
  nets = c.in_ok-nets.ensures ∙ ap (λ (ps : List Plan). map fresh_for ps) c.plans.ensures.plans;
  clients = c.in_ok-clients.ensures;
})

pub returns-clause-stands : goal.returns-clause-stands
returns-clause-stands c = new-stands _ c.plans.ensures.limits (record {
  interest = c.in_ok-interest.ensures.interest;
  sites = c.in_ok-sites.ensures;
  nets = c.in_ok-nets.ensures ∙ ap (λ (ps : List Plan). map fresh_for ps) c.plans.ensures.plans;
  clients = c.in_ok-clients.ensures;
}) refl
