use Rattle.std.proofs.Common.{rules, ◌≡◌, [], ◌∷◌, length, ap, ◌∙◌}
use Rattle.sat_act.specs.declared.deployment.Plan.TheVariants as plan
use Rattle.sat_act.specs.Deployed.{Deployed}
use Rattle.sat_node_tests.proofs.Fixtures.{first_kill}
use Rattle.sat_node_tests.proofs.cluster.deployment.Goals as goal

pub returns-in-Ok : goal.returns-in-Ok
returns-in-Ok c =
    let is = c.in-Ok.ensures.deployment in
    let tree = c.in_ok-plans.ensures in
    let one : length c.push.new.self.items ≡ 1 = search rules in
    let items : length c.in-Ok.d.items ≡ 1 = ap (λ (d : Deployed). length d.items) is ∙ one in
    let plans : c.in-Ok.d.plans ≡ plan.Tree tree.0 ∷ plan.Stamp ∷ [] = ap (λ (d : Deployed). d.plans) is ∙ tree.1 in
    (ap (λ (d : Deployed). d.sites) is, items, first_kill c.in-Ok.d tree.0 plans tree.2)
