use Rattle.std.proofs.Common.{◌≡◌, ◌∙◌, ◌+◌, ◌++◌, ◌∷◌, List, ap, sym, append_assoc, rules}
use Rattle.std.specs.List.{flat_map}
use Rattle.sat_label.specs.declared.node.NodeName.{NodeName}
use Rattle.sat_act.specs.declared.deployment.Plan.{Plan}
use Rattle.sat_machines.specs.Layout.{planted}
use Rattle.sat_opened.specs.Opened.{tree_names}
use Rattle.sat_parts_notes.specs.Naming.{plan_names}
use Rattle.sat_parts_notes.proofs.Loops.{planted-step}
use Rattle.sat_parts_notes.proofs.names.+add_trees.Goals as goal

pub returns : goal.returns
returns t c =
    let whole : c.args.plans.now ≡ c.in-Some.plan.now ∷ c.in-Some.rest.now = search rules in
    c.in_ok-add_trees.ensures
    ∙ (ap (λ (ns : List NodeName). ns ++ flat_map tree_names (planted (c.args.epoch + 1) c.in-Some.rest.now)) c.in_ok-add_plan.ensures
    ∙ (append_assoc c.args.names.now.items (plan_names c.args.epoch c.in-Some.plan.now) (flat_map tree_names (planted (c.args.epoch + 1) c.in-Some.rest.now))
    ∙ ap (λ (ns : List NodeName). c.args.names.now.items ++ ns) (sym (planted-step c.args.epoch c.in-Some.plan.now c.in-Some.rest.now) ∙ ap (λ (ps : List Plan). flat_map tree_names (planted c.args.epoch ps)) (sym whole))))
