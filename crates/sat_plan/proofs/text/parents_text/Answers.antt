use Rattle.std.proofs.Common.{rules, sym, ap, ◌∙◌, ◌++◌, ◌≡◌, ◌∷◌}
use Rattle.sat_tree.specs.PlanLine.{parent_text}
use Rattle.sat_tree.proofs.PlanLine.{spaced_more}
use Rattle.sat_plan.proofs.text.parents_text.Goals as goal

pub loop-z-preserved : goal.loop-z-preserved
loop-z-preserved c =
    let more = spaced_more parent_text c.args.tree.now.parents c.loop-z.z c.parent.result (sym c.parent.ensures.parent) in
    let added : c.add_word.new.text.items ≡ c.loop-z.text.items ++ 32 ∷ parent_text c.parent.result = search rules in
    added ∙ ap (λ bs. bs ++ 32 ∷ parent_text c.parent.result) c.loop-z.invariant ∙ sym more
