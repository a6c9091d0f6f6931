use Rattle.std.proofs.Common.{rules, sym, ap, ◌∙◌, ◌++◌, ◌≡◌, ◌∷◌, map, take}
use Rattle.std.proofs.lemmas.List.{append_assoc}
use Rattle.sat_tree.specs.PlanLine.{spaced, parent_text}
use Rattle.sat_tree.proofs.PlanLine.{spaced_more}
use Rattle.sat_script.proofs.write_lines.add_parents.Goals as goal

pub loop-z-preserved : goal.loop-z-preserved
loop-z-preserved c =
    let more = spaced_more parent_text c.args.tree.now.parents c.loop-z.z c.parent.result (sym c.parent.ensures.parent) in
    let added : c.add.new.line.items ≡ c.loop-z.line.items ++ 32 ∷ parent_text c.parent.result = search rules in
    added ∙ ap (λ bs. bs ++ 32 ∷ parent_text c.parent.result) c.loop-z.invariant
    ∙ append_assoc c.args.line.now.items (spaced (map parent_text (take c.loop-z.z c.args.tree.now.parents))) (32 ∷ parent_text c.parent.result)
    ∙ ap (λ bs. c.args.line.now.items ++ bs) (sym more)
