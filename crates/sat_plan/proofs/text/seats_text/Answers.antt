use Rattle.std.proofs.Common.{rules, sym, ap, ◌∙◌, ◌++◌, ◌≡◌, ◌∷◌}
use Rattle.std.specs.Fmt.{decimal}
use Rattle.sat_tree.proofs.PlanLine.{spaced_more}
use Rattle.sat_plan.proofs.text.seats_text.Goals as goal

pub loop-site-preserved : goal.loop-site-preserved
loop-site-preserved c =
    let more = spaced_more decimal c.args.tree.now.seats c.loop-site.site c.seat.result (sym c.seat.ensures.seat) in
    let added : c.add_word.new.text.items ≡ c.loop-site.text.items ++ 32 ∷ decimal c.seat.result = search rules in
    added ∙ ap (λ bs. bs ++ 32 ∷ decimal c.seat.result) c.loop-site.invariant ∙ sym more
