use Rattle.std.proofs.Common.{rules, sym, ap, ◌∙◌, ◌++◌, ◌≡◌, ◌∷◌, map, take}
use Rattle.std.specs.Fmt.{decimal}
use Rattle.std.proofs.lemmas.List.{append_assoc}
use Rattle.sat_tree.specs.PlanLine.{spaced}
use Rattle.sat_tree.proofs.PlanLine.{spaced_more}
use Rattle.sat_script.proofs.write_lines.add_seats.Goals as goal

pub loop-site-preserved : goal.loop-site-preserved
loop-site-preserved c =
    let more = spaced_more decimal c.args.tree.now.seats c.loop-site.site c.seat.result (sym c.seat.ensures.seat) in
    let added : c.add_number.new.line.items ≡ c.loop-site.line.items ++ 32 ∷ decimal c.seat.result = search rules in
    added ∙ ap (λ bs. bs ++ 32 ∷ decimal c.seat.result) c.loop-site.invariant
    ∙ append_assoc c.args.line.now.items (spaced (map decimal (take c.loop-site.site c.args.tree.now.seats))) (32 ∷ decimal c.seat.result)
    ∙ ap (λ bs. c.args.line.now.items ++ bs) (sym more)
