use Rattle.std.proofs.Common.{List, ℕ, subst}
use Rattle.sat_top.specs.Placing.{IsPlaced}
use Rattle.sat_top.proofs.Placements.{place_at_end, place_output}
use Rattle.sat_top.proofs.output.place_wide.Goals as goal

pub returns-clause-output : goal.returns-clause-output
returns-clause-output g c =
    place_output (g.S.Source.left c.args.source.now) c.in_ok-text.text.items c.in_ok-output.output.text.items c.in_ok-output.output.status c.in_ok-text.ensures.text
    (subst (λ (bytes : List ℕ). IsPlaced bytes c.in_ok-output.output.text.items c.in_ok-output.output.status) c.deref.ensures.value c.in_ok-output.ensures)

pub returns-clause-end : goal.returns-clause-end
returns-clause-end g c =
    place_at_end c.in_ok-text.text.items c.in_ok-output.output.text.items c.in_ok-output.output.status _
    (subst (λ (bytes : List ℕ). IsPlaced bytes c.in_ok-output.output.text.items c.in_ok-output.output.status) c.deref.ensures.value c.in_ok-output.ensures)
    c.in_ok-text.ensures.end
