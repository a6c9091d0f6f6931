use Rattle.std.specs.Prelude.{Bool, Option, Some, is_none}
use Rattle.std.proofs.Common.{sym, ap, subst, ◌∙◌, List, ℕ}
use Rattle.sat_beat.specs.declared.Beat.{Beat}
use Rattle.sat_beat.specs.Beats.{TakenBeats, is_old, refreshed}
use Rattle.sat_beat.specs.Rising.{CountsRise, RisesOn}
use Rattle.sat_beat.proofs.Passed.{moved_new}
use Rattle.sat_beat.proofs.Rising.{placed_kept}
use Rattle.sat_beat.proofs.taken.Taken.take.Goals as goal

pub invariant_of-self-2 : goal.invariant_of-self-2
invariant_of-self-2 c =
    placed_kept c.args.fronts.now _ _ _ c.args.number c.args.beat c.self.inside.rising _ c.self.invariant
    (ap (λ (t : TakenBeats). is_old (refreshed c.args.fronts.now t).best c.args.number) c.self.view_is ∙ (sym (c.newest-newest.ensures.old c.args.number) ∙ sym c.if-is_old.ensures))
    c.in_ok-insert.ensures.ok c.goes_on-rising.ensures.rising c.goes_on-rising.ensures.below
    (λ b. subst (λ (t : TakenBeats). RisesOn t.later c.args.number c.args.beat) (sym c.self.view_is)
    (c.rises_on.ensures.above (subst (λ (t : TakenBeats). CountsRise t.later) c.self.view_is (c.self.invariant.rises (c.goes_on-rising.ensures.rising b)))
    (c.in-Some.is ∙ ap (λ (u : Bool). Some u) (c.goes_on-rising.ensures.above b))))

pub returns-clause-new : goal.returns-clause-new
returns-clause-new c =
    c.forward-2.ensures
    ∙ moved_new c.args.fronts.now _ c.args.self.now _ c.args.number c.args.beat _ _ c.self.invariant.taken c.self.view_is
    (sym (c.newest-newest.ensures.old c.args.number) ∙ sym c.if-is_old.ensures)
    (sym c.rises_on.ensures.has ∙ ap (λ (o : Option Bool). is_none o) c.in-Some.is)
    (ap (λ (later : List (ℕ × Beat)). record { best = c.self.inside.best; later = later }) c.in_ok-insert.ensures.ok)
    c.newest-newest.ensures.number c.newest_with-newest.ensures
