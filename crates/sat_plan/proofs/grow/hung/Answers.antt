use Rattle.std.proofs.Common.{sym, subst, ◌∙◌, ◌++◌, ◌∷◌, [], ap}
use Rattle.sat_plan.specs.Config.{Fits}
use Rattle.sat_plan.specs.Steps.{nearest_seats}
use Rattle.sat_plan.specs.Drafts.{draft_config}
use Rattle.sat_plan.proofs.Grown.{small_from, hung_from, hung_fits}
use Rattle.sat_plan.proofs.grow.hung.Goals as goal

pub tree_of-requires : goal.tree_of-requires
tree_of-requires c =
    small_from c.args.d.now (draft_config c.args.draft.now) c.args.parent c.args.place _ _ c.in_ok-places.places.items
    (c.deref-3.ensures.value ∙ c.in_ok-parents.ensures.parents)
    (c.deref-4.ensures.value ∙ c.in_ok-seats.ensures.seats ∙ ap (nearest_seats c.args.d.now) c.deref-2.ensures.value)
    (c.in_ok-places.ensures ∙ ap (λ xs. xs ++ c.args.place ∷ []) c.deref.ensures.value)
    c.nearest_seats.ensures.limits c.parents_with.ensures.small c.requires.fits.one_each c.requires.room c.requires.parent

pub returns-clause-hung : goal.returns-clause-hung
returns-clause-hung c =
    hung_from c.args.d.now (draft_config c.args.draft.now) (draft_config c.in_ok-next.next) c.args.parent c.args.place c.in_ok-tree.tree _ _ c.in_ok-places.places.items
    c.in_ok-next.ensures c.in_ok-tree.ensures (c.deref-3.ensures.value ∙ c.in_ok-parents.ensures.parents)
    (c.deref-4.ensures.value ∙ c.in_ok-seats.ensures.seats ∙ ap (nearest_seats c.args.d.now) c.deref-2.ensures.value)
    (c.in_ok-places.ensures ∙ ap (λ xs. xs ++ c.args.place ∷ []) c.deref.ensures.value)

pub returns-clause-fits : goal.returns-clause-fits
returns-clause-fits c = subst (Fits c.args.d.now) (sym (returns-clause-hung c)) (hung_fits c.args.d.now (draft_config c.args.draft.now) c.args.parent c.args.place c.requires.fits c.requires.place)
