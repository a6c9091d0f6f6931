use Rattle.std.proofs.Common.{◌∙◌, ap, sym, subst}
use Rattle.sat_plan.specs.Config.{config_of, Fits}
use Rattle.sat_plan.specs.Mismatch.{mismatch}
use Rattle.sat_plan.specs.Drafts.{draft_config}
use Rattle.sat_plan.proofs.Passes.{built_is, built_best}
use Rattle.sat_plan.proofs.building.build.Goals as goal

pub returns-clause-steps : goal.returns-clause-steps
returns-clause-steps c =
    ap (config_of c.in_ok-draft.draft.tree c.in_ok-places.places) (c.in_ok-delays.ensures ∙ c.deref-2.ensures.value)
    ∙ ap (λ places. config_of c.in_ok-draft.draft.tree places c.in_ok-draft.draft.delays.items) (c.in_ok-places.ensures ∙ c.deref.ensures.value)
    ∙ built_is c.args.d.now (draft_config c.in_ok-grown.field-0) (draft_config c.in_ok-draft.draft) c.in_ok-grown.ensures.grown c.in_ok-draft.ensures.settled

pub returns-clause-mismatch : goal.returns-clause-mismatch
returns-clause-mismatch c =
    c.in_ok-mismatch.ensures ∙ ap (mismatch c.args.d.now) (built_is c.args.d.now (draft_config c.in_ok-grown.field-0) (draft_config c.in_ok-draft.draft) c.in_ok-grown.ensures.grown c.in_ok-draft.ensures.settled)

pub returns-clause-settled : goal.returns-clause-settled
returns-clause-settled c =
    built_best c.args.d.now (draft_config c.in_ok-grown.field-0) (draft_config c.in_ok-draft.draft) c.in_ok-mismatch.mismatch c.in_ok-grown.ensures.grown c.in_ok-draft.ensures.settled c.in_ok-draft.ensures.last c.settle.ensures.limits c.in_ok-draft.ensures.fits c.in_ok-mismatch.ensures

pub returns-clause-fits : goal.returns-clause-fits
returns-clause-fits c =
    subst (Fits c.args.d.now)
    (sym (ap (config_of c.in_ok-draft.draft.tree c.in_ok-places.places) (c.in_ok-delays.ensures ∙ c.deref-2.ensures.value)
    ∙ ap (λ places. config_of c.in_ok-draft.draft.tree places c.in_ok-draft.draft.delays.items) (c.in_ok-places.ensures ∙ c.deref.ensures.value)))
    c.in_ok-draft.ensures.fits
