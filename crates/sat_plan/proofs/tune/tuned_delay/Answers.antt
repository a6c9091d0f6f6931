use Rattle.std.proofs.Common.{arith, ◌≡◌, ◌∙◌, ap, sym, map, slice_index}
use Rattle.sat_plan.specs.Config.{delayed}
use Rattle.sat_plan.specs.Drafts.{draft_config, term_of, terms_cost}
use Rattle.sat_plan.proofs.Legs.{routes_seated}
use Rattle.sat_plan.proofs.Tuned.{terms_few, ways_are, tuned_lower, tuned_stays}
use Rattle.sat_plan.proofs.tune.tuned_delay.Goals as goal

pub terms-requires-clause-seated : goal.terms-requires-clause-seated
terms-requires-clause-seated c = routes_seated _ _ _ _ c.requires.routes ∙ c.requires.fits.seats

pub terms-requires-clause-pairs : goal.terms-requires-clause-pairs
terms-requires-clause-pairs c = ways_are _ _ c.requires.pairs

pub best_delay-best-requires-clause-few : goal.best_delay-best-requires-clause-few
best_delay-best-requires-clause-few c = terms_few _ _ _ _ _ _ (c.deref.ensures.value ∙ c.in_ok-terms.ensures.terms) c.requires.pairs c.requires.limits.few_sites

pub terms_cost-requires-clause-few : goal.terms_cost-requires-clause-few
terms_cost-requires-clause-few c = terms_few _ _ _ _ _ _ (c.deref-2.ensures.value ∙ c.in_ok-terms.ensures.terms) c.requires.pairs c.requires.limits.few_sites

pub returns-then-best-terms_cost-clause-tuned : goal.returns-then-best-terms_cost-clause-tuned
returns-then-best-terms_cost-clause-tuned c =
    let own : c.terms_cost.result ≡ terms_cost c.deref.result.now (slice_index c.args.draft.now.delays.items c.args.edge) =
    c.terms_cost.ensures ∙ ap (λ terms. terms_cost terms (slice_index c.as_slice-delays.result.now c.args.edge)) (c.deref-2.ensures.value ∙ sym c.deref.ensures.value)
    ∙ ap (λ delays. terms_cost c.deref.result.now (slice_index delays c.args.edge)) c.as_slice-delays.ensures.value in
    tuned_lower c.args.d.now (draft_config c.args.draft.now) c.args.routes.now c.args.edge c.best_delay-best.result.delay c.best_delay-best.result.cost c.deref.result.now c.args.ways.now
    (c.deref.ensures.value ∙ c.in_ok-terms.ensures.terms ∙ ap (λ delays. map (term_of c.args.d.now c.args.routes.now delays c.args.edge) c.args.ways.now) c.as_slice-delays.ensures.value)
    c.requires.pairs c.requires.routes c.requires.fits c.requires.edge c.best_delay-best.ensures.least c.best_delay-best.ensures.bound c.best_delay-best.ensures.cost (omega arith)

pub returns-clause-tuned : goal.returns-clause-tuned
returns-clause-tuned c =
    let own : c.terms_cost.result ≡ terms_cost c.deref.result.now (slice_index c.args.draft.now.delays.items c.args.edge) =
    c.terms_cost.ensures ∙ ap (λ terms. terms_cost terms (slice_index c.as_slice-delays.result.now c.args.edge)) (c.deref-2.ensures.value ∙ sym c.deref.ensures.value)
    ∙ ap (λ delays. terms_cost c.deref.result.now (slice_index delays c.args.edge)) c.as_slice-delays.ensures.value in
    ap (λ delays. delayed (draft_config c.args.draft.now) c.args.edge (slice_index delays c.args.edge)) c.as_slice-delays.ensures.value
    ∙ tuned_stays c.args.d.now (draft_config c.args.draft.now) c.args.routes.now c.args.edge c.best_delay-best.result.delay c.best_delay-best.result.cost c.deref.result.now c.args.ways.now
    (c.deref.ensures.value ∙ c.in_ok-terms.ensures.terms ∙ ap (λ delays. map (term_of c.args.d.now c.args.routes.now delays c.args.edge) c.args.ways.now) c.as_slice-delays.ensures.value)
    c.requires.pairs c.requires.routes c.requires.fits c.requires.edge c.best_delay-best.ensures.least c.best_delay-best.ensures.bound c.best_delay-best.ensures.cost (omega arith)
