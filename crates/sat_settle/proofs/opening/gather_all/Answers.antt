use Rattle.std.proofs.Common.{◌≡◌, ◌<◌, ℕ, ap, ◌∙◌, arith}
use Rattle.sat_act.specs.declared.act.Act.TheVariants as act
use Rattle.sat_act.specs.Deployed.{Deployed}
use Rattle.sat_act.specs.Settling.{gather_at}
use Rattle.sat_settle.proofs.Extending.{tried-extends}
use Rattle.sat_settle.proofs.Going.{on-err, stops-at-once}
use Rattle.sat_settle.proofs.Loops.{sites-none, sites-more, sites-stop, sites-end}
use Rattle.sat_settle.proofs.opening.gather_all.Goals as goal

pub loop-site-init : goal.loop-site-init
loop-site-init c = sites-none (λ (d : Deployed) (i : ℕ). gather_at d i) _

pub returns-in_err-more-clause-err : goal.returns-in_err-more-clause-err
returns-in_err-more-clause-err c =
    let l : c.loop-site.site < c.sites-sites.result = omega arith in
    on-err _ _ (sites-stop (λ (d : Deployed) (i : ℕ). gather_at d i) _ _ _ _ _ _ (λ d i h. tried-extends d (act.Gather i) h) (c.sites-sites.ensures.sites ∙ ap (λ (d : Deployed). d.sites) c.deployment.ensures) l c.loop-site.invariant
    (stops-at-once _ _ _ (λ h. tried-extends _ (act.Gather _) h) c.in_err-more.ensures.err))

pub loop-site-preserved : goal.loop-site-preserved
loop-site-preserved c =
    let l : c.loop-site.site < c.sites-sites.result = omega arith in
    sites-more (λ (d : Deployed) (i : ℕ). gather_at d i) _ _ _ _ _ _ _ c.loop-site.invariant c.in_ok-more.ensures.deployment
    c.in_ok-more.ensures.ok c.saturating_add-done.ensures

pub returns-clause-ok : goal.returns-clause-ok
returns-clause-ok c =
    let l : c.loop-site.site ≡ c.sites-sites.result = omega arith in
    sites-end (λ (d : Deployed) (i : ℕ). gather_at d i) _ _ _ _ _ (c.sites-sites.ensures.sites ∙ ap (λ (d : Deployed). d.sites) c.deployment.ensures) l c.loop-site.invariant
