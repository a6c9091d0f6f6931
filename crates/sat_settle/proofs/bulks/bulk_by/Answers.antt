use Rattle.std.proofs.Common.{◌≡◌, ◌<◌, ℕ, ap, ◌∙◌, arith}
use Rattle.sat_act.specs.Deployed.{Deployed}
use Rattle.sat_settle.specs.Rounds.{bulks_to}
use Rattle.sat_settle.proofs.Bulking.{to-extends}
use Rattle.sat_settle.proofs.Going.{on-err}
use Rattle.sat_settle.proofs.Loops.{sites-none, sites-more, count-stop, count-end}
use Rattle.sat_settle.proofs.bulks.bulk_by.Goals as goal

pub loop-site-init : goal.loop-site-init
loop-site-init c = sites-none (λ (d : Deployed) (i : ℕ). bulks_to d c.args.from c.args.gear i) _

pub returns-in_err-more-clause-err : goal.returns-in_err-more-clause-err
returns-in_err-more-clause-err c =
    let l : c.loop-site.site < c.sites-sites.result = omega arith in
    on-err _ _ (count-stop (λ (d : Deployed). d.sites) (λ (d : Deployed) (i : ℕ). bulks_to d c.args.from c.args.gear i) _ _ _ _ _ _ (λ d i h. to-extends d c.args.from c.args.gear i h) (c.sites-sites.ensures.sites ∙ ap (λ (d : Deployed). d.sites) c.deployment.ensures) l
    c.loop-site.invariant c.in_err-more.ensures.err)

pub loop-site-preserved : goal.loop-site-preserved
loop-site-preserved c = sites-more (λ (d : Deployed) (i : ℕ). bulks_to d c.args.from c.args.gear i) _ _ _ _ _ _ _ c.loop-site.invariant c.in_ok-more.ensures.deployment c.in_ok-more.ensures.ok c.saturating_add-done.ensures

pub returns-clause-ok : goal.returns-clause-ok
returns-clause-ok c =
    let l : c.loop-site.site ≡ c.sites-sites.result = omega arith in
    count-end (λ (d : Deployed). d.sites) (λ (d : Deployed) (i : ℕ). bulks_to d c.args.from c.args.gear i) _ _ _ _ _ (c.sites-sites.ensures.sites ∙ ap (λ (d : Deployed). d.sites) c.deployment.ensures) l c.loop-site.invariant
