use Rattle.std.proofs.Common.{◌≡◌, ◌<◌, ℕ, ap, ◌∙◌, arith}
use Rattle.sat_act.specs.Deployed.{Deployed}
use Rattle.sat_settle.specs.Rounds.{bulks_by}
use Rattle.sat_settle.proofs.Bulking.{by-extends}
use Rattle.sat_settle.proofs.Going.{on-err}
use Rattle.sat_settle.proofs.Loops.{sites-none, sites-more, count-stop, count-end}
use Rattle.sat_settle.proofs.bulks.bulk_out.Goals as goal

pub loop-gear-init : goal.loop-gear-init
loop-gear-init c = sites-none (λ (d : Deployed) (i : ℕ). bulks_by d c.args.from i) _

pub returns-in_err-more-clause-err : goal.returns-in_err-more-clause-err
returns-in_err-more-clause-err c =
    let l : c.loop-gear.gear < c.gears-gears.result = omega arith in
    on-err _ _ (count-stop (λ (d : Deployed). d.gears) (λ (d : Deployed) (i : ℕ). bulks_by d c.args.from i) _ _ _ _ _ _ (λ d i h. by-extends d c.args.from i h) (c.gears-gears.ensures.gears ∙ ap (λ (d : Deployed). d.gears) c.deployment.ensures) l
    c.loop-gear.invariant c.in_err-more.ensures.err)

pub loop-gear-preserved : goal.loop-gear-preserved
loop-gear-preserved c = sites-more (λ (d : Deployed) (i : ℕ). bulks_by d c.args.from i) _ _ _ _ _ _ _ c.loop-gear.invariant c.in_ok-more.ensures.deployment c.in_ok-more.ensures.ok c.saturating_add-done.ensures

pub returns-clause-ok : goal.returns-clause-ok
returns-clause-ok c =
    let l : c.loop-gear.gear ≡ c.gears-gears.result = omega arith in
    count-end (λ (d : Deployed). d.gears) (λ (d : Deployed) (i : ℕ). bulks_by d c.args.from i) _ _ _ _ _ (c.gears-gears.ensures.gears ∙ ap (λ (d : Deployed). d.gears) c.deployment.ensures) l c.loop-gear.invariant
