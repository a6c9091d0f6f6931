use Rattle.sat_act.specs.Deployed.{Deployed}
use Rattle.sat_settle.specs.Rounds.{bulked, later_round}
use Rattle.sat_settle.proofs.Bulking.{later-extends, round-parts}
use Rattle.sat_settle.proofs.Going.{makes-then, on-err, stops-first, stops-then}
use Rattle.sat_settle.proofs.Opened.{makes-as, stops-as}
use Rattle.sat_settle.proofs.settling.first_round.Goals as goal

pub returns-in_err-first-clause-err : goal.returns-in_err-first-clause-err
returns-in_err-first-clause-err c = on-err _ _ (stops-as _ _ _ _ (round-parts _) (stops-first _ _ (λ (d : Deployed). bulked d) (λ (d : Deployed). later_round d) later-extends c.in_err-first.ensures.err))

pub returns-in_err-then-clause-err : goal.returns-in_err-then-clause-err
returns-in_err-then-clause-err c =
    on-err _ _ (stops-as _ _ _ _ (round-parts _) (stops-then _ _ _ (λ (d : Deployed). bulked d) (λ (d : Deployed). later_round d) _ c.in_ok-first.ensures.deployment c.in_ok-first.ensures.ok c.in_err-then.ensures.err))

pub returns-clause-ok : goal.returns-clause-ok
returns-clause-ok c =
    makes-as _ _ _ _ _ (round-parts _)
    (makes-then _ _ _ (λ (d : Deployed). bulked d) (λ (d : Deployed). later_round d) _ _ _ c.in_ok-first.ensures.deployment c.in_ok-first.ensures.ok c.in_ok-then.ensures.ok c.saturating_add.ensures)
