use Rattle.sat_act.specs.declared.entry.Entry.{Entry}
use Rattle.std.proofs.Common.{List}
use Rattle.sat_act.specs.Deployed.{Deployed}
use Rattle.sat_act.specs.Settling.{emptied}
use Rattle.sat_settle.specs.Openings.{pulses_all}
use Rattle.sat_settle.proofs.Opened.{pulses-extend}
use Rattle.sat_settle.proofs.Going.{on-err, makes-then, stops-first, stops-then}
use Rattle.sat_settle.proofs.opening.pulsed.Goals as goal

pub returns-in_err-first-clause-err : goal.returns-in_err-first-clause-err
returns-in_err-first-clause-err c = on-err _ _ ((stops-first _ _ (λ (d : Deployed) (h : List Entry). emptied d h) (λ (d : Deployed) (h : List Entry). pulses_all d h) pulses-extend c.in_err-first.ensures.err))

pub returns-in_err-then-clause-err : goal.returns-in_err-then-clause-err
returns-in_err-then-clause-err c = on-err _ _ ((stops-then _ _ _ (λ (d : Deployed) (h : List Entry). emptied d h) (λ (d : Deployed) (h : List Entry). pulses_all d h) _ c.in_ok-first.ensures.deployment c.in_ok-first.ensures.ok c.in_err-then.ensures.err))

pub returns-clause-ok : goal.returns-clause-ok
returns-clause-ok c = makes-then _ _ _ (λ (d : Deployed) (h : List Entry). emptied d h) (λ (d : Deployed) (h : List Entry). pulses_all d h) _ _ _ c.in_ok-first.ensures.deployment c.in_ok-first.ensures.ok c.in_ok-then.ensures.ok c.saturating_add.ensures
