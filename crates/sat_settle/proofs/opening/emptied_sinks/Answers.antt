use Rattle.sat_act.specs.declared.entry.Entry.{Entry}
use Rattle.std.proofs.Common.{List}
use Rattle.sat_act.specs.Deployed.{Deployed}
use Rattle.sat_settle.specs.Openings.{gathered_all, emits_all}
use Rattle.sat_settle.proofs.Opened.{emits-extend, emptied-parts, makes-as, stops-as}
use Rattle.sat_settle.proofs.Going.{on-err, makes-then, stops-first, stops-then}
use Rattle.sat_settle.proofs.opening.emptied_sinks.Goals as goal

pub returns-in_err-first-clause-err : goal.returns-in_err-first-clause-err
returns-in_err-first-clause-err c = on-err _ _ (stops-as _ _ _ _ (λ h. emptied-parts _ h) (stops-first _ _ (λ (d : Deployed) (h : List Entry). gathered_all d h) (λ (d : Deployed) (h : List Entry). emits_all d h) emits-extend c.in_err-first.ensures.err))

pub returns-in_err-then-clause-err : goal.returns-in_err-then-clause-err
returns-in_err-then-clause-err c = on-err _ _ (stops-as _ _ _ _ (λ h. emptied-parts _ h) (stops-then _ _ _ (λ (d : Deployed) (h : List Entry). gathered_all d h) (λ (d : Deployed) (h : List Entry). emits_all d h) _ c.in_ok-first.ensures.deployment c.in_ok-first.ensures.ok c.in_err-then.ensures.err))

pub returns-clause-ok : goal.returns-clause-ok
returns-clause-ok c = makes-as _ _ _ _ _ (λ h. emptied-parts _ h) (makes-then _ _ _ (λ (d : Deployed) (h : List Entry). gathered_all d h) (λ (d : Deployed) (h : List Entry). emits_all d h) _ _ _ c.in_ok-first.ensures.deployment c.in_ok-first.ensures.ok c.in_ok-then.ensures.ok c.saturating_add.ensures)
