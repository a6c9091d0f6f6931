use Rattle.std.proofs.Common.{sym}
use Rattle.sat_settle.proofs.Going.{on-err, makes-nothing}
use Rattle.sat_settle.proofs.Opened.{beats-none, beats-one, equal-sites, unequal-sites, makes-as, stops-as}
use Rattle.sat_settle.proofs.opening.beat_to.Goals as goal

pub returns-then-from-to-clause-ok : goal.returns-then-from-to-clause-ok
returns-then-from-to-clause-ok c = makes-nothing _ _ (λ h. beats-none _ _ _ h (equal-sites _ _ c.if-from-to.true))

pub returns-in_err-done-clause-err : goal.returns-in_err-done-clause-err
returns-in_err-done-clause-err c = on-err _ _ (stops-as _ _ _ _ (λ h. sym (beats-one _ _ _ h (unequal-sites _ _ c.if-from-to.false))) c.in_err-done.ensures.err)

pub returns-clause-ok : goal.returns-clause-ok
returns-clause-ok c = makes-as _ _ _ _ _ (λ h. sym (beats-one _ _ _ h (unequal-sites _ _ c.if-from-to.false))) c.in_ok-done.ensures.ok
