use Rattle.sat_settle.proofs.Bulking.{lane-none, lane-makes, lane-stops}
use Rattle.sat_settle.proofs.Going.{on-err, makes-nothing}
use Rattle.sat_settle.proofs.Opened.{equal-sites, unequal-sites}
use Rattle.sat_settle.proofs.Ranges.{within}
use Rattle.sat_settle.proofs.bulks.bulk_to.Goals as goal

pub returns-then-from-to-clause-ok : goal.returns-then-from-to-clause-ok
returns-then-from-to-clause-ok c = makes-nothing _ _ (λ h. lane-none _ _ _ _ h (equal-sites _ _ c.if-from-to.true))

pub returns-in_err-done-clause-err : goal.returns-in_err-done-clause-err
returns-in_err-done-clause-err c =
    on-err _ _ (lane-stops _ _ _ _ _ (within _ c.requires.limits) (record { from = c.requires.from; gear = c.requires.gear; to = c.requires.to; apart = unequal-sites _ _ c.if-from-to.false }) c.in_err-done.ensures.err)

pub returns-clause-ok : goal.returns-clause-ok
returns-clause-ok c =
    lane-makes _ _ _ _ _ _ (within _ c.requires.limits) (record { from = c.requires.from; gear = c.requires.gear; to = c.requires.to; apart = unequal-sites _ _ c.if-from-to.false }) c.in_ok-done.ensures.ok
