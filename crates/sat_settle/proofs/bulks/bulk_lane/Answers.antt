use Rattle.std.proofs.Common.{◌<◌, ◌^◌, arith, refl}
use Rattle.sat_settle.proofs.Going.{on-err}
use Rattle.sat_settle.proofs.Until.{again-stops, spends-until}
use Rattle.sat_settle.proofs.bulks.bulk_lane.Goals as goal

pub returns-in_err-done-clause-err : goal.returns-in_err-done-clause-err
returns-in_err-done-clause-err c = on-err _ _ (again-stops _ _ _ _ c.requires refl c.in_err-done.ensures.err.1)

pub returns-clause-ok : goal.returns-clause-ok
returns-clause-ok c =
    let few : c.in_ok-done.done < 2 ^ 64 = omega arith in
    spends-until _ _ _ _ c.requires refl c.in_ok-done.ensures.ok few
