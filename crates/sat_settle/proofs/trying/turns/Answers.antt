use Rattle.std.proofs.Common.{◌<◌, ◌^◌, arith, refl}
use Rattle.sat_settle.proofs.Until.{spends-until}
use Rattle.sat_settle.proofs.trying.turns.Goals as goal

pub returns-clause-until : goal.returns-clause-until
returns-clause-until c =
    let few : c.turns.result < 2 ^ 64 = omega arith in
    spends-until _ _ _ _ c.requires refl c.turns.ensures.spends few
