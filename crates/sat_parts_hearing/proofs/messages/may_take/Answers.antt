use Rattle.sat_parts_hearing.proofs.Fits.{takes_then}
use Rattle.sat_parts_hearing.proofs.messages.may_take.Goals as goal

pub returns-clause-state : goal.returns-clause-state
returns-clause-state g c =
    let s = c.sound.ensures in
    let n = c.args.held.now.node in
    takes_then g.N.Laid.deployment n.name n.machine n.entries c.args.act.now.input _ c.fits.ensures s.fits s.deployment s.hub s.times s.stands c.requires.heard
