use Rattle.sat_finish.proofs.Journaled.{whole-is}
use Rattle.sat_finish.proofs.find.whole.Goals as goal

pub returns : goal.returns
returns g c =
    whole-is g.N.Laid.deployment c.args.hubs.now c.args.gears.now c.args.serials.now c.args.sessions.now c.in_ok-journal.journal c.parts_noting.ensures.runs c.parts_noting.ensures.states
    c.requires.limits c.requires.opened c.in_ok-check_sessions.ensures c.requires.notes c.requires.parts c.in_ok-journal.ensures
