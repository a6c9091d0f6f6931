use Rattle.sat_parts_passes.proofs.Shown.{stamp_local}
use Rattle.sat_parts_passes.proofs.showing.stamp.Goals as goal

pub show_all-requires-clause-from : goal.show_all-requires-clause-from
show_all-requires-clause-from g c =
    stamp_local g.N.Laid.deployment c.args.hub.now c.can_stamp.result c.sound.ensures.steps c.sound.ensures.deployment c.sound.ensures.hub c.sound.ensures.times c.sound.ensures.stands c.can_stamp.ensures c.if-not-can_stamp.false
