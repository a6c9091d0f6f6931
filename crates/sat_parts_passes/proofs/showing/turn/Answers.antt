use Rattle.sat_parts_passes.proofs.Shown.{turn_from}
use Rattle.sat_parts_passes.proofs.showing.turn.Goals as goal

pub show_all-requires-clause-from : goal.show_all-requires-clause-from
show_all-requires-clause-from g c =
    turn_from g.N.Laid.deployment c.args.hub.now c.args.link c.sound.ensures.steps c.sound.ensures.deployment c.sound.ensures.hub c.sound.ensures.times c.sound.ensures.stands c.requires.link
    c.front_label-front.result c.can_turn.result c.front_label-front.ensures c.can_turn.ensures c.if-not-can_turn.false
