use Rattle.std.proofs.Common.{◌∙◌, map, ap}
use Rattle.sat_node.specs.Together.{lent}
use Rattle.sat_parts_passes.specs.Shows.{show_part}
use Rattle.sat_parts_passes.proofs.Shown.{shown_is, shows_sure}
use Rattle.sat_parts_passes.proofs.showing.keep.Goals as goal

pub take_some-requires-clause-parts : goal.take_some-requires-clause-parts
take_some-requires-clause-parts g c =
    let are = c.in-Ok.ensures ∙ ap (λ l. map (show_part c.args.by c.args.shown.now) (lent l)) c.as_slice.ensures.value in
    shows_sure g.N.Laid.deployment c.args.by c.args.shown.now (lent c.args.gears.now.items) c.in-Ok.parts.items c.part_inputs.ensures.parts are c.requires.take

pub returns-clause-done : goal.returns-clause-done
returns-clause-done g c =
    let are = c.in-Ok.ensures ∙ ap (λ l. map (show_part c.args.by c.args.shown.now) (lent l)) c.as_slice.ensures.value in
    shown_is g.N.Laid.deployment c.args.link c.args.by c.args.own.input c.args.hub.now c.take_some.new.home (lent c.args.gears.now.items) (lent c.take_some.new.others.items)
    c.sound.ensures.steps c.sound.ensures.deployment c.sound.ensures.hub c.sound.ensures.times c.sound.ensures.stands c.requires.showing c.requires.would
    c.args.shown.now c.of_hub.result c.in-Ok.parts.items c.take_some.result c.of_hub.ensures are c.requires.shown c.take_some.ensures.home c.take_some.ensures.others
