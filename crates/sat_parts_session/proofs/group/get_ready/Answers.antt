use Rattle.std.proofs.Common.{Some, ap, ◌∙◌, subst}
use Rattle.sat_gear.specs.Gear.{GearSeen}
use Rattle.sat_node.specs.Meanings.{replay}
use Rattle.sat_parts.specs.declared.gear_input.GearInput.TheVariants as gear
use Rattle.sat_parts.specs.Gears.{GearStands, gear_meaning}
use Rattle.sat_parts_session.specs.Asked.{gear_asked}
use Rattle.sat_parts_session.specs.Groups.{shown_under}
use Rattle.sat_parts_session.proofs.Together.{shows_label}
use Rattle.sat_parts_session.proofs.group.get_ready.Goals as goal

pub returns-clause-label : goal.returns-clause-label
returns-clause-label g c =
    let d = g.N.Laid.deployment in
    let node = c.args.home.now.node in
    let state = replay (gear_meaning d) node.name node.entries in
    let stands = subst (λ z. GearStands d z.name z.machine (replay (gear_meaning d) z.name z.entries)) c.node.ensures.node c.machine-machine.ensures.stands in
    let same = c.machine-machine.ensures.machine ∙ ap (λ z. z.machine) c.node.ensures.node in
    shows_label d node c.in-Some.seat c.args.session.now.number c.promise.result c.number.result c.client.result.now.carried c.args.items c.args.values.now c.in_ok-own.own.input c.in_ok-shown.shown c.next_label-label.result c.in_ok-parts.parts.items c.in-Some.ensures.home_is stands
    (c.promise.ensures.promise ∙ ap (λ (z : GearSeen). z.promise) (c.gear.ensures.gear ∙ same)) (c.number.ensures ∙ ap (λ (z : GearSeen). z.gear) same)
    (c.in_ok-own.ensures.0 ∙ ap (λ n. gear_asked (Some n) (gear.Write c.client.result.now.carried c.args.items c.args.values.now)) c.number-client.ensures.number)
    c.next_label-label.ensures (c.in_ok-shown.ensures ∙ ap (λ n. shown_under n c.args.values.now c.next_label-label.result) c.number-client.ensures.number) c.in_ok-parts.ensures.same
