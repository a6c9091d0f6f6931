use Rattle.std.proofs.Common.{Some, None, sym, ◌∙◌}
use Rattle.sat_act.specs.declared.act.Act.TheVariants as act
use Rattle.sat_parts.specs.declared.gear_input.GearInput.TheVariants as gear
use Rattle.sat_parts.specs.Gears.{gear_meaning}
use Rattle.sat_parts_session.specs.Asked.{gear_asked, of_gear}
use Rattle.sat_opened.proofs.Numbers.{is-less}
use Rattle.sat_parts_session.proofs.Asks.{asked_as, asks-move}
use Rattle.sat_parts_session.proofs.gear.move_to.Goals as goal

pub at_gear-requires : goal.at_gear-requires
at_gear-requires g c =
    let d = g.N.Laid.deployment in
    let x = c.args.session.now in
    let node = g.H.Lent.node_of c.args.held.now in
    let seated = c.is_seated.ensures c.if-not-is_seated.false in
    asked_as d (gear_meaning d) of_gear x node (gear_asked (Some x.number) (gear.Move x.client.carried c.args.site)) c.of_client-input.result (act.Move x.number c.args.site) (act.Move c.number-client.result c.args.site) None
    (sym (c.of_client-input.ensures ∙ (λ j. gear_asked (Some (c.number-client.ensures.number j)) (gear.Move (c.client.ensures.client j).carried c.args.site)))) (λ j. act.Move (sym c.number-client.ensures.number j) c.args.site)
    (asks-move d x node c.number-client.ensures.session c.requires.client seated.0 0 seated.2 seated.1 c.args.site (is-less c.args.site d.sites c.requires.site))
