use Rattle.std.proofs.Common.{◌%◌, Some, sym, ◌∙◌}
use Rattle.sat_act.specs.declared.act.Act.TheVariants as act
use Rattle.sat_parts.specs.declared.gear_input.GearInput.TheVariants as gear
use Rattle.sat_parts.specs.Gears.{gear_meaning}
use Rattle.sat_parts_session.specs.Asked.{gear_asked, of_gear}
use Rattle.sat_parts_session.proofs.Asks.{asked_as, asks-read}
use Rattle.sat_parts_session.proofs.gear.read.Goals as goal

pub at_gear-requires : goal.at_gear-requires
at_gear-requires g c =
    let d = g.N.Laid.deployment in
    let x = c.args.session.now in
    let node = g.H.Lent.node_of c.args.held.now in
    asked_as d (gear_meaning d) of_gear x node (gear_asked (Some x.number) (gear.Read x.client.carried c.args.item)) c.of_client-input.result (act.Read x.number c.args.item) (act.Read c.number-client.result c.args.item) c.in-Ok.spare
    (sym (c.of_client-input.ensures ∙ (λ j. gear_asked (Some (c.number-client.ensures.number j)) (gear.Read (c.client.ensures.client j).carried c.args.item)))) (λ j. act.Read (sym c.number-client.ensures.number j) c.args.item)
    (asks-read d x node c.number-client.ensures.session c.requires.client c.in-Some.seat (c.args.item % c.gears.result) c.in-Some.ensures.1 c.in-Some.ensures.0 c.args.item c.in-Ok.spare c.in-Ok.ensures)
