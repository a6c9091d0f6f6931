use Rattle.std.proofs.Common.{◌+◌, None, Some, refl, sym, ap}
use Rattle.sat_act.specs.declared.act.Act.TheVariants as act
use Rattle.sat_model.specs.Reply.{gear_for}
use Rattle.sat_node.specs.Together.{lent}
use Rattle.sat_parts.specs.declared.gear_input.GearInput.TheVariants as gear
use Rattle.sat_parts.specs.Gears.{gear_meaning}
use Rattle.sat_parts_session.specs.Asked.{gear_asked, of_gear}
use Rattle.sat_parts_session.proofs.Asks.{asked_as, asks-write}
use Rattle.sat_parts_session.proofs.Together.{done_as, kept_beside, kept_none, wrote_err, wrote_ok}
use Rattle.sat_parts_session.proofs.group.write_above.Goals as goal

pub at_node_above-result-requires-clause-asks : goal.at_node_above-result-requires-clause-asks
at_node_above-result-requires-clause-asks g c =
    let d = g.N.Laid.deployment in
    let x = c.args.session.now in
    let node = c.args.home.now.node in
    let nodes = c.in-Ok.ensures.nodes in
    asked_as d (gear_meaning d) of_gear x node (gear_asked (Some x.number) (gear.Write x.client.carried c.args.items c.args.values.now)) c.in-Ok.made.own.input (act.Writes x.number c.args.items c.args.values.now) c.in-Ok.made.act None
    (sym c.in-Ok.ensures.own) (sym c.in-Ok.ensures.act)
    (asks-write d x node c.in-Ok.ensures.session c.requires.client nodes.0 (gear_for d c.args.items) nodes.1.home_is nodes.1.seated (act.Writes x.number c.args.items c.args.values.now) (record { client = x.number; items = c.args.items; values = c.args.values.now }) refl refl)

pub returns-clause-done : goal.returns-clause-done
returns-clause-done g c =
    done_as c.args.last c.args.home.now.node.number (act.Writes c.args.session.now.number c.args.items c.args.values.now) c.in-Ok.made.act (gear_asked (Some c.args.session.now.number) (gear.Write c.args.session.now.client.carried c.args.items c.args.values.now)) c.in-Ok.made.own.input of_gear c.at_node_above-result.result
    c.args.home.now.node c.at_node_above-result.new.held.node c.args.session.now c.at_node_above-result.new.self c.requires.home c.in-Ok.ensures.act c.in-Ok.ensures.own c.at_node_above-result.ensures.done

pub returns-clause-ends : goal.returns-clause-ends
returns-clause-ends g c = (ap (λ p. p.0) c.at_node_above-result.ensures.beside, ap (λ p. p.1) c.at_node_above-result.ensures.beside)

pub returns-clause-beside : goal.returns-clause-beside
returns-clause-beside g c =
    kept_beside g.N.Laid.deployment c.args.home.now.node c.in-Ok.made.own.input (c.args.last + 1) c.args.session.now.number c.args.values.now c.at_node_above-result.result c.is_wrote.result c.in-Ok.made.parts.items (lent c.args.others.now.items) (lent c.show_beside.new.others.items)
    c.in-Ok.ensures.label c.at_node_above-result.ensures.answer (wrote_ok c.at_node_above-result.result c.is_wrote.result c.is_wrote.ensures) c.show_beside.ensures

pub returns-clause-err : goal.returns-clause-err
returns-clause-err g c =
    kept_none g.N.Laid.deployment (c.args.last + 1) c.at_node_above-result.result c.is_wrote.result c.in-Ok.made.parts.items (lent c.args.others.now.items) (lent c.show_beside.new.others.items)
    (wrote_err c.at_node_above-result.result c.is_wrote.result c.is_wrote.ensures) c.show_beside.ensures
