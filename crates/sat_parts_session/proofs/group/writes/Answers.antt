use Rattle.std.proofs.Common.{None, Some, ap, ◌∙◌}
use Rattle.sat_act.specs.declared.act.Act.TheVariants as act
use Rattle.sat_node.specs.Together.{lent, top_of}
use Rattle.sat_node.proofs.Lent.{all_number, top_each, top_home}
use Rattle.sat_node.proofs.Together.{number_same}
use Rattle.sat_parts.specs.declared.gear_input.GearInput.TheVariants as gear
use Rattle.sat_parts_session.specs.Asked.{gear_asked, of_gear}
use Rattle.sat_parts_session.proofs.Together.{beside_from, done_from, gears_from, said_least, same_from}
use Rattle.sat_parts_session.proofs.group.writes.Goals as goal

pub write_above-requires-clause-said : goal.write_above-requires-clause-said
write_above-requires-clause-said g c = said_least c.args.session.now.lamport c.lamport-said.result c.in-Ok.last c.args.home.now (lent c.args.others.now.items) c.lamport-said.ensures.lamport c.in-Ok.ensures.number.0

pub write_above-requires-clause-home : goal.write_above-requires-clause-home
write_above-requires-clause-home g c =
    number_same c.args.home.now c.reserve_all.new.home c.in-Ok.last c.reserve_all.ensures.home (top_home c.lamport-said.result None c.args.home.now (lent c.args.others.now.items) c.in-Ok.last c.in-Ok.ensures.number.0)

pub write_above-requires-clause-number : goal.write_above-requires-clause-number
write_above-requires-clause-number g c =
    all_number c.in-Ok.last (lent c.args.others.now.items) (lent c.reserve_all.new.others.items) c.reserve_all.ensures.others (top_each c.lamport-said.result None c.args.home.now (lent c.args.others.now.items) c.in-Ok.last c.in-Ok.ensures.number.0)

pub returns-clause-nodes : goal.returns-clause-nodes
returns-clause-nodes g c =
    gears_from g.N.Laid.deployment c.args.session.now.client.seat c.args.items c.write_above.result c.args.home.now c.reserve_all.new.home (lent c.args.others.now.items) (lent c.reserve_all.new.others.items) c.reserve_all.ensures.home c.reserve_all.ensures.others c.write_above.ensures.nodes

pub returns-clause-done : goal.returns-clause-done
returns-clause-done g c =
    done_from c.in-Ok.last (top_of c.args.session.now.lamport None c.args.home.now (lent c.args.others.now.items)) (act.Writes c.args.session.now.number c.args.items c.args.values.now) (gear_asked (Some c.args.session.now.number) (gear.Write c.args.session.now.client.carried c.args.items c.args.values.now)) of_gear c.write_above.result
    c.args.home.now.node c.reserve_all.new.home.node c.write_above.new.home.node c.args.session.now c.write_above.new.session c.reserve_all.ensures.home.same
    (c.in-Ok.ensures.number.0 ∙ ap (λ n. top_of n None c.args.home.now (lent c.args.others.now.items)) c.lamport-said.ensures.lamport) c.write_above.ensures.done

pub returns-clause-ends : goal.returns-clause-ends
returns-clause-ends g c = (c.write_above.ensures.ends.0 ∙ c.reserve_all.ensures.home.outs_are, c.write_above.ensures.ends.1 ∙ c.reserve_all.ensures.home.ins_are)

pub returns-clause-beside : goal.returns-clause-beside
returns-clause-beside g c =
    beside_from g.N.Laid.deployment c.in-Ok.last (top_of c.args.session.now.lamport None c.args.home.now (lent c.args.others.now.items)) c.args.session.now.number c.args.values.now c.write_above.result (lent c.args.others.now.items) (lent c.reserve_all.new.others.items) (lent c.write_above.new.others.items)
    (c.in-Ok.ensures.number.0 ∙ ap (λ n. top_of n None c.args.home.now (lent c.args.others.now.items)) c.lamport-said.ensures.lamport) c.reserve_all.ensures.others c.write_above.ensures.beside

pub returns-clause-err : goal.returns-clause-err
returns-clause-err g c = same_from c.write_above.result (lent c.args.others.now.items) (lent c.reserve_all.new.others.items) (lent c.write_above.new.others.items) c.reserve_all.ensures.others c.write_above.ensures.err
