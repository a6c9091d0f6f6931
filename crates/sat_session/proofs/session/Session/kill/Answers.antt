use Rattle.std.proofs.Common.{None, sym, ap, ◌∙◌}
use Rattle.sat_label.specs.declared.node.NodeName.TheVariants as named
use Rattle.sat_act.specs.declared.act.Act.TheVariants as act
use Rattle.sat_machines.specs.Serials.{serial_meaning}
use Rattle.sat_machines.specs.declared.serial_act.SerialAct.TheVariants as serial
use Rattle.sat_session.specs.Calls.{of_serial}
use Rattle.sat_session.proofs.Asking.{asks-kill, same-name}
use Rattle.sat_session.proofs.Doing.{above, node_kept}
use Rattle.sat_session.proofs.session.Session.kill.Goals as goal

pub invariant_of-self-in-Ok : goal.invariant_of-self-in-Ok
invariant_of-self-in-Ok g c =
    let at = same-name (g.H.Lent.node_of c.args.held.now).name (named.Serializer c.args.epoch c.args.serializer) (sym c.is_at.ensures ∙ c.if-not-is_at.false) in
    node_kept g.N.Laid.deployment (serial_meaning g.N.Laid.deployment) of_serial c.args.self.now (g.H.Lent.node_of c.args.held.now) serial.Kill (act.Kill c.args.epoch c.args.serializer) None c.in-Ok.given (record { number = c.self.inside.number; client = c.self.inside.client; lamport = c.self.inside.lamport; noted = c.self.inside.noted.items }) c.self.view_is
    (asks-kill g.N.Laid.deployment c.args.self.now (g.H.Lent.node_of c.args.held.now) c.args.epoch c.args.serializer c.requires at) c.in-Ok.ensures.answer
    c.lamport-lamport.result (named.Serializer c.args.epoch c.args.serializer) c.keep.new.client c.reserve.new.self.items c.keep.new.noted.items c.self.invariant
    (above (g.H.Lent.node_of c.args.held.now).number c.self.inside.lamport c.lamport-lamport.result (c.lamport-lamport.ensures.number ∙ (ap (λ z. z.number) c.node.ensures.node ∙ c.in-Ok.ensures.takes.number))) (sym at) c.reserve.ensures.items c.keep.ensures.noted c.keep.ensures.client
