use Rattle.std.proofs.Common.{◌≡◌, ◌∙◌, Some, ap, sym, subst}
use Rattle.sat_laws.proofs.Labels.{some_is}
use Rattle.sat_node.specs.declared.kept.Body.{Body}
use Rattle.sat_node.specs.declared.kept.Body.TheVariants as body
use Rattle.sat_node.specs.declared.kept.Envelope.{Envelope}
use Rattle.sat_node.specs.Links.{IsOf}
use Rattle.sat_machines.specs.declared.serial_act.SerialAct.{SerialAct}
use Rattle.sat_machines.specs.Serials.{serial_meaning}
use Rattle.sat_passes.proofs.Hops.{front_hop, hop_is_of}
use Rattle.sat_host.proofs.serial.take_hop.Goals as goal

pub handle-requires-clause-fits : goal.handle-requires-clause-fits
handle-requires-clause-fits g c =
    let x = front_hop g.N.Laid.deployment c.args.host.now.node.machine c.args.link (Some c.args.message.now.sent) c.args.hop c.requires.hop in
    x.2.fits

pub handle-requires-clause-carries : goal.handle-requires-clause-carries
handle-requires-clause-carries g c =
    let d = g.N.Laid.deployment in
    let x = front_hop d c.args.host.now.node.machine c.args.link (Some c.args.message.now.sent) c.args.hop c.requires.hop in
    let of = hop_is_of d c.args.host.now.node c.args.link x.2.from x.2.label c.sound.ensures c.requires.alive x.2.neighbour in
    let same : c.args.message.now.sent.body ≡ body.Label x.2.label = ap (λ (e : Envelope). e.body) (some_is c.args.message.now.sent x.0 x.1) ∙ x.2.body_is in
    subst (λ (b : Body). IsOf (serial_meaning d) c.args.host.now.node c.args.link b c.args.hop) (sym same)
    (subst (λ (hop : SerialAct). IsOf (serial_meaning d) c.args.host.now.node c.args.link (body.Label x.2.label) hop) (sym x.2.hop_is) of)
