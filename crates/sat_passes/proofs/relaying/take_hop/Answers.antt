use Rattle.std.proofs.Common.{sym, subst}
use Rattle.sat_node.specs.Links.{IsOf, front_at}
use Rattle.sat_machines.specs.declared.serial_act.SerialAct.{SerialAct}
use Rattle.sat_machines.specs.Serials.{serial_meaning}
use Rattle.sat_passes.proofs.Hops.{front_hop, hop_is_of, take_hops}
use Rattle.sat_passes.proofs.Faults.{take_fails}
use Rattle.sat_passes.proofs.relaying.take_hop.Goals as goal

pub handle-result-requires-clause-fits : goal.handle-result-requires-clause-fits
handle-result-requires-clause-fits g c =
    let x = front_hop g.N.Laid.deployment c.args.held.now.node.machine c.args.link (front_at c.args.held.now.ins c.args.link) c.args.hop c.requires.hop in
    x.2.fits

pub handle-result-requires-clause-front : goal.handle-result-requires-clause-front
handle-result-requires-clause-front g c =
    let d = g.N.Laid.deployment in
    let x = front_hop d c.args.held.now.node.machine c.args.link (front_at c.args.held.now.ins c.args.link) c.args.hop c.requires.hop in
    let of = hop_is_of d c.args.held.now.node c.args.link x.2.from x.2.label c.sound.ensures.stands c.requires.alive x.2.neighbour in (
      x.0,
      x.1,
      subst (λ (hop : SerialAct). IsOf (serial_meaning d) c.args.held.now.node c.args.link x.0.body hop) (sym x.2.hop_is)
          (rw x.2.body_is of),
    )

pub returns-clause-hops : goal.returns-clause-hops
returns-clause-hops g c =
    let d = g.N.Laid.deployment in
    let x = front_hop d c.args.held.now.node.machine c.args.link (front_at c.args.held.now.ins c.args.link) c.args.hop c.requires.hop in
    take_hops d c.handle-result.result _ c.args.hop _ c.args.held.now c.handle-result.new.self x.2.from x.2.label x.2.hop_is c.handle-result.ensures.takes c.sound.ensures.stands c.sound-2.ensures.stands c.handle-result.ensures.answer

pub returns-clause-fault : goal.returns-clause-fault
returns-clause-fault g c =
    let d = g.N.Laid.deployment in
    let x = front_hop d c.args.held.now.node.machine c.args.link (front_at c.args.held.now.ins c.args.link) c.args.hop c.requires.hop in
    take_fails (serial_meaning d) c.handle-result.result c.args.hop _ c.args.held.now c.handle-result.new.self c.args.link x.0 c.sound.ensures.tied x.1 c.handle-result.ensures.takes c.handle-result.ensures.err
