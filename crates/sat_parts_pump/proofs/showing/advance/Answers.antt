use Rattle.std.proofs.Common.{◌∙◌, ap, subst, sym}
use Rattle.sat_node.specs.Links.{IsLocal}
use Rattle.sat_parts.specs.Acts.{HubActSeen}
use Rattle.sat_parts.specs.Hubs.{hub_meaning}
use Rattle.sat_parts.specs.HubSteps.{hub_takes}
use Rattle.sat_parts.specs.declared.hub_input.HubInput.TheVariants as hub
use Rattle.sat_parts_passes.proofs.Sent.{would_fit}
use Rattle.sat_parts_pump.proofs.Shown.{advance_local, advanced_is}
use Rattle.sat_parts_pump.proofs.Ticking.{fails_old, same_old}
use Rattle.sat_parts_pump.proofs.showing.advance.Goals as goal

pub act-requires-clause-fits : goal.act-requires-clause-fits
act-requires-clause-fits g c = ap (λ (a : HubActSeen). hub_takes c.args.held.now.node.machine a.input) c.of_hub-input.ensures ∙ would_fit c.args.held.now.node.machine hub.Advance c.requires.would

pub act-requires-clause-local : goal.act-requires-clause-local
act-requires-clause-local g c =
    subst (λ (x : HubActSeen). IsLocal (hub_meaning g.N.Laid.deployment) c.args.held.now.node x) (sym c.of_hub-input.ensures)
    (advance_local g.N.Laid.deployment c.args.held.now c.sound.ensures.steps c.sound.ensures.deployment c.sound.ensures.hub c.sound.ensures.times c.sound.ensures.stands c.requires.would)

pub returns-clause-done : goal.returns-clause-done
returns-clause-done g c =
    advanced_is g.N.Laid.deployment c.args.held.now c.sound.ensures.steps c.sound.ensures.deployment c.sound.ensures.hub c.sound.ensures.times c.sound.ensures.stands c.requires.would c.act.new.self c.act.result _ _ c.of_hub-input.ensures
    c.act.ensures.takes c.act.ensures.answer c.act.ensures.outs c.act.ensures.ins

pub returns-clause-err : goal.returns-clause-err
returns-clause-err g c = same_old c.act.result _ c.args.held.now c.act.new.self _ c.act.ensures.takes c.act.ensures.outs c.act.ensures.ins

pub returns-clause-fault : goal.returns-clause-fault
returns-clause-fault g c = fails_old c.act.result _ c.args.held.now c.act.new.self _ c.act.ensures.takes
