use Rattle.std.proofs.Common.{subst, sym}
use Rattle.sat_node.specs.Links.{IsLocal}
use Rattle.sat_parts.specs.Acts.{HubActSeen}
use Rattle.sat_parts.specs.Hubs.{hub_meaning}
use Rattle.sat_parts_passes.proofs.Sent.{act_fails, act_follows, act_sent, sending_local}
use Rattle.sat_parts_passes.proofs.sending.act.Goals as goal

pub act-result-requires-clause-local : goal.act-result-requires-clause-local
act-result-requires-clause-local g c =
    subst (λ (x : HubActSeen). IsLocal (hub_meaning g.N.Laid.deployment) c.args.held.now.node x) (sym c.of_hub.ensures)
    (sending_local g.N.Laid.deployment c.args.held.now c.args.input c.sound.ensures.steps c.sound.ensures.deployment c.sound.ensures.hub c.sound.ensures.times c.sound.ensures.stands c.requires.sending c.requires.done)

pub returns-clause-sent : goal.returns-clause-sent
returns-clause-sent g c =
    act_sent g.N.Laid.deployment c.args.held.now c.args.input c.sound.ensures.steps c.sound.ensures.deployment c.sound.ensures.hub c.sound.ensures.times c.sound.ensures.stands c.requires.sending c.requires.done
    c.act-result.result _ _ c.act-result.new.self _ c.of_hub.ensures c.act-result.ensures.takes c.act-result.ensures.answer

pub returns-clause-fault : goal.returns-clause-fault
returns-clause-fault g c = act_fails c.act-result.result _ c.args.held.now c.act-result.new.self _ c.act-result.ensures.takes

pub returns-clause-follows : goal.returns-clause-follows
returns-clause-follows g c =
    act_follows g.N.Laid.deployment c.args.held.now c.args.input c.sound.ensures.steps c.sound.ensures.deployment c.sound.ensures.hub c.sound.ensures.times c.sound.ensures.stands c.requires.sending c.requires.done
    c.act-result.result _ _ c.act-result.new.self _ c.of_hub.ensures c.sound-2.ensures.hub c.sound-2.ensures.times c.sound-2.ensures.stands c.act-result.ensures.takes c.act-result.ensures.answer
