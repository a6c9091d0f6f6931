use Rattle.std.proofs.Common.{subst, sym}
use Rattle.sat_node.specs.Links.{IsLocal}
use Rattle.sat_parts.specs.Acts.{GearActSeen}
use Rattle.sat_parts.specs.GearSteps.{gear_takes}
use Rattle.sat_parts.specs.Gears.{gear_meaning}
use Rattle.std.proofs.Common.{◌≡◌, true, ap, ◌∙◌}
use Rattle.sat_parts_pump.proofs.Ticking.{fails_old, number_old, same_old, tick_local, tick_takes, ticked_is, ticked_up, worn_old}
use Rattle.sat_parts_pump.proofs.keeping.raise.Goals as goal

pub act-result-requires-clause-fits : goal.act-result-requires-clause-fits
act-result-requires-clause-fits g c = ap (λ (a : GearActSeen). gear_takes c.args.gear.now.node.machine a.input) c.of_gear-input.ensures ∙ tick_takes c.args.gear.now.node.machine c.args.ts c.requires.ts

pub act-result-requires-clause-local : goal.act-result-requires-clause-local
act-result-requires-clause-local g c =
    subst (λ (x : GearActSeen). IsLocal (gear_meaning g.N.Laid.deployment) c.args.gear.now.node x) (sym c.of_gear-input.ensures) (tick_local g.N.Laid.deployment c.args.gear.now.node c.args.ts)

pub returns-clause-done : goal.returns-clause-done
returns-clause-done g c =
    ticked_is g.N.Laid.deployment c.args.gear.now c.act-result.new.self c.args.ts c.gear_sound.ensures.stands c.requires.below c.act-result.result _ _ c.of_gear-input.ensures c.act-result.ensures.takes c.act-result.ensures.answer
    c.act-result.ensures.outs c.act-result.ensures.ins

pub returns-clause-up : goal.returns-clause-up
returns-clause-up g c =
    ticked_up g.N.Laid.deployment c.args.gear.now c.act-result.new.self c.args.ts c.gear_sound.ensures.stands c.requires.below c.act-result.result _ _ c.of_gear-input.ensures c.gear_sound-2.ensures.stands c.act-result.ensures.takes
    c.act-result.ensures.answer

pub returns-clause-number : goal.returns-clause-number
returns-clause-number g c = number_old c.act-result.result _ c.args.gear.now c.act-result.new.self _ c.act-result.ensures.takes

pub returns-clause-err : goal.returns-clause-err
returns-clause-err g c = same_old c.act-result.result _ c.args.gear.now c.act-result.new.self _ c.act-result.ensures.takes c.act-result.ensures.outs c.act-result.ensures.ins

pub returns-clause-worn : goal.returns-clause-worn
returns-clause-worn g c = worn_old c.act-result.result _ c.args.gear.now c.act-result.new.self _ c.act-result.ensures.takes

pub returns-clause-fault : goal.returns-clause-fault
returns-clause-fault g c = fails_old c.act-result.result _ c.args.gear.now c.act-result.new.self _ c.act-result.ensures.takes
