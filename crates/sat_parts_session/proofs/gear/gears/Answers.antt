use Rattle.std.proofs.Common.{◌<◌, ap, ◌∙◌, subst, sym}
use Rattle.sat_sites.specs.declared.shape.Shape.{Shape}
use Rattle.sat_gear.specs.Gear.{GearSeen}
use Rattle.sat_node.specs.Meanings.{replay}
use Rattle.sat_parts.specs.Gears.{GearStands, gear_meaning}
use Rattle.sat_parts_session.proofs.Looks.{stands_shape}
use Rattle.sat_parts_session.proofs.gear.gears.Goals as goal

pub returns-clause-count : goal.returns-clause-count
returns-clause-count g c =
    let d = g.N.Laid.deployment in
    let node = g.H.Lent.node_of c.args.held.now in
    let state = replay (gear_meaning d) node.name node.entries in
    let stands = subst (λ z. GearStands d z.name z.machine (replay (gear_meaning d) z.name z.entries)) c.node.ensures.node c.machine-machine.ensures.stands in
    let same = c.machine-machine.ensures.machine ∙ ap (λ z. z.machine) c.node.ensures.node in
    ap (λ (s : Shape). s.gears) (c.shape.ensures ∙ ap (λ (z : GearSeen). z.shape) same) ∙ (stands_shape d node.name node.machine state stands).0

pub returns-clause-some : goal.returns-clause-some
returns-clause-some g c =
    subst (λ (s : Shape). 0 < s.gears) (sym (c.shape.ensures ∙ ap (λ (z : GearSeen). z.shape) (sym c.gear.ensures.gear))) c.promise.ensures.limits.shape.gears
