use Rattle.std.proofs.Common.{Some, ap, ◌∙◌, subst, sym}
use Rattle.sat_sites.specs.Interested.{keeps}
use Rattle.sat_sites.specs.declared.shape.Shape.{Shape}
use Rattle.sat_act.specs.declared.answer.Answer.{Answer}
use Rattle.sat_gear.specs.Gear.{GearSeen, version_of}
use Rattle.sat_node.specs.Meanings.{replay}
use Rattle.sat_parts.specs.Gears.{GearStands, gear_meaning}
use Rattle.sat_session.specs.Replies.{Looked}
use Rattle.sat_parts_session.specs.Asked.{as_site}
use Rattle.sat_parts_session.proofs.Looks.{looked_away, looked_none, looked_some, stands_at}
use Rattle.sat_parts_session.proofs.gear.look.Goals as goal

pub returns-then-not-is_here : goal.returns-then-not-is_here
returns-then-not-is_here g c =
    let d = g.N.Laid.deployment in
    let node = g.H.Lent.node_of c.args.held.now in
    let state = replay (gear_meaning d) node.name node.entries in
    let stands = subst (λ z. GearStands d z.name z.machine (replay (gear_meaning d) z.name z.entries)) c.node.ensures.node c.machine-machine.ensures.stands in
    let same = c.machine-machine.ensures.machine ∙ ap (λ z. z.machine) c.node.ensures.node in
    let shape = c.shape-shape.ensures ∙ ap (λ (z : GearSeen). z.shape) same in
    looked_away d c.args.site c.args.gear node.machine state (stands_at d node.name c.args.site c.args.gear node.machine state c.requires.name stands) c.args.item
    (sym (ap (λ (s : Shape). keeps s.interest c.args.item s.site) shape) ∙ (sym c.is_here.ensures ∙ c.if-not-is_here.true))

pub returns-in_default : goal.returns-in_default
returns-in_default g c =
    let d = g.N.Laid.deployment in
    let node = g.H.Lent.node_of c.args.held.now in
    let state = replay (gear_meaning d) node.name node.entries in
    let stands = subst (λ z. GearStands d z.name z.machine (replay (gear_meaning d) z.name z.entries)) c.node.ensures.node c.machine-machine.ensures.stands in
    let same = c.machine-machine.ensures.machine ∙ ap (λ z. z.machine) c.node.ensures.node in
    looked_none d c.args.site c.args.gear node.machine state (stands_at d node.name c.args.site c.args.gear node.machine state c.requires.name stands) c.args.item c.requires.item c.requires.gear
    (ap (λ (z : GearSeen). version_of z c.args.item) (sym (c.gear.ensures.gear ∙ same)) ∙ c.in_default.ensures)

pub returns : goal.returns
returns g c =
    let d = g.N.Laid.deployment in
    let node = g.H.Lent.node_of c.args.held.now in
    let state = replay (gear_meaning d) node.name node.entries in
    let stands = subst (λ z. GearStands d z.name z.machine (replay (gear_meaning d) z.name z.entries)) c.node.ensures.node c.machine-machine.ensures.stands in
    let same = c.machine-machine.ensures.machine ∙ ap (λ z. z.machine) c.node.ensures.node in
    let shape = c.shape-shape.ensures ∙ ap (λ (z : GearSeen). z.shape) same in
    let made = stands_at d node.name c.args.site c.args.gear node.machine state c.requires.name stands in
    let looked = looked_some d c.args.site c.args.gear node.machine state made c.args.item c.requires.item c.requires.gear c.in-Some.version.now c.shape-shape.result.now.sites
    (ap (λ (z : GearSeen). version_of z c.args.item) (sym (c.gear.ensures.gear ∙ same)) ∙ c.in-Some.ensures) c.in_ok-spare.ensures.time c.in_ok-spare.ensures.site (ap (λ (s : Shape). s.sites) (shape ∙ made.shape)) in
    subst (λ (r : Answer). Looked d c.args.site (as_site d c.args.site state) c.args.item (Some r)) (sym c.in_ok-spare.ensures.answer) looked
