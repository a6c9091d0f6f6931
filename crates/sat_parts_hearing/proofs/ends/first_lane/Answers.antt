use Rattle.std.proofs.Common.{◌≡◌, ◌+◌, ◌*◌, ◌-◌, length, ap, ◌∙◌, arith}
use Rattle.sat_machines.specs.Layout.{site_links}
use Rattle.sat_machines.specs.Sites.{number_of}
use Rattle.sat_parts_hearing.proofs.Lanes.{ends_are}
use Rattle.sat_parts_hearing.proofs.ends.first_lane.Goals as goal

pub returns-clause-first : goal.returns-clause-first
returns-clause-first g c =
    let d = g.N.Laid.deployment in
    let s = c.sound.ensures in
    let all = ends_are d c.args.held.now.node.name c.args.held.now.node.machine _ c.args.held.now.ins s.stands s.tied.ins in
    let ends = ap length c.ins-ends.ensures in
    let lanes : c.count-lanes.result ≡ (d.sites - 1) * d.gears = c.count-lanes.ensures.count ∙ (λ i. c.others.ensures.others i * c.gears.ensures i) in
    let rest = c.saturating_sub.ensures in
    omega arith
