use Rattle.std.proofs.Common.{◌≡◌, ℕ, ◌+◌, ◌*◌, ◌-◌, ◌<◌, length, refl, ap, ◌∙◌, subst, arith}
use Rattle.sat_machines.specs.Layout.{peer, site_links}
use Rattle.sat_machines.specs.Sites.{number_of}
use Rattle.sat_parts_hearing.specs.declared.ends.Source.TheVariants as source
use Rattle.sat_parts_hearing.specs.Along.{HeardLink}
use Rattle.sat_parts_hearing.proofs.Hearing.{heard_same, heard_then}
use Rattle.sat_parts_hearing.proofs.Lanes.{ends_are}
use Rattle.sat_parts_hearing.proofs.Numbers.{lane_within}
use Rattle.sat_parts_hearing.proofs.Order.{gears_more, gears_none}
use Rattle.sat_parts_hearing.proofs.receiving.hear_lanes.Goals as goal

pub loop-gear-init : goal.loop-gear-init
loop-gear-init g c = (heard_same _ _ refl, gears_none g.N.Laid.deployment c.args.number c.args.held.now)

pub hear-requires-clause-link : goal.hear-requires-clause-link
hear-requires-clause-link g c =
    let d = g.N.Laid.deployment in
    let s = c.sound.ensures in
    let all = ends_are d c.args.held.now.node.name c.args.held.now.node.machine _ c.args.held.now.ins s.stands s.tied.ins in
    let same = c.loop-gear.invariant.1.ins.0 in
    let inside : c.loop-gear.gear < d.gears = (let t = c.loop-gear-test.true in let q = c.gears-gears.ensures in omega arith) in
    let less = lane_within c.args.first c.args.number c.loop-gear.gear (d.sites - 1) d.gears c.requires.number inside in
    let at : c.lane_end-link.result ≡ (c.args.first + c.args.number * d.gears) + c.loop-gear.gear =
    c.lane_end-link.ensures ∙ ap (λ (m : ℕ). (c.args.first + c.args.number * m) + c.loop-gear.gear) c.gears-gears.ensures in
    let first = c.requires.first in
    omega arith

pub loop-gear-preserved : goal.loop-gear-preserved
loop-gear-preserved g c =
    let d = g.N.Laid.deployment in
    let v = c.loop-gear.invariant in
    let from = c.peer-from.ensures ∙ ap (λ (i : ℕ). peer i c.args.number) c.site_of.ensures in
    let at : c.lane_end-link.result ≡ (length (site_links d (number_of c.args.held.now.node.name)) + c.args.number * d.gears) + c.loop-gear.gear =
    c.lane_end-link.ensures
    ∙ (ap (λ (m : ℕ). (c.args.first + c.args.number * m) + c.loop-gear.gear) c.gears-gears.ensures
    ∙ ap (λ (m : ℕ). (m + c.args.number * d.gears) + c.loop-gear.gear) c.requires.first) in (
      heard_then _ _ _ v.0 c.hear.ensures.heard,
      gears_more d c.args.number c.loop-gear.gear c.lane_end-link.result _ _ _ at v.1
          (subst (λ (j : ℕ). HeardLink d (source.Lane j c.loop-gear.gear) c.lane_end-link.result c.loop-gear.held c.hear.new.held) from c.in_default.ensures.all),
    )

pub returns-in-Err-clause-heard : goal.returns-in-Err-clause-heard
returns-in-Err-clause-heard g c = heard_then _ _ _ c.loop-gear.invariant.0 c.hear.ensures.heard
