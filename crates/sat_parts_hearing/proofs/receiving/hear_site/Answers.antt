use Rattle.std.proofs.Common.{◌≡◌, ℕ, ◌<◌, length, ap, ◌∙◌, subst, arith}
use Rattle.sat_machines.specs.Layout.{peer}
use Rattle.sat_machines.specs.Sites.{number_of}
use Rattle.sat_parts_hearing.specs.declared.ends.Source.TheVariants as source
use Rattle.sat_parts_hearing.specs.Along.{HeardLink}
use Rattle.sat_parts_hearing.proofs.Hearing.{heard_then}
use Rattle.sat_parts_hearing.proofs.Lanes.{ends_are, links_beyond}
use Rattle.sat_parts_hearing.proofs.Order.{site_more}
use Rattle.sat_parts_hearing.proofs.receiving.hear_site.Goals as goal

pub hear-requires-clause-link : goal.hear-requires-clause-link
hear-requires-clause-link g c =
    let d = g.N.Laid.deployment in
    let s = c.sound.ensures in
    let all = ends_are d c.args.held.now.node.name c.args.held.now.node.machine _ c.args.held.now.ins s.stands s.tied.ins in
    let same = c.in_default.ensures.all.ins.0 in
    let less = links_beyond d (number_of c.args.held.now.node.name) c.args.number c.requires.number in
    let is = c.from.ensures in
    omega arith

pub returns-in-Err-hear-clause-heard : goal.returns-in-Err-hear-clause-heard
returns-in-Err-hear-clause-heard g c = heard_then _ _ _ c.hear_lanes.ensures.heard c.hear.ensures.heard

pub returns-clause-heard : goal.returns-clause-heard
returns-clause-heard g c = heard_then _ _ _ c.hear_lanes.ensures.heard c.hear.ensures.heard

pub returns-clause-all : goal.returns-clause-all
returns-clause-all g c =
    let d = g.N.Laid.deployment in
    let from = c.peer-from.ensures ∙ ap (λ (i : ℕ). peer i c.args.number) c.site_of.ensures in
    site_more d c.args.number _ _ _ c.requires.number c.in_default.ensures.all
    (subst (λ (k : ℕ). HeardLink d (source.Beats (peer (number_of c.args.held.now.node.name) c.args.number)) k c.hear_lanes.new.held c.hear.new.held) c.from.ensures
    (subst (λ (j : ℕ). HeardLink d (source.Beats j) c.from.result c.hear_lanes.new.held c.hear.new.held) from c.in_default-hear.ensures.all))
