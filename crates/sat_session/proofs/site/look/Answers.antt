use Rattle.std.proofs.Common.{Some, sym, ap, refl, ◌∙◌, subst}
use Rattle.sat_act.specs.declared.answer.Answer.{Answer}
use Rattle.sat_site.specs.Seen.{SiteSeen}
use Rattle.sat_node.specs.Meanings.{replay}
use Rattle.sat_machines.specs.Sites.{Stands, number_of, site_meaning}
use Rattle.sat_session.specs.Replies.{Looked}
use Rattle.sat_session.proofs.Looks.{looked_none, looked_some}
use Rattle.sat_session.proofs.site.look.Goals as goal

pub returns-in_default : goal.returns-in_default
returns-in_default g c =
    let d = g.N.Laid.deployment in
    let node = g.H.Lent.node_of c.args.held.now in
    let state = replay (site_meaning d) node.name node.entries in
    let machine = subst (λ z. Stands d z.name z.machine (replay (site_meaning d) z.name z.entries)) c.node.ensures.node c.machine-machine.ensures.stands in
    let same = c.site.ensures ∙ (c.machine-machine.ensures.machine ∙ ap (λ z. z.machine) c.node.ensures.node) in
    looked_none d node.name c.site.result.now state c.args.item (subst (λ (x : SiteSeen). Stands d node.name x state) (sym same) machine) c.in_default.ensures.kept

pub returns : goal.returns
returns g c =
    let d = g.N.Laid.deployment in
    let node = g.H.Lent.node_of c.args.held.now in
    let state = replay (site_meaning d) node.name node.entries in
    let machine = subst (λ z. Stands d z.name z.machine (replay (site_meaning d) z.name z.entries)) c.node.ensures.node c.machine-machine.ensures.stands in
    let same = c.site.ensures ∙ (c.machine-machine.ensures.machine ∙ ap (λ z. z.machine) c.node.ensures.node) in
    let looked = looked_some d node.name c.site.result.now state c.args.item c.in-Some.version.now c.in-Some.version.now.label c.in-Some.version.now.value c.sites-sites.result (subst (λ (x : SiteSeen). Stands d node.name x state) (sym same) machine) c.in-Some.ensures.kept
    refl refl c.in_ok-spare.ensures.time c.in_ok-spare.ensures.site c.sites-sites.ensures.sites in
    subst (λ (r : Answer). Looked d (number_of node.name) state c.args.item (Some r)) (sym c.in_ok-spare.ensures.answer) looked
