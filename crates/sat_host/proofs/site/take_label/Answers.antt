use Rattle.std.proofs.Common.{[], Some, subst, sym}
use Rattle.sat_site.specs.declared.input.SiteInput.TheVariants as given
use Rattle.sat_node.specs.Links.{IsOf}
use Rattle.sat_node.specs.declared.kept.Body.{Body}
use Rattle.sat_machines.specs.Acts.{ActSeen}
use Rattle.sat_machines.specs.Sites.{site_meaning}
use Rattle.sat_passes.specs.Hearings.{of_site}
use Rattle.sat_host.proofs.Labels.{turn_is_of}
use Rattle.sat_host.proofs.site.take_label.Goals as goal

pub handle-requires-clause-carries : goal.handle-requires-clause-carries
handle-requires-clause-carries g c =
    let d = g.N.Laid.deployment in
    let of = turn_is_of d (record { node = c.args.host.now.node; outs = []; ins = [] }) c.args.link c.args.label c.sound.ensures.steps c.sound.ensures.deployment c.sound.ensures.site c.sound.ensures.stands c.requires.link c.requires.done in
    subst (λ (x : ActSeen). IsOf (site_meaning d) c.args.host.now.node c.args.link c.args.message.now.sent.body x) (sym c.of_site-input.ensures)
    (subst (λ (b : Body). IsOf (site_meaning d) c.args.host.now.node c.args.link b (of_site (given.Turn (Some c.args.label)))) (sym c.requires.label) of)
