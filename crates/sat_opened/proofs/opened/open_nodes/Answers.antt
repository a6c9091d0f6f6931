use Rattle.std.proofs.Common.{◌∙◌, List, subst, sym}
use Rattle.sat_act.specs.Deployed.{Deployed}
use Rattle.sat_act.specs.Limits.{IsDeployment}
use Rattle.sat_node.specs.Links.{Each}
use Rattle.sat_node.specs.Opened.{AgreeAll}
use Rattle.sat_machines.specs.Sites.{site_meaning}
use Rattle.sat_machines.specs.Serials.{serial_meaning}
use Rattle.sat_opened.specs.Laws.{SiteHeld, SerialHeld}
use Rattle.sat_opened.specs.Opened.{IsOpened}
use Rattle.sat_opened.proofs.Whole.{opened_fit}
use Rattle.sat_opened.proofs.opened.open_nodes.Goals as goal

pub returns-clause-opened : goal.returns-clause-opened
returns-clause-opened g c =
    let d : Deployed = g.N.Laid.deployment in
    let sites : List SiteHeld = c.args.sites.now.items in
    let serials : List SerialHeld = c.args.serials.now.items in
    let sites_same = c.agree_within.ensures.same in
    let serials_same = c.agree_within-2.ensures.same in
    record {
      all_sites = c.requires.sites;
      all_serials = c.requires.serials;
      each_site = subst (λ (hs : List SiteHeld). Each hs (λ _ h. IsOpened (site_meaning d) h)) c.as_slice.ensures.value c.look_all.ensures;
      each_serial = subst (λ (hs : List SerialHeld). Each hs (λ _ h. IsOpened (serial_meaning d) h)) c.as_slice-2.ensures.value c.look_all-2.ensures;
      between_sites = c.agree_within.ensures.agree;
      between_serials = c.agree_within-2.ensures.agree;
      from_sites = subst (λ (hs : List SiteHeld). AgreeAll (site_meaning d) (serial_meaning d) hs serials) sites_same
          (subst (λ (hs : List SerialHeld). AgreeAll (site_meaning d) (serial_meaning d) c.agree_within.new.nodes.items hs) serials_same c.agree_all.ensures.agree);
      from_serials = subst (λ (hs : List SerialHeld). AgreeAll (serial_meaning d) (site_meaning d) hs sites) (c.agree_all.ensures.same.1 ∙ serials_same)
          (subst (λ (hs : List SiteHeld). AgreeAll (serial_meaning d) (site_meaning d) c.agree_all.new.receivers.items hs) (c.agree_all.ensures.same.0 ∙ sites_same) c.agree_all-2.ensures.agree);
    }

pub returns-clause-fit : goal.returns-clause-fit
returns-clause-fit g c =
    opened_fit g.N.Laid.deployment c.args.sites.now.items c.args.serials.now.items (subst (λ (d : Deployed). IsDeployment d) (sym c.requires.deployment) c.limits.ensures) (returns-clause-opened g c)
