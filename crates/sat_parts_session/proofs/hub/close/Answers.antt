use Rattle.std.proofs.Common.{None, refl, sym, ◌∙◌}
use Rattle.sat_label.specs.declared.node.NodeName.TheVariants as named
use Rattle.sat_act.specs.declared.act.Act.TheVariants as act
use Rattle.sat_session.proofs.Asking.{same-name}
use Rattle.sat_parts.specs.declared.hub_input.HubInput.TheVariants as hub
use Rattle.sat_parts.specs.Hubs.{hub_meaning}
use Rattle.sat_parts_session.specs.Asked.{hub_asked, of_hub}
use Rattle.sat_parts_session.proofs.Asks.{asked_as, asks-close}
use Rattle.sat_parts_session.proofs.hub.close.Goals as goal

pub at_hub-requires : goal.at_hub-requires
at_hub-requires g c =
    let d = g.N.Laid.deployment in
    let x = c.args.session.now in
    let node = g.H.Lent.node_of c.args.held.now in
    let at = same-name node.name (named.Site c.args.site) (sym c.is_at.ensures ∙ c.if-not-is_at.false) in
    asked_as d (hub_meaning d) of_hub x node (hub_asked None hub.Close) c.of_hub-input.result (act.Close c.args.site) (act.Close c.args.site) None (sym c.of_hub-input.ensures) refl
    (asks-close d x node c.args.site at c.requires)
