use Rattle.std.proofs.Common.{Some, None, is_some, sym, ap, ◌∙◌}
use Rattle.sat_label.specs.declared.node.NodeName.TheVariants as named
use Rattle.sat_act.specs.declared.act.Act.TheVariants as act
use Rattle.sat_opened.proofs.Numbers.{is-less}
use Rattle.sat_session.proofs.Asking.{none-is, same-name}
use Rattle.sat_parts.specs.declared.hub_input.HubInput.TheVariants as hub
use Rattle.sat_parts.specs.Hubs.{hub_meaning}
use Rattle.sat_parts_session.specs.Asked.{hub_asked, of_hub}
use Rattle.sat_parts_session.proofs.Asks.{asked_as, asks-attach}
use Rattle.sat_parts_session.proofs.hub.attach.Goals as goal

pub at_hub-requires : goal.at_hub-requires
at_hub-requires g c =
    let d = g.N.Laid.deployment in
    let x = c.args.session.now in
    let node = g.H.Lent.node_of c.args.held.now in
    let at = same-name node.name (named.Site c.args.site) (sym c.is_at.ensures ∙ c.if-not-is_at.false) in
    let unseated = none-is x.client.seat (sym (ap (λ z. is_some z.seat) c.client.ensures.client) ∙ (sym c.is_some.ensures ∙ c.if-is_some.false)) in
    asked_as d (hub_meaning d) of_hub x node (hub_asked (Some x.number) (hub.Attach x.client.carried)) c.of_client-input.result (act.Attach x.number c.args.site) (act.Attach c.number-client.result c.args.site) None
    (sym (c.of_client-input.ensures ∙ (λ j. hub_asked (Some (c.number-client.ensures.number j)) (hub.Attach (c.client-2.ensures.client j).carried)))) (λ j. act.Attach (sym c.number-client.ensures.number j) c.args.site)
    (asks-attach d x node c.args.site at c.number-client.ensures.session c.requires.client unseated (is-less c.args.site d.sites c.requires.site))
