use Rattle.std.proofs.Common.{◌%◌, Some, None, [], ◌∷◌, refl, sym, ◌∙◌}
use Rattle.sat_label.specs.declared.items.Items.TheVariants.{One}
use Rattle.sat_act.specs.declared.act.Act.TheVariants as act
use Rattle.sat_parts.specs.declared.gear_input.GearInput.TheVariants as gear
use Rattle.sat_parts.specs.Gears.{gear_meaning}
use Rattle.sat_parts_session.specs.Asked.{gear_asked, of_gear}
use Rattle.sat_parts_session.proofs.Asks.{asked_as, asks-write}
use Rattle.sat_parts_session.proofs.gear.write.Goals as goal

pub at_gear-requires : goal.at_gear-requires
at_gear-requires g c =
    let d = g.N.Laid.deployment in
    let x = c.args.session.now in
    let node = g.H.Lent.node_of c.args.held.now in
    let seated = c.is_seated.ensures c.if-not-is_seated.false in
    asked_as d (gear_meaning d) of_gear x node (gear_asked (Some x.number) (gear.Write x.client.carried (One c.args.item) (c.args.value.now ∷ []))) c.of_client-input.result (act.Write x.number c.args.item c.args.value.now) (act.Write c.number-client.result c.args.item c.in-Ok-copy.value) None
    (sym (c.of_client-input.ensures ∙ (λ j. gear_asked (Some (c.number-client.ensures.number j)) (gear.Write (c.client.ensures.client j).carried (One c.args.item) (c.in-Ok.ensures j)))))
    (λ j. act.Write (sym c.number-client.ensures.number j) c.args.item (sym c.in-Ok-copy.ensures j))
    (asks-write d x node c.number-client.ensures.session c.requires.client seated.0 (c.args.item % c.gears.result) seated.2 seated.1 (act.Write x.number c.args.item c.args.value.now) (record { client = x.number; items = One c.args.item; values = c.args.value.now ∷ [] }) refl refl)
