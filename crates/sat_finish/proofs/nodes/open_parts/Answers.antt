use Rattle.std.proofs.Common.{◌≡◌, ◌∙◌, List, subst}
use Rattle.sat_act.specs.Deployed.{Deployed}
use Rattle.sat_node.specs.Links.{Each}
use Rattle.sat_node.specs.Opened.{AgreeAll}
use Rattle.sat_machines.specs.Serials.{serial_meaning}
use Rattle.sat_parts.specs.Hubs.{hub_meaning}
use Rattle.sat_parts.specs.Gears.{gear_meaning}
use Rattle.sat_opened.specs.Laws.{SerialHeld}
use Rattle.sat_opened.specs.Opened.{IsOpened}
use Rattle.sat_parts_opened.specs.Laws.{GearHeld, HubHeld}
use Rattle.sat_finish.proofs.nodes.open_parts.Goals as goal

pub returns-clause-opened : goal.returns-clause-opened
returns-clause-opened g c =
    let d : Deployed = g.N.Laid.deployment in
    let hubs : List HubHeld = c.args.hubs.now.items in
    let gears : List GearHeld = c.args.gears.now.items in
    let serials : List SerialHeld = c.args.serials.now.items in
    let hubs1 : c.agree_within.new.nodes.items ≡ hubs = c.agree_within.ensures.same in
    let serials1 : c.agree_within-2.new.nodes.items ≡ serials = c.agree_within-2.ensures.same in
    let hubs2 : c.agree_all.new.receivers.items ≡ hubs = ◌∙◌ {A = List HubHeld} c.agree_all.ensures.same.1 hubs1 in
    let hubs3 : c.agree_all-2.new.senders.items ≡ hubs = ◌∙◌ {A = List HubHeld} c.agree_all-2.ensures.same.0 hubs2 in
    let serials2 : c.agree_all-2.new.receivers.items ≡ serials = ◌∙◌ {A = List SerialHeld} c.agree_all-2.ensures.same.1 serials1 in
    record {
      all_hubs = c.requires.hubs_are;
      all_gears = c.requires.gears_are;
      all_serials = c.requires.serials_are;
      each_hub = subst (λ (hs : List HubHeld). Each hs (λ _ h. IsOpened (hub_meaning d) h)) c.as_slice.ensures.value c.look_all.ensures;
      each_gear = subst (λ (hs : List GearHeld). Each hs (λ _ h. IsOpened (gear_meaning d) h)) c.as_slice-2.ensures.value c.look_all-2.ensures;
      each_serial = subst (λ (hs : List SerialHeld). Each hs (λ _ h. IsOpened (serial_meaning d) h)) c.as_slice-3.ensures.value c.look_all-3.ensures;
      lanes = subst (λ (hs : List HubHeld). AgreeAll (gear_meaning d) (hub_meaning d) gears hs) hubs1 c.agree_all.ensures.agree;
      between_hubs = c.agree_within.ensures.agree;
      between_serials = c.agree_within-2.ensures.agree;
      from_hubs = subst (λ (hs : List HubHeld). AgreeAll (hub_meaning d) (serial_meaning d) hs serials) hubs2
          (subst (λ (hs : List SerialHeld). AgreeAll (hub_meaning d) (serial_meaning d) c.agree_all.new.receivers.items hs) serials1 c.agree_all-2.ensures.agree);
      from_serials = subst (λ (hs : List SerialHeld). AgreeAll (serial_meaning d) (hub_meaning d) hs hubs) serials2
          (subst (λ (hs : List HubHeld). AgreeAll (serial_meaning d) (hub_meaning d) c.agree_all-2.new.receivers.items hs) hubs3 c.agree_all-3.ensures.agree);
    }
