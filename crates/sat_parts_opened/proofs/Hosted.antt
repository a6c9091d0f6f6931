-- Hubs and gears of hosts, by their names, with their journals.
use Rattle.std.proofs.Common.{◌≡◌, ◌<◌, ℕ, true, List, [], sym, subst, inl, inr}
use Rattle.sat_label.proofs.Members.{In-get}
use Rattle.sat_label.proofs.Numbers.{below-get}
use Rattle.sat_label.specs.Members.{In}
use Rattle.sat_label.specs.Words.{below}
use Rattle.sat_label.specs.declared.node.NodeName.{NodeName}
use Rattle.sat_label.specs.declared.node.NodeName.TheVariants as named
use Rattle.sat_act.specs.Deployed.{Deployed}
use Rattle.sat_node.specs.Meanings.{Runs}
use Rattle.sat_node.specs.Links.{Each, HeldSeen}
use Rattle.sat_stitch.specs.Nodes.{stands}
use Rattle.sat_hub_laws.specs.Lines.{IsHubJournal, IsGearJournal}
use Rattle.sat_machines.specs.declared.serial_act.SerialAct.{SerialAct}
use Rattle.sat_machines.specs.declared.serial_act.SerialAnswer.{SerialAnswer}
use Rattle.sat_parts.specs.declared.hub_answer.HubAnswer.{HubAnswer}
use Rattle.sat_parts.specs.declared.gear_answer.GearAnswer.{GearAnswer}
use Rattle.sat_parts.specs.Acts.{HubActSeen, GearActSeen}
use Rattle.sat_parts.specs.Hubs.{hub_meaning}
use Rattle.sat_parts.specs.Gears.{gear_meaning}
use Rattle.sat_parts.specs.Lines.{KeepsGear, KeepsHub, hub_line, gear_line}
use Rattle.sat_parts.proofs.Journals.{gears-keep, hubs-keep}
use Rattle.sat_opened.specs.Hosts.{IsHost}
use Rattle.sat_opened.specs.Opened.{entries_at}
use Rattle.sat_opened.proofs.Found.{Found, look-up, find, found-named}
use Rattle.sat_opened.proofs.Layouts.{in-below, in-flat, site-below, site-named}
use Rattle.sat_opened.proofs.SerialHosts.{SerialHosts}
use Rattle.sat_parts_opened.specs.Opened.{gears_of, hubs_of}
use Rattle.sat_parts_opened.specs.Hosts.{PartsHosted}
use Rattle.sat_parts_opened.proofs.Steps.{HubStep, GearStep, hub-steps, gear-steps}
use Rattle.sat_parts_opened.proofs.Walked.{Past}
use Rattle.sat_parts.specs.Layout.{gear_names, site_gears}

pub gear-named : (d : Deployed) (i g : ℕ) → i < d.sites → g < d.gears → In (gear_names d) (named.Gear i g)
gear-named d i g lt less = in-flat (site_gears d.gears) (below d.sites) i (named.Gear i g) (In-get (below d.sites) i i (below-get d.sites i lt)) (in-below (named.Gear i) d.gears g less)

module _ {M G K : Type 0} (d : Deployed) (hubs : List (HeldSeen M HubActSeen HubAnswer)) (gears : List (HeldSeen G GearActSeen GearAnswer)) (serials : List (HeldSeen K SerialAct SerialAnswer)) (all : PartsHosted d hubs gears serials) where
  pub serial-hosts : SerialHosts d serials
  serial-hosts = record { all_serials = all.all_serials; each_serial = all.each_serial; between_serials = all.between_serials }

  -- a hub, with its journal
  pub record HubAt (i : ℕ) : Type 0 where
    pub found : Found (named.Site i) hubs
    pub inside : i < d.sites
    pub host : IsHost (hub_meaning d) found.held
    pub runs : Runs (hub_meaning d) (named.Site i) found.held.node.entries
    pub steps : Past hub_line (HubStep d i) [] found.held.node.entries

  pub hub-at : (i : ℕ) → Found (named.Site i) hubs → HubAt i
  hub-at i f =
      let is : IsHost (hub_meaning d) f.held = all.each_hub f.index f.held f.there in
      let run : Runs (hub_meaning d) (named.Site i) f.held.node.entries = subst (λ (n : NodeName). Runs (hub_meaning d) n f.held.node.entries) f.is_named is.runs in
      record {
        found = f;
        inside = site-below d.sites i (subst (λ (ns : List NodeName). In ns (named.Site i)) all.all_hubs (found-named (named.Site i) hubs f));
        host = is;
        runs = run;
        steps = hub-steps d i f.held.node.entries run;
      }

  pub find-hub : (i : ℕ) → i < d.sites → HubAt i
  find-hub i lt = hub-at i (find (named.Site i) hubs (subst (λ (ns : List NodeName). In ns (named.Site i)) (sym all.all_hubs) (site-named d.sites i lt)))

  -- and a gear
  pub record GearAt (i g : ℕ) : Type 0 where
    pub found : Found (named.Gear i g) gears
    pub host : IsHost (gear_meaning d) found.held
    pub runs : Runs (gear_meaning d) (named.Gear i g) found.held.node.entries
    pub steps : Past gear_line (GearStep d i g) [] found.held.node.entries

  pub gear-at : (i g : ℕ) → Found (named.Gear i g) gears → GearAt i g
  gear-at i g f =
      let is : IsHost (gear_meaning d) f.held = all.each_gear f.index f.held f.there in
      let run : Runs (gear_meaning d) (named.Gear i g) f.held.node.entries = subst (λ (n : NodeName). Runs (gear_meaning d) n f.held.node.entries) f.is_named is.runs in
      record { found = f; host = is; runs = run; steps = gear-steps d i g f.held.node.entries run }

  pub find-gear : (i g : ℕ) → i < d.sites → g < d.gears → GearAt i g
  find-gear i g lt less = gear-at i g (find (named.Gear i g) gears (subst (λ (ns : List NodeName). In ns (named.Gear i g)) (sym all.all_gears) (gear-named d i g lt less)))

  -- ---- journals of machines, with the states of nodes

  none-there : {X : Type 0} (P : ℕ → X → Type 0) → Each [] P
  none-there P k x at = absurd (cc)

  pub keeps-hub : (i : ℕ) → KeepsHub d i (entries_at (named.Site i) hubs)
  keeps-hub i = elim (look-up (named.Site i) hubs) [
    | inr none ↦ subst (KeepsHub d i) (sym none) (hubs-keep d i [] tt tt (none-there (λ _ k. stands k.answer.answer ≡ true)))
    | inl f ↦ (let h : HubAt i = hub-at i f in subst (KeepsHub d i) (sym h.found.entries_are) (hubs-keep d i h.found.held.node.entries h.runs h.host.rises h.host.standing))
  ]

  pub keeps-gear : (i g : ℕ) → KeepsGear d i g (entries_at (named.Gear i g) gears)
  keeps-gear i g = elim (look-up (named.Gear i g) gears) [
    | inr none ↦ subst (KeepsGear d i g) (sym none) (gears-keep d i g [] tt tt (none-there (λ _ k. stands k.answer.answer ≡ true)))
    | inl f ↦ (let h : GearAt i g = gear-at i g f in subst (KeepsGear d i g) (sym h.found.entries_are) (gears-keep d i g h.found.held.node.entries h.runs h.host.rises h.host.standing))
  ]

  pub of-hubs : (i : ℕ) → IsHubJournal d i (hubs_of hubs i)
  of-hubs i = (keeps-hub i).journal

  pub of-gears : (i g : ℕ) → IsGearJournal d i g (gears_of gears i g)
  of-gears i g = (keeps-gear i g).journal
