-- The journals of all hubs, gears and serializers fit, and with sessions they are one run.
use Rattle.std.proofs.Common.{ℕ, List, sym, ◌∙◌}
use Rattle.sat_act.proofs.Valid.{is_valid}
use Rattle.sat_act.specs.Deployed.{Deployed}
use Rattle.sat_act.specs.Limits.{IsDeployment}
use Rattle.sat_machines.specs.Serials.{serial_meaning}
use Rattle.sat_stitch.specs.Places.{Session}
use Rattle.sat_joint.specs.Pieces.{Piece}
use Rattle.sat_joint.specs.Machines.{whole}
use Rattle.sat_hub_laws.specs.Parts.{PartsAgree}
use Rattle.sat_hub_laws.specs.Laws.{JournalsFit}
use Rattle.sat_hub_laws.proofs.Replayed.{journals-are-runs, sites-are-replayed}
use Rattle.sat_parts.specs.Hubs.{hub_meaning}
use Rattle.sat_parts.specs.Gears.{gear_meaning}
use Rattle.sat_opened.specs.Laws.{SerialHeld}
use Rattle.sat_opened.proofs.Whole.{delivers-all, delivers-within, is-host}
use Rattle.sat_parts_opened.specs.Opened.{gears_of, hubs_of, others_of, pieces_at}
use Rattle.sat_parts_opened.specs.Hosts.{PartsHosted}
use Rattle.sat_parts_opened.specs.Laws.{HubHeld, GearHeld, SessionsFit, FitsJoin, HostsFit, HostsAreRuns, HostsStand, OpenedAreHosts, OpenedFit, OpenedAreRuns, OpenedStand}
use Rattle.sat_parts_opened.proofs.Hosted.{keeps-gear, keeps-hub, of-gears, of-hubs, serial-hosts}
use Rattle.sat_parts_opened.proofs.Serials.{of-serials}
use Rattle.sat_parts_opened.proofs.Came.{beats, payloads}
use Rattle.sat_parts_opened.proofs.Edges.{link}

-- ---- fits

pub hosts-fit : HostsFit
hosts-fit d hubs gears serials dep all alone = record {
  of_hubs = of-hubs d hubs gears serials all;
  of_gears = of-gears d hubs gears serials all;
  of_serials = of-serials d serials (serial-hosts d hubs gears serials all);
  payloads = payloads d hubs gears serials all alone;
  beats = beats d hubs gears serials all alone;
  links = λ agree e t u v tree edge. link d hubs gears serials dep all alone agree e t tree u v edge;
}

pub fits-join : FitsJoin
fits-join d hubs gears others sessions nodes agree clients = record {
  of_hubs = nodes.of_hubs;
  of_gears = nodes.of_gears;
  of_serials = nodes.of_serials;
  of_clients = clients.of_clients;
  parts = agree;
  links = nodes.links agree;
  payloads = nodes.payloads;
  beats = nodes.beats;
  kept = clients.kept;
  known = clients.known;
}

-- ---- runs

module _ (d : Deployed) (hubs : List HubHeld) (gears : List GearHeld) (serials : List SerialHeld) (dep : IsDeployment d) (all : PartsHosted d hubs gears serials) (alone : ℕ → List Piece) (sessions : Session → List Piece)
    (agree : PartsAgree d (pieces_at hubs gears serials alone)) (clients : SessionsFit d (pieces_at hubs gears serials alone) sessions) where
  fit : JournalsFit d (hubs_of hubs) (gears_of gears) (others_of serials alone) sessions
  fit = fits-join d (hubs_of hubs) (gears_of gears) (others_of serials alone) sessions (hosts-fit d hubs gears serials dep all alone) agree clients

pub hosts-are-runs : HostsAreRuns
hosts-are-runs d hubs gears serials dep all alone sessions merged agree clients merge =
    journals-are-runs d (hubs_of hubs) (gears_of gears) (others_of serials alone) sessions merged (is_valid d dep) (fit d hubs gears serials dep all alone sessions agree clients) merge

pub hosts-stand : HostsStand
hosts-stand d hubs gears serials dep all alone sessions merged agree clients merge i =
    sites-are-replayed d (hubs_of hubs) (gears_of gears) (others_of serials alone) sessions merged (is_valid d dep) (fit d hubs gears serials dep all alone sessions agree clients) merge i ∙
    (λ t. whole d i (sym (keeps-hub d hubs gears serials all i).state t) (λ g. sym (keeps-gear d hubs gears serials all i g).state t))

-- ---- nodes whose links keep order

pub opened-are-hosts : OpenedAreHosts
opened-are-hosts d hubs gears serials all = record {
  all_hubs = all.all_hubs;
  all_gears = all.all_gears;
  all_serials = all.all_serials;
  each_hub = λ k h at. is-host (hub_meaning d) h (all.each_hub k h at);
  each_gear = λ k h at. is-host (gear_meaning d) h (all.each_gear k h at);
  each_serial = λ k h at. is-host (serial_meaning d) h (all.each_serial k h at);
  lanes = delivers-all (gear_meaning d) (hub_meaning d) gears hubs all.each_gear all.each_hub all.lanes;
  between_hubs = delivers-within (hub_meaning d) hubs all.each_hub all.between_hubs;
  between_serials = delivers-within (serial_meaning d) serials all.each_serial all.between_serials;
  from_hubs = delivers-all (hub_meaning d) (serial_meaning d) hubs serials all.each_hub all.each_serial all.from_hubs;
  from_serials = delivers-all (serial_meaning d) (hub_meaning d) serials hubs all.each_serial all.each_hub all.from_serials;
}

pub opened-fit : OpenedFit
opened-fit d hubs gears serials dep all = hosts-fit d hubs gears serials dep (opened-are-hosts d hubs gears serials all)

pub opened-are-runs : OpenedAreRuns
opened-are-runs d hubs gears serials dep all = hosts-are-runs d hubs gears serials dep (opened-are-hosts d hubs gears serials all)

pub opened-stand : OpenedStand
opened-stand d hubs gears serials dep all = hosts-stand d hubs gears serials dep (opened-are-hosts d hubs gears serials all)
