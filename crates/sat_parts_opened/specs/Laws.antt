-- What this crate proves of hubs, gears and serializers whose locks were taken apart.
use Rattle.std.specs.Prelude.{◌≡◌, ◌⊎◌, ℕ, true, List, [], ◌++◌, map, Some, slice_get}
use Rattle.std.specs.List.{flat_map}
use Rattle.sat_label.specs.declared.node.NodeId.{NodeId}
use Rattle.sat_label.specs.declared.node.NodeName.{NodeName}
use Rattle.sat_label.specs.declared.node.NodeName.TheVariants as named
use Rattle.sat_label.specs.Members.{In}
use Rattle.sat_label.specs.Words.{below}
use Rattle.sat_tree.specs.Shape.{TreeShape}
use Rattle.sat_tree.specs.Cut.{is_edge}
use Rattle.sat_act.specs.Deployed.{Deployed}
use Rattle.sat_act.specs.Limits.{IsDeployment}
use Rattle.sat_act.specs.Parts.{tree_of}
use Rattle.sat_act.specs.Runs.{IsRun}
use Rattle.sat_gear.specs.Gear.{GearSeen}
use Rattle.sat_hub.specs.Seen.{HubSeen}
use Rattle.sat_model.specs.Replay.{site_state}
use Rattle.sat_node.specs.declared.kept.Kept.{Kept as Line}
use Rattle.sat_node.specs.Links.{HeldSeen, Each}
use Rattle.sat_node.specs.Meanings.{Runs, replay}
use Rattle.sat_stitch.specs.Kept.{history, marks, Distinct}
use Rattle.sat_stitch.specs.Places.{Session, Client, session_of}
use Rattle.sat_stitch.specs.Nodes.{put_on, took_from}
use Rattle.sat_stitch.specs.Fit.{IsHanded}
use Rattle.sat_joint.specs.Pieces.{EachOf, Piece, plains}
use Rattle.sat_joint.specs.Table.{Alone, AtGear, AtHub, AtSerial, Node, link_node}
use Rattle.sat_joint.specs.Machines.{kept_site, whole}
use Rattle.sat_joint.specs.Joint.{BeatsFit, IsJointMerge, IsSessionList, KnowsClient, PayloadsFit}
use Rattle.sat_joint.specs.Journals.{home_entries, noted, oldest}
use Rattle.sat_hub_laws.specs.Lines.{GearLine, HubLine, IsGearJournal, IsHubJournal, gear_pieces, hub_pieces}
use Rattle.sat_hub_laws.specs.Lines.{node_lists}
use Rattle.sat_hub_laws.specs.Parts.{PartsAgree}
use Rattle.sat_hub_laws.specs.Laws.{IsOtherList, JournalsFit}
use Rattle.sat_parts.specs.declared.hub_answer.HubAnswer.{HubAnswer}
use Rattle.sat_parts.specs.declared.gear_answer.GearAnswer.{GearAnswer}
use Rattle.sat_parts.specs.Acts.{HubActSeen, GearActSeen}
use Rattle.sat_parts.specs.Hubs.{hub_meaning}
use Rattle.sat_parts.specs.Gears.{gear_meaning}
use Rattle.sat_parts.specs.Lines.{gear_lines, hub_lines}
use Rattle.sat_machines.specs.declared.serial_act.SerialAct.{SerialAct}
use Rattle.sat_machines.specs.declared.serial_act.SerialAnswer.{SerialAnswer}
use Rattle.sat_opened.specs.Keeping.{newest, serial_kept}
use Rattle.sat_opened.specs.Opened.{entries_at, name_in, serial_names}
use Rattle.sat_opened.specs.Laws.{SerialHeld}
use Rattle.sat_parts_opened.specs.Opened.{PartsOpened, gears_of, hubs_of, others_of, pieces_at, pieces_of}
use Rattle.sat_parts_opened.specs.Hosts.{PartsHosted}
use Rattle.sat_parts_opened.specs.Keeping.{gear_kept, gear_noted, gear_owner, hub_kept, hub_noted, hub_owner, node_of}
use Rattle.sat_parts_opened.specs.Keeping.{own_noted, serial_noted}
use Rattle.sat_parts.specs.Layout.{gear_names}

-- a hub, and a gear, with its link ends
abbrev pub HubHeld : Type 0
HubHeld = HeldSeen HubSeen HubActSeen HubAnswer

-- a gear, with its link ends
abbrev pub GearHeld : Type 0
GearHeld = HeldSeen GearSeen GearActSeen GearAnswer

-- ---- journals that fit

-- what holds of the journals of hubs, gears and serializers: each is one of its machine; each payload and beat that a
-- hub took was made for it before; and, where the parts of hubs and gears agree, so was each label put on its link.
-- Without that a hub may have sent labels that no gear of its site made
pub record PartsFit (d : Deployed) (hubs : ℕ → List HubLine) (gears : ℕ → ℕ → List GearLine)
    (others : Node → List Piece) : Type 0 where
  pub of_hubs : (i : ℕ) → IsHubJournal d i (hubs i)
  pub of_gears : (i g : ℕ) → IsGearJournal d i g (gears i g)
  pub of_serials : (e z : ℕ) → IsOtherList d (AtSerial e z) (others (AtSerial e z))
  pub payloads : (j : ℕ) → EachOf (PayloadsFit d (node_lists hubs gears others) j) (hub_pieces j (hubs j))
  pub beats : (j : ℕ) → EachOf (BeatsFit d (node_lists hubs gears others) j) (hub_pieces j (hubs j))
  pub links : PartsAgree d (node_lists hubs gears others) → (e : ℕ) (t : TreeShape) (u v : NodeId)
      → tree_of d e ≡ Some t → is_edge t u v ≡ true →
      IsHanded (marks (took_from d e u v) (plains (node_lists hubs gears others (link_node e v))))
      (marks (put_on d e t u v) (plains (node_lists hubs gears others (link_node e u))))

-- what holds of what sessions kept: each client's alone, and all that each kept
pub record SessionsFit (d : Deployed) (lists : Node → List Piece) (sessions : Session → List Piece) : Type 0 where
  pub of_clients : (c : ℕ) → IsOtherList d (Alone c) (lists (Alone c))
  pub kept : (s : Session) → IsSessionList d lists s (sessions s)
  pub known : (c : ℕ) → EachOf (KnowsClient d lists c) (sessions (Client c))

-- together they fit, where the parts of hubs and gears agree
abbrev pub FitsJoin : Type 0
FitsJoin =
    (d : Deployed) (hubs : ℕ → List HubLine) (gears : ℕ → ℕ → List GearLine) (others : Node → List Piece)
    (sessions : Session → List Piece) → PartsFit d hubs gears others → PartsAgree d (node_lists hubs gears others)
    → SessionsFit d (node_lists hubs gears others) sessions → JournalsFit d hubs gears others sessions

module _ (d : Deployed) (hubs : List HubHeld) (gears : List GearHeld) (serials : List SerialHeld) where
  -- the journals of these nodes fit, whatever sessions kept alone
  abbrev pub NodesFit : Type 0
  NodesFit = (alone : ℕ → List Piece) → PartsFit d (hubs_of hubs) (gears_of gears) (others_of serials alone)

  -- with sessions that fit, and where the parts of hubs and gears agree, they are one run when they are merged
  abbrev pub NodesRun : Type 0
  NodesRun =
      (alone : ℕ → List Piece) (sessions : Session → List Piece) (all : List Piece)
      → PartsAgree d (pieces_at hubs gears serials alone) → SessionsFit d (pieces_at hubs gears serials alone) sessions
      → IsJointMerge d (pieces_at hubs gears serials alone) all → IsRun d (history (plains all))

  -- in which each site's state is that of its hub and its gears
  abbrev pub NodesStand : Type 0
  NodesStand =
      (alone : ℕ → List Piece) (sessions : Session → List Piece) (all : List Piece)
      → PartsAgree d (pieces_at hubs gears serials alone) → SessionsFit d (pieces_at hubs gears serials alone) sessions
      → IsJointMerge d (pieces_at hubs gears serials alone) all → (i : ℕ) →
      kept_site d i (site_state d (history (plains all)) i)
      ≡ whole d i (replay (hub_meaning d) (named.Site i) (entries_at (named.Site i) hubs))
      (λ g. replay (gear_meaning d) (named.Gear i g) (entries_at (named.Gear i g) gears))

-- all of it holds of hosts
abbrev pub HostsFit : Type 0
HostsFit = (d : Deployed) (hubs : List HubHeld) (gears : List GearHeld) (serials : List SerialHeld) → IsDeployment d
    → PartsHosted d hubs gears serials → NodesFit d hubs gears serials

-- their journals are one run
abbrev pub HostsAreRuns : Type 0
HostsAreRuns = (d : Deployed) (hubs : List HubHeld) (gears : List GearHeld) (serials : List SerialHeld)
    → IsDeployment d → PartsHosted d hubs gears serials → NodesRun d hubs gears serials

-- in which each site is its hub and its gears
abbrev pub HostsStand : Type 0
HostsStand = (d : Deployed) (hubs : List HubHeld) (gears : List GearHeld) (serials : List SerialHeld) → IsDeployment d
    → PartsHosted d hubs gears serials → NodesStand d hubs gears serials

-- nodes whose links keep order are such hosts
abbrev pub OpenedAreHosts : Type 0
OpenedAreHosts = (d : Deployed) (hubs : List HubHeld) (gears : List GearHeld) (serials : List SerialHeld)
    → PartsOpened d hubs gears serials → PartsHosted d hubs gears serials

-- so it holds of all opened nodes
abbrev pub OpenedFit : Type 0
OpenedFit = (d : Deployed) (hubs : List HubHeld) (gears : List GearHeld) (serials : List SerialHeld) → IsDeployment d
    → PartsOpened d hubs gears serials → NodesFit d hubs gears serials

-- their journals are one run
abbrev pub OpenedAreRuns : Type 0
OpenedAreRuns = (d : Deployed) (hubs : List HubHeld) (gears : List GearHeld) (serials : List SerialHeld)
    → IsDeployment d → PartsOpened d hubs gears serials → NodesRun d hubs gears serials

-- in which each site is its hub and its gears
abbrev pub OpenedStand : Type 0
OpenedStand = (d : Deployed) (hubs : List HubHeld) (gears : List GearHeld) (serials : List SerialHeld)
    → IsDeployment d → PartsOpened d hubs gears serials → NodesStand d hubs gears serials

-- ---- nodes by their names

-- each node once, in order, and each journal of a hub and of a gear ran. Nothing is said of links
pub record AreJournals (d : Deployed) (hubs : List HubHeld) (gears : List GearHeld) (serials : List SerialHeld)
    : Type 0 where
  pub all_hubs : map name_in hubs ≡ map named.Site (below d.sites)
  pub all_gears : map name_in gears ≡ gear_names d
  pub all_serials : map name_in serials ≡ serial_names d
  pub each_hub : Each hubs (λ _ h. Runs (hub_meaning d) h.node.name h.node.entries)
  pub each_gear : Each gears (λ _ h. Runs (gear_meaning d) h.node.name h.node.entries)

-- opened nodes have such journals
abbrev pub OpenedAreJournals : Type 0
OpenedAreJournals = (d : Deployed) (hubs : List HubHeld) (gears : List GearHeld) (serials : List SerialHeld)
    → PartsOpened d hubs gears serials → AreJournals d hubs gears serials

-- what was kept at a node is its journal
abbrev pub HubsAreKept : Type 0
HubsAreKept = (d : Deployed) (hubs : List HubHeld) (gears : List GearHeld) (serials : List SerialHeld)
    (alone : ℕ → List Piece) → AreJournals d hubs gears serials → (n i : ℕ) (h : HubHeld) → slice_get hubs n ≡ Some h
    → h.node.name ≡ named.Site i
    → pieces_at hubs gears serials alone (AtHub i) ≡ hub_pieces i (hub_lines h.node.entries)

-- at a gear
abbrev pub GearsAreKept : Type 0
GearsAreKept = (d : Deployed) (hubs : List HubHeld) (gears : List GearHeld) (serials : List SerialHeld)
    (alone : ℕ → List Piece) → AreJournals d hubs gears serials → (n i g : ℕ) (h : GearHeld)
    → slice_get gears n ≡ Some h → h.node.name ≡ named.Gear i g
    → pieces_at hubs gears serials alone (AtGear i g) ≡ gear_pieces i g (gear_lines h.node.entries)

-- at a serializer
abbrev pub SerialsAreKept : Type 0
SerialsAreKept = (d : Deployed) (hubs : List HubHeld) (gears : List GearHeld) (serials : List SerialHeld)
    (alone : ℕ → List Piece) → AreJournals d hubs gears serials → (n e z : ℕ) (h : SerialHeld)
    → slice_get serials n ≡ Some h → h.node.name ≡ named.Serializer e z
    → pieces_at hubs gears serials alone (AtSerial e z) ≡ pieces_of (newest (serial_kept e z) h.node.entries)

-- the part of a history at a node is that of its journal
abbrev pub HubsAreParts : Type 0
HubsAreParts = (i : ℕ) (es : List (Line HubActSeen HubAnswer)) → plains (hub_pieces i (hub_lines es))
    ≡ newest (hub_kept i) es

-- of a gear
abbrev pub GearsAreParts : Type 0
GearsAreParts = (i g : ℕ) (es : List (Line GearActSeen GearAnswer)) → plains (gear_pieces i g (gear_lines es))
    ≡ newest (gear_kept i g) es

-- a node's journal, as the merge of journals takes it: each entry with whether the node is the act's home
abbrev pub HubJournals : Type 0
HubJournals = (d : Deployed) (i : ℕ) (es : List (Line HubActSeen HubAnswer)) → map (hub_noted i) es
    ≡ map (noted d (AtHub i)) (oldest (hub_pieces i (hub_lines es)))

-- of a gear that ran
abbrev pub GearJournals : Type 0
GearJournals = (d : Deployed) (i g : ℕ) (es : List (Line GearActSeen GearAnswer))
    → Runs (gear_meaning d) (named.Gear i g) es → map (gear_noted i g) es
    ≡ map (noted d (AtGear i g)) (oldest (gear_pieces i g (gear_lines es)))

-- of which the merge takes those of the gear's own acts
abbrev pub OwnAreHomes : Type 0
OwnAreHomes = (i g : ℕ) (es : List (Line GearActSeen GearAnswer)) → home_entries (flat_map (own_noted i g) es)
    ≡ home_entries (map (gear_noted i g) es)

-- of a serializer
abbrev pub SerialJournals : Type 0
SerialJournals = (d : Deployed) (e z : ℕ) (es : List (Line SerialAct SerialAnswer)) → map (serial_noted e z) es
    ≡ map (noted d (AtSerial e z)) (oldest (pieces_of (newest (serial_kept e z) es)))

-- an entry is of its client's session, or of the operator's, or of none
abbrev pub HubsHaveOwners : Type 0
HubsHaveOwners = (d : Deployed) (hubs : List HubHeld) (gears : List GearHeld) (serials : List SerialHeld)
    → AreJournals d hubs gears serials → (n i m : ℕ) (h : HubHeld) (k : Line HubActSeen HubAnswer)
    → slice_get hubs n ≡ Some h → h.node.name ≡ named.Site i → slice_get h.node.entries m ≡ Some k
    → session_of (hub_kept i k).act ≡ hub_owner k.input.by k.input.input

-- at a gear
abbrev pub GearsHaveOwners : Type 0
GearsHaveOwners = (d : Deployed) (hubs : List HubHeld) (gears : List GearHeld) (serials : List SerialHeld)
    → AreJournals d hubs gears serials → (n i g m : ℕ) (h : GearHeld) (k : Line GearActSeen GearAnswer)
    → slice_get gears n ≡ Some h → h.node.name ≡ named.Gear i g → slice_get h.node.entries m ≡ Some k
    → session_of (gear_kept i g k).act ≡ gear_owner k.input.by

-- the nodes of a deployment: hubs by site, gears by site and number, serializers by epoch and number
abbrev pub part_nodes : Deployed → List Node
part_nodes d = map node_of (map named.Site (below d.sites) ++ (gear_names d ++ serial_names d))

-- each node is among these once, and nothing was kept at any other
abbrev pub NodesCover : Type 0
NodesCover = (d : Deployed) (hubs : List HubHeld) (gears : List GearHeld) (serials : List SerialHeld)
    (alone : ℕ → List Piece) → AreJournals d hubs gears serials →
    Distinct (part_nodes d) × ((name : NodeName) → In (part_nodes d) (node_of name)
    ⊎ (pieces_at hubs gears serials alone (node_of name) ≡ []))
