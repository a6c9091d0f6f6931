-- What this crate proves of opened nodes.
use Rattle.std.specs.Prelude.{◌≡◌, ◌⊎◌, ℕ, List, [], map, Some, slice_get}
use Rattle.sat_label.specs.declared.node.NodeName.{NodeName}
use Rattle.sat_label.specs.declared.node.NodeName.TheVariants as named
use Rattle.sat_label.specs.Members.{In}
use Rattle.sat_act.specs.Deployed.{Deployed}
use Rattle.sat_act.specs.Limits.{IsDeployment}
use Rattle.sat_act.specs.Runs.{IsRun}
use Rattle.sat_node.specs.declared.kept.Kept.{Kept as Line}
use Rattle.sat_node.specs.Links.{HeldSeen}
use Rattle.sat_site.specs.Seen.{SiteSeen}
use Rattle.sat_machines.specs.Acts.{ActSeen}
use Rattle.sat_machines.specs.Serials.{SerialSeen}
use Rattle.sat_machines.specs.declared.site_answer.SiteAnswer.{SiteAnswer}
use Rattle.sat_machines.specs.declared.serial_act.SerialAct.{SerialAct}
use Rattle.sat_machines.specs.declared.serial_act.SerialAnswer.{SerialAnswer}
use Rattle.sat_stitch.specs.Kept.{Kept, history}
use Rattle.sat_stitch.specs.Places.{Place, AtSite, AtSerializer, Session, session_of}
use Rattle.sat_stitch.specs.Fit.{Fit, IsMerge}
use Rattle.sat_stitch.specs.Stitch.{Distinct, oldest, entry_under}
use Rattle.sat_opened.specs.Keeping.{site_kept, serial_kept, owner_of, serial_owner, newest, kept_under}
use Rattle.sat_opened.specs.Opened.{AllOpened, AreJournals, lists_of, place_at, node_places}
use Rattle.sat_opened.specs.Fits.{FitsNodes, FitsSessions}

-- a site, and a serializer, with its link ends
abbrev pub SiteHeld : Type 0
SiteHeld = HeldSeen SiteSeen ActSeen SiteAnswer

abbrev pub SerialHeld : Type 0
SerialHeld = HeldSeen SerialSeen SerialAct SerialAnswer

-- the journals of these nodes fit, whatever the sessions kept
abbrev pub NodesFit : Deployed → List SiteHeld → List SerialHeld → Type 0
NodesFit d sites serials = (alone : ℕ → List Kept) → FitsNodes d (lists_of sites serials alone)

-- so do those of all opened nodes
abbrev pub OpenedFit : Type 0
OpenedFit = (d : Deployed) (sites : List SiteHeld) (serials : List SerialHeld) → IsDeployment d
    → AllOpened d sites serials → NodesFit d sites serials

-- opened nodes have journals that ran, whatever their links
abbrev pub OpenedAreJournals : Type 0
OpenedAreJournals = (d : Deployed) (sites : List SiteHeld) (serials : List SerialHeld) → AllOpened d sites serials
    → AreJournals d sites serials

-- the list of a node's place is its journal
abbrev pub SitesAreKept : Type 0
SitesAreKept = (d : Deployed) (sites : List SiteHeld) (serials : List SerialHeld) (alone : ℕ → List Kept)
    → AreJournals d sites serials →
    (n i : ℕ) (h : SiteHeld) → slice_get sites n ≡ Some h → h.node.name ≡ named.Site i
    → lists_of sites serials alone (AtSite i) ≡ newest (site_kept i) h.node.entries

abbrev pub SerialsAreKept : Type 0
SerialsAreKept = (d : Deployed) (sites : List SiteHeld) (serials : List SerialHeld) (alone : ℕ → List Kept)
    → AreJournals d sites serials →
    (n e z : ℕ) (h : SerialHeld) → slice_get serials n ≡ Some h → h.node.name ≡ named.Serializer e z
    → lists_of sites serials alone (AtSerializer e z) ≡ newest (serial_kept e z) h.node.entries

-- a node's journal, as the merge of journals takes it, is the list of its place
abbrev pub SiteJournals : Type 0
SiteJournals = (i : ℕ) (es : List (Line ActSeen SiteAnswer))
    → map (kept_under (site_kept i)) es ≡ map entry_under (oldest (newest (site_kept i) es))

abbrev pub SerialJournals : Type 0
SerialJournals = (e z : ℕ) (es : List (Line SerialAct SerialAnswer))
    → map (kept_under (serial_kept e z)) es ≡ map entry_under (oldest (newest (serial_kept e z) es))

-- an entry is of its client's session, or of the operator's, or of none
abbrev pub SitesHaveOwners : Type 0
SitesHaveOwners = (d : Deployed) (sites : List SiteHeld) (serials : List SerialHeld) → AreJournals d sites serials →
    (n i m : ℕ) (h : SiteHeld) (k : Line ActSeen SiteAnswer) → slice_get sites n ≡ Some h → h.node.name ≡ named.Site i
    → slice_get h.node.entries m ≡ Some k → session_of (site_kept i k).act ≡ owner_of k.input.by k.input.input

abbrev pub SerialsHaveOwners : Type 0
SerialsHaveOwners =
    (e z : ℕ) (k : Line SerialAct SerialAnswer) → session_of (serial_kept e z k).act ≡ serial_owner k.input

-- each place of a node is among these once, and nothing was kept at any other
abbrev pub PlacesCover : Type 0
PlacesCover = (d : Deployed) (sites : List SiteHeld) (serials : List SerialHeld) (alone : ℕ → List Kept)
    → AllOpened d sites serials →
    Distinct (node_places d) × ((name : NodeName) → In (node_places d) (place_at name)
    ⊎ (lists_of sites serials alone (place_at name) ≡ []))

-- lists of nodes that fit, with sessions that do, fit
abbrev pub FitsJoin : Type 0
FitsJoin = (d : Deployed) (lists : Place → List Kept) (sessions : Session → List Kept) → FitsNodes d lists
    → FitsSessions d lists sessions → Fit d lists sessions

-- so the journals of all opened nodes, merged with what sessions kept that fit them, are a run
abbrev pub OpenedAreRuns : Type 0
OpenedAreRuns =
    (d : Deployed) (sites : List SiteHeld) (serials : List SerialHeld) (alone : ℕ → List Kept) (sessions : Session
    → List Kept) (all : List Kept) → IsDeployment d → AllOpened d sites serials →
    FitsSessions d (lists_of sites serials alone) sessions → IsMerge (lists_of sites serials alone) all
    → IsRun d (history all)
