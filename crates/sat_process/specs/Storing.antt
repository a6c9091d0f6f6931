-- All processes of a store.
use Rattle.std.specs.Prelude.{List, map}
use Rattle.sat_label.specs.declared.node.NodeName.{NodeName}
use Rattle.sat_act.specs.Deployed.{Deployed}
use Rattle.sat_act.specs.Headline.{HasTrees, IsGood}
use Rattle.sat_act.specs.Limits.{IsDeployment}
use Rattle.sat_act.specs.Runs.{IsRun}
use Rattle.sat_stitch.specs.Kept.{Kept, history}
use Rattle.sat_stitch.specs.Fit.{IsMerge}
use Rattle.sat_opened.specs.Opened.{lists_of}
use Rattle.sat_session.specs.Notes.{SessionSeen, node_notes, session_notes}
use Rattle.sat_session.specs.Sessions.{AreSessions, SameNotes, alone_in}
use Rattle.sat_host_laws.specs.Messages.{Carried, HostSeen, SerialHost, SiteHost, held_of}
use Rattle.sat_process.specs.Processes.{ProcessSeen}

-- the host of a process
abbrev pub host_in : {D T M I A : Type 0} → ProcessSeen D T M I A → HostSeen M I A
host_in p = p.host

-- whose it is
abbrev pub name_in : {D T M I A : Type 0} → ProcessSeen D T M I A → NodeName
name_in p = p.host.node.name

-- of a store with these sessions: the transports made nothing up, and hosts and sessions noted the same acts
pub record IsTold (d : Deployed) (sites : List SiteHost) (serials : List SerialHost)
    (xs : List SessionSeen) : Type 0 where
  pub carried : Carried d sites serials
  pub sessions : AreSessions d xs
  pub same : SameNotes (node_notes (map held_of sites) (map held_of serials)) (session_notes d xs)

-- then the journals, merged, are one run
abbrev pub AreOneRun : Deployed → List SiteHost → List SerialHost → Type 0
AreOneRun d sites serials =
    (xs : List SessionSeen) (all : List Kept) → IsDeployment d → IsTold d sites serials xs →
    IsMerge (lists_of (map held_of sites) (map held_of serials) (alone_in d xs)) all → IsRun d (history all)

-- and the headline holds of it
abbrev pub AreGood : Deployed → List SiteHost → List SerialHost → Type 0
AreGood d sites serials =
    (xs : List SessionSeen) (all : List Kept) → IsDeployment d → HasTrees d → IsTold d sites serials xs →
    IsMerge (lists_of (map held_of sites) (map held_of serials) (alone_in d xs)) all → IsGood d (history all)
