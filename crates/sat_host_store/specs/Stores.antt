-- A store over a transport of the builder's, with its sessions.
use Rattle.std.specs.Prelude.{List, map}
use Rattle.sat_act.specs.Deployed.{Deployed}
use Rattle.sat_act.specs.Headline.{HasTrees, IsGood}
use Rattle.sat_act.specs.Limits.{IsDeployment}
use Rattle.sat_act.specs.Runs.{IsRun}
use Rattle.sat_stitch.specs.Kept.{Kept, history}
use Rattle.sat_stitch.specs.Fit.{IsMerge}
use Rattle.sat_opened.specs.Opened.{lists_of}
use Rattle.sat_session.specs.Notes.{SessionSeen, node_notes, session_notes}
use Rattle.sat_session.specs.Sessions.{AreSessions, SameNotes, alone_in}
use Rattle.sat_host_laws.specs.Messages.{SiteHost, SerialHost, AllKept, Carried, held_of}

-- what is known of all of a store: its hosts, each with what it keeps true; that the transport made nothing up; its
-- sessions; and that hosts and sessions noted the same acts
pub record IsStore (d : Deployed) (sites : List SiteHost) (serials : List SerialHost)
    (xs : List SessionSeen) : Type 0 where
  pub hosts : AllKept d sites serials
  pub carried : Carried d sites serials
  pub sessions : AreSessions d xs
  pub same : SameNotes (node_notes (map held_of sites) (map held_of serials)) (session_notes d xs)

-- then the journals, merged, are one run
abbrev pub StoresAreOneRun : Type 0
StoresAreOneRun =
    (d : Deployed) (sites : List SiteHost) (serials : List SerialHost) (xs : List SessionSeen) (all : List Kept)
    → IsDeployment d → IsStore d sites serials xs →
    IsMerge (lists_of (map held_of sites) (map held_of serials) (alone_in d xs)) all → IsRun d (history all)

-- and the headline holds of it
abbrev pub StoresHold : Type 0
StoresHold =
    (d : Deployed) (sites : List SiteHost) (serials : List SerialHost) (xs : List SessionSeen) (all : List Kept)
    → IsDeployment d → HasTrees d → IsStore d sites serials xs →
    IsMerge (lists_of (map held_of sites) (map held_of serials) (alone_in d xs)) all → IsGood d (history all)
