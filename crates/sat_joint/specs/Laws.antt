-- What this crate proves of kept lists of hubs and gears.
use Rattle.std.specs.Prelude.{◌≡◌, List}
use Rattle.sat_act.specs.Deployed.{Deployed}
use Rattle.sat_act.specs.Runs.{IsRun}
use Rattle.sat_act.specs.Settling.{run}
use Rattle.sat_act.specs.Goals.{IsValid}
use Rattle.sat_act.specs.Headline.{HasTrees, IsGood}
use Rattle.sat_stitch.specs.Kept.{history, acts_of}
use Rattle.sat_stitch.specs.Places.{Session, session_part}
use Rattle.sat_joint.specs.Pieces.{Piece, plains}
use Rattle.sat_joint.specs.Table.{Node, node_part}
use Rattle.sat_joint.specs.Joint.{JointFit, IsJointMerge}

-- kept lists of hubs, gears, serializers and sessions that fit, merged with each act once at its home, are a run
abbrev pub JointMergesAreRuns : Type 0
JointMergesAreRuns = (d : Deployed) (lists : Node → List Piece) (sessions : Session →
    List Piece) (all : List Piece) → IsValid d → JointFit d lists sessions → IsJointMerge d lists all →
    IsRun d (history (plains all))

-- and that of their acts alone
abbrev pub JointActsAreEnough : Type 0
JointActsAreEnough = (d : Deployed) (lists : Node → List Piece) (sessions : Session →
    List Piece) (all : List Piece) → IsValid d → JointFit d lists sessions → IsJointMerge d lists all →
    run d (acts_of (history (plains all))) ≡ history (plains all)

-- and each list is the part of this run at its node
abbrev pub JointListsAreParts : Type 0
JointListsAreParts = (d : Deployed) (lists : Node → List Piece) (sessions : Session →
    List Piece) (all : List Piece) → IsValid d → JointFit d lists sessions → IsJointMerge d lists all →
    (p : Node) → node_part d (history (plains all)) p ≡ history (plains (lists p))

-- and its entries of a client, or of the operator, are those that the session kept, in their order
abbrev pub JointSessionsAreParts : Type 0
JointSessionsAreParts = (d : Deployed) (lists : Node → List Piece) (sessions : Session →
    List Piece) (all : List Piece) → IsValid d → JointFit d lists sessions → IsJointMerge d lists all →
    (s : Session) → session_part (history (plains all)) s ≡ history (plains (sessions s))

-- so the headline holds of it
abbrev pub JointMergesAreGood : Type 0
JointMergesAreGood = (d : Deployed) (lists : Node → List Piece) (sessions : Session →
    List Piece) (all : List Piece) → IsValid d → HasTrees d → JointFit d lists sessions →
    IsJointMerge d lists all → IsGood d (history (plains all))
