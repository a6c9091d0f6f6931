-- Journals of nodes, stitched: the entries at their homes, ordered by number, then place, then as the journal has
-- them. In this file lists are the oldest first.
use Rattle.std.specs.Prelude.{◌≡◌, ◌⊎◌, ℕ, Bool, true, false, List, [], ◌∷◌, ◌++◌, map, filter, reverse}
use Rattle.sat_label.specs.Members.{In}
use Rattle.sat_act.specs.declared.entry.Entry.{Entry}
use Rattle.sat_act.specs.Deployed.{Deployed}
use Rattle.sat_act.specs.Runs.{IsRun}
use Rattle.sat_act.specs.Settling.{run}
use Rattle.sat_act.specs.Goals.{IsValid}
use Rattle.sat_stitch.specs.Kept.{Distinct, entry_of, history, acts_of}
use Rattle.sat_stitch.specs.Places.{Session, session_part}
use Rattle.sat_stitch.specs.Stitch.{Numbered, stitched}
use Rattle.sat_joint.specs.Pieces.{Piece, number_of, plain, plains, Rises}
use Rattle.sat_joint.specs.Table.{Node, home_at, node_part}
use Rattle.sat_joint.specs.Joint.{JointFit, IsJointMerge}

-- what a node kept of acts whose home it is
abbrev pub homes : Deployed → (Node → List Piece) → Node → List Piece
homes d lists p = filter (home_at d p) (lists p)

abbrev pub oldest : List Piece → List (ℕ × Piece)
oldest [] = []
oldest (k ∷ ks) = oldest ks ++ (k.number, k) ∷ []

-- these lists as journals, each with its node's number
abbrev pub piece_journals : (Node → ℕ) → (Node → List Piece) → List Node → List (Numbered Piece)
piece_journals rank lists [] = []
piece_journals rank lists (p ∷ ps) = (rank p, oldest (lists p)) ∷ piece_journals rank lists ps

-- each node that kept something is one of these
abbrev pub Covers : (Node → List Piece) → List Node → Type 0
Covers lists names = (p : Node) → In names p ⊎ (lists p ≡ [])

-- the journals of all nodes that kept something, stitched, are their merge, whatever the nodes' numbers are
abbrev pub JointStitchesMerge : Type 0
JointStitchesMerge = (d : Deployed) (lists : Node → List Piece) (rank : Node → ℕ) (names : List Node) →
    Distinct names → Covers lists names → ((p : Node) → Rises number_of (lists p)) →
    IsJointMerge d lists (reverse (stitched (piece_journals rank (homes d lists) names)))

-- ---- journals of entries alone

-- what a node keeps without what was handed: a number, an entry, and whether the node is the act's home
abbrev pub Noted : Type 0
Noted = ℕ × Entry × Bool

abbrev pub noted : Deployed → Node → ℕ × Piece → Noted
noted d p e = (e.0, entry_of (plain e.1), home_at d p e.1)

abbrev pub noted_journals : Deployed → (Node → ℕ) → (Node → List Piece) → List Node → List (ℕ × List Noted)
noted_journals d rank lists [] = []
noted_journals d rank lists (p ∷ ps) = (rank p, map (noted d p) (oldest (lists p))) ∷ noted_journals d rank lists ps

abbrev pub noted_if : Bool → ℕ × Entry → List (ℕ × Entry) → List (ℕ × Entry)
noted_if true e es = e ∷ es
noted_if false e es = es

-- the entries at their homes
abbrev pub home_entries : List Noted → List (ℕ × Entry)
home_entries [] = []
home_entries (e ∷ es) = noted_if e.2 (e.0, e.1) (home_entries es)

abbrev pub home_journal : ℕ × List Noted → Numbered Entry
home_journal j = (j.0, home_entries j.1)

-- where these journals are kept lists that fit, the whole is one run, whose parts are the lists, and those of the
-- sessions
abbrev pub IsOneJointRun : List (ℕ × List Noted) → List Entry → Type 0
IsOneJointRun js all = (d : Deployed) (lists : Node → List Piece) (sessions : Session → List Piece) (rank : Node →
    ℕ) (names : List Node) → IsValid d → JointFit d lists sessions → Distinct names → Covers lists names →
    js ≡ noted_journals d rank lists names →
    IsRun d (reverse all) × (run d (acts_of (reverse all)) ≡ reverse all) × ((p : Node) →
    node_part d (reverse all) p ≡ history (plains (lists p))) × ((s : Session) →
    session_part (reverse all) s ≡ history (plains (sessions s)))

abbrev pub JointStitchesAreRuns : Type 0
JointStitchesAreRuns = (js : List (ℕ × List Noted)) → IsOneJointRun js (stitched (map home_journal js))
