-- The kept lists of a merged list: what each node of each act kept of it.
use Rattle.std.specs.Prelude.{◌≡◌, ℕ, Bool, true, false, List, [], ◌∷◌, filter, if◌then◌else◌}
use Rattle.sat_act.specs.declared.act.Act.{Act}
use Rattle.sat_act.specs.declared.act.Act.TheVariants as act
use Rattle.sat_act.specs.declared.answer.Answer.{Answer}
use Rattle.sat_act.specs.declared.answer.Answer.TheVariants as ans
use Rattle.sat_act.specs.Deployed.{Deployed}
use Rattle.sat_act.specs.declared.entry.Entry.{Entry}
use Rattle.sat_act.specs.Runs.{IsRun}
use Rattle.sat_act.specs.Goals.{IsValid}
use Rattle.sat_stitch.specs.Kept.{Given, Kept, history}
use Rattle.sat_stitch.specs.Given.{kept_all, IsLive}
use Rattle.sat_stitch.specs.Places.{Session, in_session}
use Rattle.sat_joint.specs.Pieces.{Handed, Plain, Drains, Drained, Showing, Piece, plain, plains}
use Rattle.sat_joint.specs.Table.{Node, AtHub, AtGear, nodes, is_first, node_at}
use Rattle.sat_joint.specs.Joint.{JointFit, IsJointMerge}
use Rattle.sat_joint.specs.Machines.{drain_of, hub_after, gear_after, shown_by, written_by}
use Rattle.sat_stitch.specs.Nodes.{input_of}

-- what an act hands to its home, by the lists of the nodes before it
abbrev pub hands_home : Deployed → (Node → List Piece) → Act → Given → Handed
hands_home d lists (act.Gather i) x = Drains (λ g. drain_of (gear_after d g (lists (AtGear i g))))
hands_home d lists _ x = Plain x

-- and to a gear that is not its home
abbrev pub hands_gear : Deployed → ℕ → (Node → List Piece) → Act → Given → Answer → Handed
hands_gear d i lists a x (ans.Shown l) = Showing (shown_by (hub_after d i (lists (AtHub i))) l)
hands_gear d i lists a x (ans.Wrote l) = Showing (written_by (input_of a x) l)
hands_gear d i lists a x _ = Drained

abbrev pub hands_other : Deployed → (Node → List Piece) → Node → Act → Given → Answer → Handed
hands_other d lists (AtGear i g) a x r = hands_gear d i lists a x r
hands_other d lists _ a x r = Drained

abbrev pub hands_at : Deployed → (Node → List Piece) → Node → Kept → Handed
hands_at d lists p k =
    if is_first p (nodes d k.act k.given k.answer)
    then hands_home d lists k.act k.given
    else hands_other d lists p k.act k.given k.answer

abbrev pub piece_under : Kept → Handed → Piece
piece_under k y = record { number = k.number; act = k.act; handed = y; answer = k.answer }

abbrev pub piece_if : Bool → Piece → List Piece → List Piece
piece_if true k ks = k ∷ ks
piece_if false k ks = ks

-- what a node kept of the acts of a merged list
abbrev pub split_lists : Deployed → List Kept → Node → List Piece
split_lists d [] p = []
split_lists d (k ∷ ks) p =
    piece_if (node_at d p k) (piece_under k (hands_at d (split_lists d ks) p k)) (split_lists d ks p)

-- the pieces at their homes
abbrev pub home_pieces : Deployed → List Kept → List Piece
home_pieces d [] = []
home_pieces d (k ∷ ks) = piece_under k (hands_home d (split_lists d ks) k.act k.given) ∷ home_pieces d ks

abbrev pub piece_sessions : Deployed → List Kept → Session → List Piece
piece_sessions d ks s = filter (λ k. in_session s (plain k)) (home_pieces d ks)

-- the lists of each run without clocks, settles and answers that speak of other nodes fit, and their merge is the run
abbrev pub JointRunsFit : Type 0
JointRunsFit = (d : Deployed) (h : List Entry) → IsValid d → IsRun d h → IsLive h →
    JointFit d (split_lists d (kept_all d h)) (piece_sessions d (kept_all d h)) ×
    IsJointMerge d (split_lists d (kept_all d h)) (home_pieces d (kept_all d h)) ×
    (history (plains (home_pieces d (kept_all d h))) ≡ h)
