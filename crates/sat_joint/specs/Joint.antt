-- When the kept lists of hubs, gears, serializers and sessions fit together.
use Rattle.std.specs.Prelude.{◌≡◌, ◌⊎◌, ℕ, true, false, List, ◌∷◌, ◌++◌, filter, Option, Some}
use Rattle.sat_label.specs.declared.label.Label.{Label}
use Rattle.sat_label.specs.declared.node.NodeId.{NodeId}
use Rattle.sat_label.specs.Members.{In}
use Rattle.sat_tree.specs.Shape.{TreeShape}
use Rattle.sat_tree.specs.Cut.{is_edge}
use Rattle.sat_act.specs.declared.act.Act.{Act}
use Rattle.sat_act.specs.declared.act.Act.TheVariants as act
use Rattle.sat_act.specs.declared.answer.Answer.{Answer}
use Rattle.sat_act.specs.declared.answer.Answer.TheVariants as ans
use Rattle.sat_act.specs.Deployed.{Deployed}
use Rattle.sat_act.specs.Parts.{BeatNote, tree_of, seat}
use Rattle.sat_act.specs.Answers.{InRange}
use Rattle.sat_bulk.specs.Payloads.{Payload}
use Rattle.sat_model.specs.Replay.{carrying}
use Rattle.sat_stitch.specs.Kept.{OfPayload, OfBeat, OfClient, history, Ordered, marks}
use Rattle.sat_stitch.specs.Places.{Session, Client, session_of}
use Rattle.sat_stitch.specs.Nodes.{input_of, stands, put_on, took_from, makes_payload}
use Rattle.sat_stitch.specs.Fit.{IsHanded, IsMade}
use Rattle.sat_joint.specs.Pieces.{Handed, Plain, Drains, Drained, Showing, Piece, number_of, plains, Rises}
use Rattle.sat_joint.specs.Pieces.{piece_marks, EachOf}
use Rattle.sat_joint.specs.Table.{Node, AtHub, AtGear, stands_in, home_at, link_node}
use Rattle.sat_joint.specs.Machines.{HubState, GearNode, hub_after, gear_after, drain_of, IsHomeAnswer, shown_by}
use Rattle.sat_joint.specs.Machines.{written_by, hub_beat, hub_asked}

-- two pieces are of one act
pub record AreOne (j k : Piece) : Type 0 where
  pub number : j.number ≡ k.number
  pub act : j.act ≡ k.act
  pub answer : j.answer ≡ k.answer

-- what a hub and a gear hand to each other in an act of both, of this answer: the hub was handed what the gear
-- gives just before it, or the gear was handed the payload that the hub shows
abbrev pub Hands : HubState → GearNode → ℕ → Handed → Answer → Handed → Type 0
Hands h n g (Drains f) r y = (f g ≡ drain_of n) × (y ≡ Drained)
Hands h n g (Plain x) r y = (l : Label) → r ≡ ans.Shown l → y ≡ Showing (shown_by h l)
Hands h n g Drained r y = ⊥
Hands h n g (Showing p) r y = ⊥

-- what a gear hands to another in an act of gears, of this answer: the payload that it writes
abbrev pub Passes : Act → Handed → Answer → Handed → Type 0
Passes a (Plain x) r y = (l : Label) → r ≡ ans.Wrote l → y ≡ Showing (written_by (input_of a x) l)
Passes a (Drains f) r y = ⊥
Passes a Drained r y = ⊥
Passes a (Showing p) r y = ⊥

-- what the home of an act and another of its nodes hand to each other, by what stands before it in the list of each
abbrev pub HandsOver : Deployed → Node → List Piece → Piece → Node → List Piece → Piece → Type 0
HandsOver d (AtHub i) before k (AtGear t g) former j =
    Hands (hub_after d i before) (gear_after d g former) g k.handed k.answer j.handed
HandsOver d (AtGear i h) before k (AtGear t g) former j = Passes k.act k.handed k.answer j.handed
HandsOver d _ before k _ former j = ⊥

-- in this list, with these pieces before it
pub record StandsIn (ks : List Piece) (before : List Piece) (k : Piece) : Type 0 where
  pub later : List Piece
  pub is : ks ≡ later ++ k ∷ before

module _ (d : Deployed) (lists : Node → List Piece) where
  -- another node's piece of the act
  pub record IsJoined (q p : Node) (before : List Piece) (k : Piece) : Type 0 where
    pub piece : Piece
    pub former : List Piece
    pub there : StandsIn (lists p) former piece
    pub one : AreOne piece k
    pub hands : HandsOver d q before k p former piece

  -- where a piece is at its home, each other node of its act has its piece of it
  abbrev pub AllJoin : Node → List Piece → Piece → Type 0
  AllJoin q before k = home_at d q k ≡ true → (p : Node) → stands_in d p k ≡ true → home_at d p k ≡ false →
      IsJoined q p before k

  -- a piece that is not at its home is one with a piece at its home, and the node is among the nodes of that
  abbrev pub HasHome : Node → Piece → Type 0
  HasHome p k = (q : Node) × (j : Piece) × In (lists q) j × (home_at d q j ≡ true) × (stands_in d p j ≡ true) ×
      AreOne k j

  -- where the piece's home is, the answer is the node's
  abbrev pub AnswersAtHome : Node → List Piece → Piece → Type 0
  AnswersAtHome p before k = home_at d p k ≡ true → IsHomeAnswer d p before k

  abbrev pub PayloadsFit : ℕ → List Piece → Piece → Type 0
  PayloadsFit j before k = (i g n : ℕ) (o : Option ℕ) (p : Payload) → k.act ≡ act.Bulk i g j o →
      k.handed ≡ Plain (OfPayload n p) →
      (n ≡ hub_asked d j (hub_after d j before) i g o) ×
      IsMade (marks (makes_payload d g j) (plains (lists (AtGear i g)))) n p k.number

  abbrev pub BeatsFit : ℕ → List Piece → Piece → Type 0
  BeatsFit j before k = (i n : ℕ) (note : BeatNote) → k.act ≡ act.BeatIn i j n → k.handed ≡ Plain (OfBeat note) →
      IsMade (piece_marks (hub_beat d i j) (lists (AtHub i))) n note k.number

  abbrev pub KnowsClient : ℕ → List Piece → Piece → Type 0
  KnowsClient c before k =
      k.handed ≡ Plain (OfClient (carrying (history (plains before)) c) (seat d (history (plains before)) c))

  -- a session kept the pieces of its client, or of the operator, that are at their homes, and no others, in the
  -- order of their numbers
  pub record IsSessionList (s : Session) (ks : List Piece) : Type 0 where
    pub rising : Rises number_of ks
    pub only : (k : Piece) → In ks k → (session_of k.act ≡ Some s) × ((p : Node) × In (lists p) k ×
        (home_at d p k ≡ true))
    pub whole : (p : Node) (k : Piece) → In (lists p) k → home_at d p k ≡ true → session_of k.act ≡ Some s → In ks k

  -- what the lists of hubs, gears, serializers and sessions have to agree on, so that merged they are one run:
  -- numbers rise, each piece is at its home or one with a piece that is, each answer is its home's, what was taken
  -- was put or made by another node before, and each node of an act has its piece and was handed what the others give
  -- there
  pub record JointFit (sessions : Session → List Piece) : Type 0 where
    pub rising : (p : Node) → Rises number_of (lists p)
    pub placed : (p : Node) (k : Piece) → In (lists p) k → (home_at d p k ≡ true) ⊎ HasHome p k
    pub ranges : (p : Node) (k : Piece) → In (lists p) k → InRange d k.act
    pub answers : (p : Node) → EachOf (AnswersAtHome p) (lists p)
    pub links : (e : ℕ) (t : TreeShape) (u v : NodeId) → tree_of d e ≡ Some t → is_edge t u v ≡ true →
        IsHanded (marks (took_from d e u v) (plains (lists (link_node e v))))
        (marks (put_on d e t u v) (plains (lists (link_node e u))))
    pub payloads : (j : ℕ) → EachOf (PayloadsFit j) (lists (AtHub j))
    pub beats : (j : ℕ) → EachOf (BeatsFit j) (lists (AtHub j))
    pub kept : (s : Session) → IsSessionList s (sessions s)
    pub known : (c : ℕ) → EachOf (KnowsClient c) (sessions (Client c))
    pub standing : (p : Node) (k : Piece) → In (lists p) k → stands k.answer ≡ true
    pub joined : (p : Node) → EachOf (AllJoin p) (lists p)

-- the pieces of these lists that are at their homes, in the order of their numbers, each node's in its own order
pub record IsJointMerge (d : Deployed) (lists : Node → List Piece) (all : List Piece) : Type 0 where
  pub ordered : Ordered (plains all)
  pub whole : (k : Piece) → In all k → (p : Node) × In (lists p) k × (home_at d p k ≡ true)
  pub parts : (p : Node) → filter (home_at d p) all ≡ filter (home_at d p) (lists p)
