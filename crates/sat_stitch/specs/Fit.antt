-- When kept lists fit together.
use Rattle.std.specs.Prelude.{◌≡◌, ◌<◌, ℕ, true, List, [], ◌∷◌, filter, Option, Some, slice_get}
use Rattle.sat_label.specs.declared.node.NodeId.{NodeId}
use Rattle.sat_tree.specs.Shape.{TreeShape}
use Rattle.sat_tree.specs.Cut.{is_edge}
use Rattle.sat_act.specs.declared.act.Act.TheVariants as act
use Rattle.sat_act.specs.Deployed.{Deployed}
use Rattle.sat_act.specs.Parts.{BeatNote, tree_of, seat}
use Rattle.sat_act.specs.Answers.{InRange}
use Rattle.sat_bulk.specs.Payloads.{Payload}
use Rattle.sat_model.specs.Replay.{carrying}
use Rattle.sat_label.specs.Members.{In}
use Rattle.sat_stitch.specs.Kept.{OfPayload, OfBeat, OfClient, Kept, history, Each, Rising, Ordered, Distinct, marks}
use Rattle.sat_stitch.specs.Places.{Place, AtSite, places, stands_at, node_place, Session, Client, session_of}
use Rattle.sat_stitch.specs.Nodes.{IsAnswerAt, stands, put_on, took_from, makes_payload, makes_beat, asked, site_after}

-- the k-th that was taken is the k-th that was put, and has a greater number
abbrev pub IsHanded : {X : Type 0} → List (ℕ × X) → List (ℕ × X) → Type 0
IsHanded {X} took put =
    (k n : ℕ) (x : X) → slice_get took k ≡ Some (n, x) → (m : ℕ) × (slice_get put k ≡ Some (m, x)) × (m < n)

-- the thing of this number among what was made, by an entry with a smaller number
abbrev pub IsMade : {X : Type 0} → List (ℕ × X) → ℕ → X → ℕ → Type 0
IsMade made n x number = (m : ℕ) × (slice_get made n ≡ Some (m, x)) × (m < number)

module _ (d : Deployed) (lists : Place → List Kept) where
  -- a payload that was handed is the sender's of its number, and the one that was asked for
  abbrev pub PayloadsHanded : ℕ → List Kept → Kept → Type 0
  PayloadsHanded j before k =
      (i g n : ℕ) (o : Option ℕ) (p : Payload) → k.act ≡ act.Bulk i g j o → k.given ≡ OfPayload n p →
      (n ≡ asked (site_after d j before) i g o) × IsMade (marks (makes_payload d g j) (lists (AtSite i))) n p k.number

  -- and so is a beat
  abbrev pub BeatsHanded : ℕ → List Kept → Kept → Type 0
  BeatsHanded j before k = (i n : ℕ) (note : BeatNote) → k.act ≡ act.BeatIn i j n → k.given ≡ OfBeat note
      → IsMade (marks (makes_beat d i j) (lists (AtSite i))) n note k.number

  -- a client's act was handed what the client carries and its seat, by the entries of the client before it
  abbrev pub IsKnown : ℕ → List Kept → Kept → Type 0
  IsKnown c before k = k.given ≡ OfClient (carrying (history before) c) (seat d (history before) c)

  -- a session kept the entries of its client, or of the operator, and no others, in the order of their numbers
  pub record IsSessionOf (s : Session) (ks : List Kept) : Type 0 where
    pub rising : Rising ks
    pub only : (k : Kept) → In ks k → (session_of k.act ≡ Some s) × ((p : Place) × In (lists p) k)
    pub whole : (p : Place) (k : Kept) → In (lists p) k → session_of k.act ≡ Some s → In ks k

  -- what the lists of nodes and sessions have to agree on, so that merged they are one run: numbers rise, each act is
  -- at its place with its place's answer, what was taken of a link, a lane or the beats was put there before, and
  -- each client's list is one session
  pub record Fit (sessions : Session → List Kept) : Type 0 where
    pub rising : (p : Place) → Rising (lists p)
    pub placed : (p : Place) (k : Kept) → In (lists p) k → places k.act k.given ≡ p ∷ []
    pub ranges : (p : Place) (k : Kept) → In (lists p) k → InRange d k.act
    pub answers : (p : Place) → Each (IsAnswerAt d p) (lists p)
    pub links : (e : ℕ) (t : TreeShape) (u v : NodeId) → tree_of d e ≡ Some t → is_edge t u v ≡ true →
        IsHanded (marks (took_from d e u v) (lists (node_place e v)))
        (marks (put_on d e t u v) (lists (node_place e u)))
    pub payloads : (j : ℕ) → Each (PayloadsHanded j) (lists (AtSite j))
    pub beats : (j : ℕ) → Each (BeatsHanded j) (lists (AtSite j))
    pub kept : (s : Session) → IsSessionOf s (sessions s)
    pub known : (c : ℕ) → Each (IsKnown c) (sessions (Client c))
    pub standing : (p : Place) (k : Kept) → In (lists p) k → stands k.answer ≡ true

  -- the same of lists whose numbers need not rise, as long as no entry stands twice: a list may be what several nodes
  -- kept
  pub record LooseFit (sessions : Session → List Kept) : Type 0 where
    pub single : (p : Place) → Distinct (lists p)
    pub placed : (p : Place) (k : Kept) → In (lists p) k → places k.act k.given ≡ p ∷ []
    pub ranges : (p : Place) (k : Kept) → In (lists p) k → InRange d k.act
    pub answers : (p : Place) → Each (IsAnswerAt d p) (lists p)
    pub links : (e : ℕ) (t : TreeShape) (u v : NodeId) → tree_of d e ≡ Some t → is_edge t u v ≡ true →
        IsHanded (marks (took_from d e u v) (lists (node_place e v)))
        (marks (put_on d e t u v) (lists (node_place e u)))
    pub payloads : (j : ℕ) → Each (PayloadsHanded j) (lists (AtSite j))
    pub beats : (j : ℕ) → Each (BeatsHanded j) (lists (AtSite j))
    pub kept : (s : Session) → IsSessionOf s (sessions s)
    pub known : (c : ℕ) → Each (IsKnown c) (sessions (Client c))
    pub standing : (p : Place) (k : Kept) → In (lists p) k → stands k.answer ≡ true

-- all entries of these lists, in the order of their numbers; each list's entries in its own order
pub record IsMerge (lists : Place → List Kept) (all : List Kept) : Type 0 where
  pub ordered : Ordered all
  pub whole : (k : Kept) → In all k → (p : Place) × In (lists p) k
  pub parts : (p : Place) → filter (stands_at p) all ≡ lists p
