-- What `Fit` asks of the lists of nodes, and what it asks of sessions.
use Rattle.std.specs.Prelude.{◌≡◌, ℕ, true, List, [], ◌∷◌, Some}
use Rattle.sat_label.specs.declared.node.NodeId.{NodeId}
use Rattle.sat_label.specs.Members.{In}
use Rattle.sat_tree.specs.Shape.{TreeShape}
use Rattle.sat_tree.specs.Cut.{is_edge}
use Rattle.sat_act.specs.Deployed.{Deployed}
use Rattle.sat_act.specs.Parts.{tree_of}
use Rattle.sat_act.specs.Answers.{InRange}
use Rattle.sat_stitch.specs.Kept.{Kept, Each, Rising, marks}
use Rattle.sat_stitch.specs.Places.{Place, AtSite, AtSerializer, InSession, places, node_place, Session, Client}
use Rattle.sat_stitch.specs.Nodes.{IsAnswerAt, stands, put_on, took_from}
use Rattle.sat_stitch.specs.Fit.{IsHanded, PayloadsHanded, BeatsHanded, IsKnown, IsSessionOf}

-- of the list of one place
pub record FitsPlace (d : Deployed) (p : Place) (ks : List Kept) : Type 0 where
  pub rising : Rising ks
  pub placed : (k : Kept) → In ks k → places k.act k.given ≡ p ∷ []
  pub ranges : (k : Kept) → In ks k → InRange d k.act
  pub answers : Each (IsAnswerAt d p) ks
  pub standing : (k : Kept) → In ks k → stands k.answer ≡ true

-- of the lists of sites and serializers
pub record FitsNodes (d : Deployed) (lists : Place → List Kept) : Type 0 where
  pub sites : (i : ℕ) → FitsPlace d (AtSite i) (lists (AtSite i))
  pub serials : (e z : ℕ) → FitsPlace d (AtSerializer e z) (lists (AtSerializer e z))
  pub links : (e : ℕ) (t : TreeShape) (u v : NodeId) → tree_of d e ≡ Some t → is_edge t u v ≡ true →
      IsHanded (marks (took_from d e u v) (lists (node_place e v))) (marks (put_on d e t u v) (lists (node_place e u)))
  pub payloads : (j : ℕ) → Each (PayloadsHanded d lists j) (lists (AtSite j))
  pub beats : (j : ℕ) → Each (BeatsHanded d lists j) (lists (AtSite j))

-- of sessions: what each client's kept alone, and all that each kept
pub record FitsSessions (d : Deployed) (lists : Place → List Kept) (sessions : Session → List Kept) : Type 0 where
  pub alone : (c : ℕ) → FitsPlace d (InSession c) (lists (InSession c))
  pub kept : (s : Session) → IsSessionOf d lists s (sessions s)
  pub known : (c : ℕ) → Each (IsKnown d lists c) (sessions (Client c))
