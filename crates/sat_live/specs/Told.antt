-- What is told of a script that nodes on threads did, status by status.
use Rattle.std.specs.Prelude.{ℕ, ◌≡◌, ◌≢◌, ◌≤◌, ◌<◌, ◌⊎◌, false, List, ◌++◌, length, reverse, Option, Some, None}
use Rattle.std.specs.Prelude.{option_map, IfSome}
use Rattle.sat_label.specs.declared.node.NodeName.{NodeName}
use Rattle.sat_label.specs.declared.node.NodeName.TheVariants as named
use Rattle.sat_label.specs.Members.{In}
use Rattle.sat_tree.specs.Shape.{TreeShape}
use Rattle.sat_act.specs.declared.act.Act.{Act}
use Rattle.sat_act.specs.declared.act.Act.TheVariants.{Gather, Settle, Stamp, Turn, Writes}
use Rattle.sat_act.specs.declared.answer.Answer.TheVariants.{Settled}
use Rattle.sat_act.specs.declared.entry.Entry.{Entry}
use Rattle.sat_act.specs.Deployed.{Deployed}
use Rattle.sat_act.specs.Parts.{tree_of}
use Rattle.sat_act.specs.Settling.{answer_of}
use Rattle.sat_script.specs.Spelled.{AreActsOf, spelling}
use Rattle.sat_stream.specs.Laws.{CanBeSpelled}
use Rattle.sat_report.specs.Holdings.{report}
use Rattle.sat_runs.specs.Good.{IsGoodRun}
use Rattle.sat_runs.specs.Runs.{history}
use Rattle.sat_session.specs.declared.noted.Noted.{Noted}
use Rattle.sat_session.specs.Owned.{Owned}
use Rattle.sat_parts_notes.specs.Differences.{IsDifference}
use Rattle.sat_finish.specs.declared.joint.Given.{Given}
use Rattle.sat_finish.specs.declared.joint.Joint.{Joint}
use Rattle.sat_stitch.specs.Places.{Session, session_of}
use Rattle.sat_undone.specs.Undone.{AreDone, AreFronts, acts_of, undone}
use Rattle.sat_outcome.specs.Texts.{apart_text, differ_text, undone_text, unsettled_text}

-- These are the acts of the one journal of nodes and sessions that did this script. Each of them has a line under the
-- deployment's header, their history is good, and what each session did in it is a front of its acts in the script
pub record AreActsDone (d : Deployed) (acts done : List Act) : Type 0 where
  pub each : AreActsOf d done
  pub good : IsGoodRun d done
  pub fronts : AreFronts (reverse (history d done)) acts

-- 0: the text is the script of the acts of the journal, and behind it the report of their history. Each session did all
-- its acts, in their order, or a front of them at whose end its client gave up; and a settle behind them has nothing
-- left to do. And the text has one reading: no other script is spelled at its beginning, so that who reads it finds
-- these acts
pub record HasLived (d : Deployed) (acts : List Act) (text : List ℕ) : Type 0 where
  pub done : List Act
  pub journal : AreActsDone d acts done
  pub all : AreDone (reverse (history d done)) acts
  pub moves : ℕ
  pub settled : answer_of d (history d done) Settle ≡ Settled 0 moves
  pub written : text ≡ spelling d done ++ report d (history d done)
  pub readable : CanBeSpelled d done
  pub only : (e : Deployed) (others : List Act) (rest : List ℕ) → CanBeSpelled e others
      → text ≡ spelling e others ++ rest
      → (d ≡ e) × (done ≡ others) × (report d (history d done) ≡ rest)

-- the hub of a site of the deployment, a gear of a site, or a serializer of an epoch's tree
abbrev pub IsNodeOf : Deployed → NodeName → Type 0
IsNodeOf d (named.Site i) = i < d.sites
IsNodeOf d (named.Gear i g) = (i < d.sites) × (g < d.gears)
IsNodeOf d (named.Serializer e z) = (tree : TreeShape) × (1 ≤ e) × (tree_of d e ≡ Some tree) × (z < length tree.parents)

-- a note of an act that stands for itself, and is no part of a settle, at a node of the deployment
pub record IsAtNode (d : Deployed) (n : Noted) : Type 0 where
  pub outer : n.entry.inner ≡ false
  pub node : (name : NodeName) × (n.at ≡ Some name) × IsNodeOf d name

-- an entry of an act of this session, one of its acts in the script
pub record IsTried (s : Session) (acts : List Act) (e : Entry) : Type 0 where
  pub own : session_of e.act ≡ Some s
  pub act : In (acts_of s acts) e.act

-- one of the two notes at least is there, and tells of the script: what the session kept is of an act of its own in it;
-- where it kept nothing, what a node kept is of an act of the script
abbrev pub TellsAct : List Act → Session → Option Noted → Option Noted → Type 0
TellsAct acts owner kept (Some n) = IsTried owner acts n.entry
TellsAct acts owner (Some n) None = In acts n.entry.act
TellsAct acts owner None None = ⊥

-- the text tells what a node kept of an act of a session, and what the session kept of it. They are not the same. What
-- sessions kept is of their acts in the script
pub record NotesDiffer (d : Deployed) (acts : List Act) (text : List ℕ) : Type 0 where
  pub nodes : List Owned
  pub sessions : List Owned
  pub each : (s : Session) (n : Noted) → In sessions (s, n) → IsTried s acts n.entry
  pub node : Option Noted
  pub session : Option Noted
  pub difference : IsDifference nodes sessions node session
  pub tells : TellsAct acts difference.owner node session
  pub at_node : IfSome node (IsAtNode d)
  pub at_session : IfSome session (IsAtNode d)
  pub apart : node ≢ session
  pub written : text ≡ differ_text d node session

-- a part of an act that stands for itself, and is no part of a settle, at a node of the deployment
pub record IsPartAt (d : Deployed) (j : Joint) : Type 0 where
  pub outer : j.entry.inner ≡ false
  pub node : IsNodeOf d j.at

-- what a node kept of an act of several nodes: the act with its answer, and what passed between its home and a gear
abbrev pub kept_of : Joint → Entry × Given
kept_of j = (j.entry, j.given)

-- the hub of a site, or one of its gears
abbrev pub IsOfSite : ℕ → NodeName → Type 0
IsOfSite i (named.Site k) = k ≡ i
IsOfSite i (named.Gear k g) = k ≡ i
IsOfSite i _ = ⊥

-- what the home of an act kept of it, and what a gear of the same site did, if anything: they are not the same
pub record ArePartsApart (home other : Option Joint) : Type 0 where
  pub site : ℕ
  pub gear : ℕ
  pub whose : IfSome home (λ j. IsOfSite site j.at)
  pub gears : IfSome other (λ j. j.at ≡ named.Gear site gear)
  pub apart : option_map kept_of home ≢ option_map kept_of other

-- an act of several nodes: a gather, a turn or a stamp, or a write of several items that stands in the script
abbrev pub IsJointAct : List Act → Act → Type 0
IsJointAct acts (Gather i) = Unit {0}
IsJointAct acts (Turn i) = Unit {0}
IsJointAct acts (Stamp i) = Unit {0}
IsJointAct acts (Writes c items values) = In acts (Writes c items values)
IsJointAct acts _ = ⊥

-- one of the two parts at least is there, and tells of such an act: the home's, or the other node's where the home has
-- none
abbrev pub TellsPart : List Act → Option Joint → Option Joint → Type 0
TellsPart acts (Some j) other = IsJointAct acts j.entry.act
TellsPart acts None (Some j) = IsJointAct acts j.entry.act
TellsPart acts None None = ⊥

-- the text tells what the home of an act of several nodes kept of it under its number, and what another of its nodes
-- did. They are not the same
pub record PartsDiffer (d : Deployed) (acts : List Act) (text : List ℕ) : Type 0 where
  pub number : ℕ
  pub home : Option Joint
  pub other : Option Joint
  pub parts : ArePartsApart home other
  pub tells : TellsPart acts home other
  pub at_home : IfSome home (IsPartAt d)
  pub at_other : IfSome other (IsPartAt d)
  pub written : text ≡ apart_text d number home other

-- 6: two that keep an act did not keep the same of it: a node and a session, or two nodes
abbrev pub HasDiffered : Deployed → List Act → List ℕ → Type 0
HasDiffered d acts text = NotesDiffer d acts text ⊎ PartsDiffer d acts text

-- the journal lacks an act of the script: the text tells the first of them
pub record LacksAct (d : Deployed) (acts done : List Act) (text : List ℕ) : Type 0 where
  pub act : Act
  pub first : undone (reverse (history d done)) acts ≡ Some act
  pub written : text ≡ undone_text d act

-- it lacks none, but a settle behind it has something left to do: the text tells in how many rounds, and how many acts
-- it did
pub record IsUnsettled (d : Deployed) (acts done : List Act) (text : List ℕ) : Type 0 where
  pub none : undone (reverse (history d done)) acts ≡ None
  pub rounds : ℕ
  pub moves : ℕ
  pub settled : answer_of d (history d done) Settle ≡ Settled rounds moves
  pub some : rounds ≢ 0
  pub written : text ≡ unsettled_text rounds moves

-- 8: the script is not done, or not settled
pub record HasLeft (d : Deployed) (acts : List Act) (text : List ℕ) : Type 0 where
  pub done : List Act
  pub journal : AreActsDone d acts done
  pub left : LacksAct d acts done text ⊎ IsUnsettled d acts done text

-- the text and the status tell of this script; there is no other status
pub record IsTold (d : Deployed) (acts : List Act) (text : List ℕ) (status : ℕ) : Type 0 where
  pub lived : status ≡ 0 → HasLived d acts text
  pub differed : status ≡ 6 → HasDiffered d acts text
  pub left : status ≡ 8 → HasLeft d acts text
  pub statuses : (status ≡ 0) ⊎ (status ≡ 6) ⊎ (status ≡ 8)
