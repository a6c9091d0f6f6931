-- What is told of the run of a journal's acts.
use Rattle.std.specs.Prelude.{ℕ, ◌≡◌, ◌≢◌, ◌⊎◌, List, ◌++◌, Option, None, IfSome}
use Rattle.sat_label.specs.Members.{In}
use Rattle.sat_act.specs.declared.act.Act.{Act}
use Rattle.sat_act.specs.declared.act.Act.TheVariants.{Settle}
use Rattle.sat_act.specs.declared.answer.Answer.TheVariants.{Settled}
use Rattle.sat_act.specs.Deployed.{Deployed}
use Rattle.sat_act.specs.Settling.{answer_of}
use Rattle.sat_script.specs.Spelled.{spelling}
use Rattle.sat_report.specs.Holdings.{report}
use Rattle.sat_runs.specs.Runs.{history}
use Rattle.sat_session.specs.declared.noted.Noted.{Noted}
use Rattle.sat_finish.specs.declared.joint.Joint.{Joint}
use Rattle.sat_outcome.specs.Texts.{unsettled_text}
use Rattle.sat_live.specs.Told.{IsAtNode, IsJointAct, IsPartAt}

-- a settle behind them has nothing left to do: their script, and their report
pub record IsRunWhole (d : Deployed) (done : List Act) (text : List ℕ) : Type 0 where
  pub moves : ℕ
  pub settled : answer_of d (history d done) Settle ≡ Settled 0 moves
  pub written : text ≡ spelling d done ++ report d (history d done)

-- or it has
pub record IsRunUnsettled (d : Deployed) (done : List Act) (text : List ℕ) : Type 0 where
  pub rounds : ℕ
  pub moves : ℕ
  pub settled : answer_of d (history d done) Settle ≡ Settled rounds moves
  pub some : rounds ≢ 0
  pub written : text ≡ unsettled_text rounds moves

-- what is told of a journal of all acts: its script and report with 0, or what is left under way with 8
abbrev pub IsRunTold : Deployed → List Act → List ℕ → ℕ → Type 0
IsRunTold d done text status = ((status ≡ 0) × IsRunWhole d done text) ⊎ ((status ≡ 8) × IsRunUnsettled d done text)

-- two notes that can be told: each is of an act at a node of the deployment; and where there is only a node's, its act
-- is one of these
pub record CanBeTold (d : Deployed) (acts : List Act) (node session : Option Noted) : Type 0 where
  pub at_node : IfSome node (IsAtNode d)
  pub at_session : IfSome session (IsAtNode d)
  pub act : session ≡ None → IfSome node (λ n. In acts n.entry.act)

-- two parts that can be told: each is of an act at a node of the deployment; and the home's, or the other's where the
-- home has none, is of an act of several nodes, one of these acts where a client did it
pub record CanPartsBeTold (d : Deployed) (acts : List Act) (home other : Option Joint) : Type 0 where
  pub at_home : IfSome home (IsPartAt d)
  pub at_other : IfSome other (IsPartAt d)
  pub act : IfSome home (λ j. IsJointAct acts j.entry.act)
  pub alone : home ≡ None → IfSome other (λ j. IsJointAct acts j.entry.act)
