-- One act and the line of its answer. No public contract speaks of these.
use Rattle.std.specs.Prelude.{ℕ, ◌≡◌, ◌+◌, List, [], ◌∷◌, ◌++◌, length, Option, Some, Result, Ok, Err}
use Rattle.sat_act.specs.declared.act.Act.{Act}
use Rattle.sat_act.specs.declared.answer.Answer.{Answer}
use Rattle.sat_act.specs.Deployed.{Deployed}
use Rattle.sat_world.specs.Seen.{WorldSeen}
use Rattle.sat_report.specs.Answers.{answer_text}
use Rattle.sat_report.specs.Frames.{framed}
use Rattle.sat_settle.specs.Going.{StopsBefore}
use Rattle.sat_runs.specs.Runs.{history}
use Rattle.sat_runs.specs.Running.{IsAnswering, IsRunning}

-- an act had an answer, and a text is longer by its line
abbrev pub IsWritten : {E : Type 0} → Deployed → Option ℕ → Act → Result Answer E → List ℕ → List ℕ → Type 0
IsWritten d number a (Ok r) old new = new ≡ old ++ framed number (answer_text d a r)
IsWritten d number a (Err e) old new = ⊥

-- an act was done, and a text is longer by its line
pub record HasLine (old : WorldSeen) (number : Option ℕ) (a : Act) (text : List ℕ) (new : WorldSeen)
    (longer : List ℕ) : Type 0 where
  pub line : List ℕ
  pub longer_by : longer ≡ text ++ line
  pub answers : (front : List ℕ) (done : List Act) → number ≡ Some (length done + 1)
      → IsAnswering old.deployment old front done → IsAnswering old.deployment new (front ++ line) (done ++ a ∷ [])

-- wherever acts were done, the world stands for a run on the way to their history with this one
abbrev pub StopsOnTheWay : WorldSeen → Act → WorldSeen → Type 0
StopsOnTheWay old a new = (acts : List Act) → IsRunning old.deployment old acts
    → StopsBefore old.deployment (history old.deployment acts) (history old.deployment (acts ++ a ∷ [])) new
