-- A run under way.
use Rattle.std.specs.Prelude.{ℕ, ◌≡◌, false, List, [], ◌∷◌, ◌++◌, length}
use Rattle.sat_act.specs.declared.act.Act.{Act}
use Rattle.sat_act.specs.declared.answer.Answer.{Answer}
use Rattle.sat_act.specs.declared.entry.Entry.{Entry}
use Rattle.sat_act.specs.Deployed.{Deployed}
use Rattle.sat_act.specs.Runs.{IsRun, is_settle}
use Rattle.sat_act.specs.Settling.{answer_of, with_inner}
use Rattle.sat_world.specs.Seen.{WorldSeen}
use Rattle.sat_world.specs.Stands.{StandsFor}
use Rattle.sat_report.specs.Answers.{answers, printed_count}
use Rattle.sat_settle.specs.Going.{StopsBefore}
use Rattle.sat_runs.specs.Runs.{history}

-- an act's entry
abbrev pub entry : Act → Answer → Entry
entry a r = record { act = a; answer = r; inner = false }

-- what an act answers after a history, and what the world stands for then: with the entries of a settle's acts before
-- its own
pub record HasDone (d : Deployed) (h : List Entry) (a : Act) (r : Answer) (w : WorldSeen) : Type 0 where
  pub answer : r ≡ answer_of d h a
  pub stands : StandsFor w (entry a r ∷ with_inner d h a)

-- the same after each run that the world stood for before
abbrev pub Does : WorldSeen → Act → Answer → WorldSeen → Type 0
Does old a r new = (h : List Entry) → IsRun old.deployment h → StandsFor old h → HasDone old.deployment h a r new

-- Memory ran out in an act: the world is as before, or, in a settle, it stands for a run that has some of the entries
-- more that the settle's acts leave, the first ones
pub record StopsIn (old : WorldSeen) (a : Act) (new : WorldSeen) : Type 0 where
  pub plain : is_settle a ≡ false → new ≡ old
  pub front : (h : List Entry) → IsRun old.deployment h → StandsFor old h
      → StopsBefore old.deployment h (with_inner old.deployment h a) new

-- these acts were done: the world stands for their history
pub record IsRunning (d : Deployed) (w : WorldSeen) (acts : List Act) : Type 0 where
  pub run : IsRun d (history d acts)
  pub stands : StandsFor w (history d acts)

-- and the text has their answers
pub record IsAnswering (d : Deployed) (w : WorldSeen) (text : List ℕ) (acts : List Act) : Type 0 where
  pub running : IsRunning d w acts
  pub answers : text ≡ answers d (history d acts)
  pub count : printed_count (history d acts) ≡ length acts

-- these acts more were done, where so many had been done before; a text is longer by the lines of their answers
pub record HasLines (old : WorldSeen) (before : ℕ) (acts : List Act) (text : List ℕ) (new : WorldSeen)
    (longer : List ℕ) : Type 0 where
  pub lines : List ℕ
  pub longer_by : longer ≡ text ++ lines
  pub answers : (front : List ℕ) (done : List Act) → before ≡ length done → IsAnswering old.deployment old front done
      → IsAnswering old.deployment new (front ++ lines) (done ++ acts)

-- The text has the answers of these acts, and memory ran out in the next one or in its line. The world stands for the
-- history of these acts or for that with the next one, or, in a settle, for a run between these: it has some of the
-- entries more, the first ones
pub record IsStopped (d : Deployed) (w : WorldSeen) (text : List ℕ) (acts : List Act) (next : Act) : Type 0 where
  pub run : IsRun d (history d acts)
  pub answers : text ≡ answers d (history d acts)
  pub count : printed_count (history d acts) ≡ length acts
  pub stands : StopsBefore d (history d acts) (history d (acts ++ next ∷ [])) w

-- the first ones of these acts more were done, up to one in which memory ran out; a text is longer by their lines, each
-- whole
pub record HasSomeLines (old : WorldSeen) (before : ℕ) (acts : List Act) (text : List ℕ) (new : WorldSeen)
    (longer : List ℕ) : Type 0 where
  pub first : List Act
  pub next : Act
  pub rest : List Act
  pub all : acts ≡ first ++ next ∷ rest
  pub lines : List ℕ
  pub longer_by : longer ≡ text ++ lines
  pub stops : (front : List ℕ) (done : List Act) → before ≡ length done → IsAnswering old.deployment old front done
      → IsStopped old.deployment new (front ++ lines) (done ++ first) next
