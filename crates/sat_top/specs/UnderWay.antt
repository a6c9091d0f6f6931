-- A text that was followed, and a run under way, as it is counted or drawn. No contract of the top call speaks of
-- these.
use Rattle.std.specs.Prelude.{ℕ, ◌≡◌, List, Result, Ok, Err, reverse}
use Rattle.sat_act.specs.declared.act.Act.{Act}
use Rattle.sat_act.specs.declared.answer.Answer.{Answer}
use Rattle.sat_act.specs.declared.answer.Answer.TheVariants as ans
use Rattle.sat_act.specs.declared.entry.Entry.{Entry}
use Rattle.sat_act.specs.Deployed.{Deployed}
use Rattle.sat_follow.specs.declared.pieces.Halt.{Halt}
use Rattle.sat_follow.specs.declared.pieces.Halt.TheVariants as halt
use Rattle.sat_rest.specs.Ends.{wrote_count}
use Rattle.sat_world.specs.Seen.{WorldSeen}
use Rattle.sat_act.specs.Settling.{with_inner}
use Rattle.sat_settle.specs.Kept.{Keeps}
use Rattle.sat_draw.specs.declared.moved.Moved.{Moved}
use Rattle.sat_top.specs.Drawing.{told_history, told_moves}
use Rattle.sat_runs.specs.Running.{Does, IsRunning}
use Rattle.sat_runs.specs.Runs.{history}

-- ---- followed

-- the status of a text that was followed
abbrev pub followed_status : Result ℕ Halt → ℕ
followed_status (Ok status) = status
followed_status (Err halt.Source) = 3
followed_status (Err halt.Sink) = 4
followed_status (Err halt.Memory) = 5

-- ---- counted

-- what an act answers and does after each run that the world stood for, with no change of the deployment
abbrev pub DoesHere : WorldSeen → Act → Answer → WorldSeen → Type 0
DoesHere old a r new = Does old a r new × (new.deployment ≡ old.deployment)

-- how many writes an answer tells of
abbrev pub writes_in : Answer → ℕ
writes_in (ans.Wrote l) = 1
writes_in _ = 0

-- these acts were done, and so many of them wrote
pub record IsCounting (d : Deployed) (w : WorldSeen) (written : ℕ) (acts : List Act) : Type 0 where
  pub running : IsRunning d w acts
  pub count : written ≡ wrote_count (history d acts)

-- ---- drawn

-- of the entries that an act's settle made these were kept
abbrev pub KeepsIn : WorldSeen → Act → List Entry → List Entry → Type 0
KeepsIn v a old new = Keeps v (λ h. with_inner v.deployment h a) old new

-- these acts were done, these are their entries, the oldest first, and this their settles moved
pub record IsEntering (d : Deployed) (w : WorldSeen) (entries : List Entry) (moved : List Moved)
    (acts : List Act) : Type 0 where
  pub running : IsRunning d w acts
  pub entries_are : reverse entries ≡ told_history d acts
  pub moved_are : moved ≡ told_moves d acts
