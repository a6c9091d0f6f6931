-- What `live` does: nodes on threads do the acts of a script, and what is written tells of the history that happened.
-- It depends on the schedule, so no function of the script gives it.
use Rattle.std.specs.Prelude.{ℕ, ◌≡◌, ◌≢◌, ◌≤◌, ◌+◌, ◌==◌, ◌||◌, ◌⊎◌, Bool, true, List, [], Option, Some, None, length}
use Rattle.std.specs.Io.KnownBytes.{Consumes, IsAtEnd}
use Rattle.sat_outside.specs.Causes.{Rose}
use Rattle.sat_outside.specs.Streams.{Told, Takes}
use Rattle.sat_act.specs.declared.act.Act.{Act}
use Rattle.sat_act.specs.Deployed.{Deployed}
use Rattle.sat_script.specs.declared.fault.ScriptFault.{ScriptFault}
use Rattle.sat_stream.specs.declared.limits.TheConstants.{MOST_BYTES}
use Rattle.sat_stream.specs.Reading.{reading, IsAllowed}
use Rattle.sat_script.specs.Spelled.{Spells}
use Rattle.sat_report.specs.Faults.{fault_line}
use Rattle.sat_live.specs.Told.{IsTold}
use Rattle.sat_follow.specs.declared.pieces.TheConstants.{BUFFER_BYTES}
use Rattle.sat_pieces.specs.Streaming.{HasReadLines, StopsReading}
use Rattle.sat_follow.specs.Following.{IsTextOf, TakesFront}

-- the statuses of a run that came to its end: 0, 6 and 8
abbrev pub is_told : ℕ → Bool
is_told status = (status == 0) || ((status == 6) || (status == 8))

-- what is written of acts, or of a bad line, with a status
abbrev pub Tells : Option Deployed → List Act → Option ScriptFault → List ℕ → ℕ → Type 0
Tells known acts (Some fault) output status = (output ≡ fault_line fault) × (status ≡ 1)
Tells (Some d) acts None output status = IsTold d acts output status
Tells None acts None output status = ⊥

-- what is written of a text with a status
abbrev pub TellsOf : List ℕ → List ℕ → ℕ → Type 0
TellsOf text output status =
    Tells (reading true text).deployment (reading true text).acts (reading true text).fault output status

-- The source's text spells a deployment and acts, within the limits of nodes on threads. The sink took what is told,
-- with this status, of the history that the nodes made of them.
pub record HasLived (status : ℕ) (left : Option (List ℕ)) (old new : Told) : Type 0 where
  pub text : List ℕ
  pub whole : IsTextOf left text
  pub deployment : Deployed
  pub acts : List Act
  pub spelled : Spells text deployment acts
  pub allowed : IsAllowed true deployment acts
  pub output : List ℕ
  pub told : IsTold deployment acts output status
  pub written : Takes old new output

-- The source's text has a first bad line. The sink took that line's fault, and nothing else.
pub record HasLiveFault (left : Option (List ℕ)) (old new : Told) : Type 0 where
  pub text : List ℕ
  pub whole : IsTextOf left text
  pub fault : ScriptFault
  pub bad : (reading true text).fault ≡ Some fault
  pub written : Takes old new (fault_line fault)

-- The sink took a front of what is written of the source's text, with some status.
pub record HasLivedFront (left : Option (List ℕ)) (old new : Told) : Type 0 where
  pub text : List ℕ
  pub whole : IsTextOf left text
  pub output : List ℕ
  pub status : ℕ
  pub tells : TellsOf text output status
  pub front : TakesFront old new output

-- the statuses that a text has where nothing fails
abbrev pub IsLiveStatus : Option ScriptFault → ℕ → Type 0
IsLiveStatus None status = is_told status ≡ true
IsLiveStatus (Some fault) status = status ≡ 1

-- What the top call does with `live`. The names are those of `MeetsCommand`.
pub record MeetsLive (status : ℕ) (left left_after : Option (List ℕ)) (told told_after : Told)
    (failed failed_after refused refused_after ends ends_after : ℕ) : Type 0 where
  -- the nodes came to an end, and the sink took the whole output
  pub lived : is_told status ≡ true → HasLived status left told told_after × IsAtEnd left_after
  pub bad : status ≡ 1 → HasLiveFault left told told_after
  -- where the source fails or memory runs out nothing was written
  pub no_source : status ≡ 3 → Rose failed failed_after × HasReadLines true left left_after × Takes told told_after []
  pub no_sink : status ≡ 4 → Rose refused refused_after × HasLivedFront left told told_after
  pub no_memory : status ≡ 5 → Takes told told_after []
  pub statuses : (status ≤ 8) × (status ≢ 2) × (status ≢ 7)
  -- the bytes taken have a bound
  pub bounded : (taken : List ℕ) × Consumes left left_after taken × (length taken ≤ MOST_BYTES + BUFFER_BYTES)
  -- and all of them but the last ones, at most a piece, have no bad line among them
  pub stops : StopsReading true left left_after
  -- the source says once at most that none are left
  pub once : ends_after ≤ ends + 1
  -- no count of faults falls
  pub later : (failed ≤ failed_after) × (refused ≤ refused_after)
  -- where neither has failed, the status is one of those that the text has, unless memory ran out
  pub complete : (text : List ℕ) → left ≡ Some text → ¬ Rose failed failed_after → ¬ Rose refused refused_after
      → IsLiveStatus (reading true text).fault status ⊎ (status ≡ 5)
