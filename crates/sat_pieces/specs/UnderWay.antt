-- A run under way, as it is answered. No contract of the crate's own calls speaks of these.
use Rattle.std.specs.Prelude.{ℕ, ◌≡◌, List, [], ◌++◌, length, Option, Some, None}
use Rattle.sat_act.specs.declared.act.Act.{Act}
use Rattle.sat_act.specs.Deployed.{Deployed}
use Rattle.sat_outside.specs.Streams.{Told, Takes}
use Rattle.sat_follow.specs.Following.{TakesFront}
use Rattle.sat_stream.specs.declared.stream.Reading.{Reading}
use Rattle.sat_stream.specs.Stream.{behind}
use Rattle.sat_world.specs.Seen.{WorldSeen}
use Rattle.sat_runs.specs.Running.{IsAnswering}
use Rattle.sat_runs.specs.Runs.{run_text}

-- the world of a deployment, once that is known
abbrev pub IsWorldOf : Option Deployed → Option WorldSeen → Type 0
IsWorldOf None None = Unit {0}
IsWorldOf None (Some w) = ⊥
IsWorldOf (Some d) None = ⊥
IsWorldOf (Some d) (Some w) = w.deployment ≡ d

-- a world, once there is one, has the deployment that is known
abbrev pub IsKnown : Option Deployed → Option WorldSeen → Type 0
IsKnown known None = Unit {0}
IsKnown known (Some w) = known ≡ Some w.deployment

-- these acts were done, and the text has their answers
abbrev pub AtWorld : Option WorldSeen → List ℕ → List Act → Type 0
AtWorld None text acts = (text ≡ []) × (acts ≡ [])
AtWorld (Some w) text acts = IsAnswering w.deployment w text acts

-- these acts more were done, where so many had been done before; the text has their answers
abbrev pub DoesMore : Option WorldSeen → ℕ → List Act → Option WorldSeen → List ℕ → Type 0
DoesMore old count acts new text = (front : List ℕ) (done : List Act) → count ≡ length done → AtWorld old front done
    → AtWorld new (front ++ text) (done ++ acts)

-- the sink took the rest of the report of a run that is at its end
abbrev pub Ends : Option WorldSeen → ℕ → Reading → Told → Told → Type 0
Ends w count r old new = (front : List ℕ) (done : List Act) → count ≡ length done → AtWorld w front done
    → (rest : List ℕ) × Takes old new rest × (front ++ rest ≡ run_text (behind done r))

-- or a front of it
abbrev pub EndsBefore : Option WorldSeen → ℕ → Reading → Told → Told → Type 0
EndsBefore w count r old new = (front : List ℕ) (done : List Act) → count ≡ length done → AtWorld w front done
    → (rest : List ℕ) × TakesFront old new rest × (front ++ rest ≡ run_text (behind done r))
