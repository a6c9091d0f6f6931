-- What a follower of scripts with acts of the command's own keeps, and the states that it stands for. M is what
-- contracts see of the machine that does the acts: `of` is its deployment, and `For` says which histories it stands
-- for.
use Rattle.std.specs.Prelude.{ℕ, ◌≡◌, ◌≤◌, ◌++◌, List, [], ◌∷◌, length, Option, Some, None, Ok, IfSome}
use Rattle.sat_act.specs.Deployed.{Deployed}
use Rattle.sat_own_acts.specs.OwnActs.{OwnActs}
use Rattle.sat_own_acts.specs.Steps.{OwnState, entries_with, told_with}
use Rattle.sat_own_acts.specs.Texts.{Telling, numbered}
use Rattle.sat_script.specs.Grammar.{line_at, after}
use Rattle.sat_script.specs.Kept.{IsFit}
use Rattle.sat_script.specs.Lines.{running}
use Rattle.sat_script.specs.State.{Seen, deployment_of, with_one_act}
use Rattle.sat_script.specs.declared.line.Parsed.{Parsed}

-- the reader of lines, the machine once an act or the end has needed it, and how many acts were answered
pub record HeldSeen (M : Type 0) : Type 0 where
  pub reader : Seen
  pub machine : Option M
  pub answered : ℕ

-- a machine is one of the deployment that was read
abbrev pub IsMachineOf : {M : Type 0} → (M → Deployed) → Option Deployed → Option M → Type 0
IsMachineOf of o None = Unit {0}
IsMachineOf of o (Some m) = o ≡ Some (of m)

-- a machine stands for a history; before there is one no act has come
abbrev pub StandFor : {M E : Type 0} → (M → List E → Type 0) → Option M → List E → Type 0
StandFor For None c = c ≡ []
StandFor For (Some m) c = For m c

-- what holds of it after each call, also after one that failed. After so many answers the machine is as `Fits` has it
pub record IsHeld {A M E : Type 0} (these : OwnActs A) (of : M → Deployed) (Fits : ℕ → M → Type 0) (For : M → List E
    → Type 0) (v : HeldSeen M) : Type 0 where
  pub fit : IsFit v.reader.state
  pub dialect_is : v.reader.state.dialect ≡ these.dialect
  pub machine_of : IsMachineOf of (deployment_of v.reader.state) v.machine
  pub fits : IfSome v.machine (λ m. Fits v.answered m)
  pub counted : v.answered ≤ v.reader.state.acts
  -- the machine stands for some history
  pub known : (c : List E) × StandFor For v.machine c

-- the lines that it has taken say this
pub record StandsAt {M E : Type 0} (For : M → List E → Type 0) (v : HeldSeen M) (s : OwnState E) : Type 0 where
  pub reader : v.reader ≡ running s.script
  pub answered : v.answered ≡ length s.entries
  pub machine : StandFor For v.machine s.entries

-- a machine of this deployment that stands for all that another stood for
pub record IsReady {M E : Type 0} (of : M → Deployed) (Fits : ℕ → M → Type 0) (For : M → List E → Type 0)
    (v : HeldSeen M) (m : M) : Type 0 where
  pub deployment : deployment_of v.reader.state ≡ Some (of m)
  pub fits : Fits v.answered m
  pub keeps : (c : List E) → StandFor For v.machine c → For m c

-- a machine did an act: its entry is the history's, and the answer's line, with this number, stands behind what the
-- text was
pub record HasEntered {A M E : Type 0} (tell : Telling A E) (of : M → Deployed) (For : M → List E → Type 0) (old : M)
    (a : A) (new : M) (number : ℕ) (text longer : List ℕ) : Type 0 where
  pub entry : E
  pub entered : (c : List E) → For old c → entry ≡ tell.entry (of old) c a
  pub stands : (c : List E) → For old c → For new (entry ∷ c)
  pub deployment : of new ≡ of old
  pub longer_by : longer ≡ text ++ numbered number (tell.answer (of old) entry)

-- an act was done and answered, in each state that it stood for: the answer's line stands behind what the text was
pub record GoesBy {A M E : Type 0} (tell : Telling A E) (For : M → List E → Type 0) (old : HeldSeen M) (a : A)
    (new : HeldSeen M) (text longer : List ℕ) : Type 0 where
  pub added : List ℕ
  pub longer_by : longer ≡ text ++ added
  pub each : (s : OwnState E) → StandsAt For old s → added ≡ told_with tell s.script.header s.entries (Some a)
  pub stands : (s : OwnState E) → StandsAt For old s
      → StandsAt For new
      (record { script = with_one_act s.script; entries = entries_with tell s.script.header s.entries (Some a) })

-- the next line, which says no act, is taken
abbrev pub KeepsLine : {M E : Type 0} → (M → List E → Type 0) → HeldSeen M → List ℕ → HeldSeen M → Type 0
KeepsLine {M} {E} For old line new =
    (p : Parsed) → line_at old.reader.state line ≡ Ok p → (s : OwnState E) → StandsAt For old s
    → StandsAt For new (record { script = after s.script p; entries = s.entries })
