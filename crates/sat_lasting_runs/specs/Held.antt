-- What a follower of scripts for sites that last keeps.
use Rattle.std.specs.Prelude.{◌≡◌, ℕ, List, Option, Some}
use Rattle.sat_act.specs.Deployed.{Deployed}
use Rattle.sat_lasting.specs.Lasts.{IsSound, LastingSeen, LastsFor}
use Rattle.sat_lasting_laws.specs.Lastings.{LastingEntry}
use Rattle.sat_lasting_laws.specs.LastingRuns.{IsLastingRun}
use Rattle.sat_lasting_laws.specs.Ranges.{IsLastingActOf}
use Rattle.sat_lasting_laws.specs.declared.lasting_act.LastingAct.{LastingAct}
use Rattle.sat_lasting_script.specs.Forms.{lasting_acts}
use Rattle.sat_lasting_runs.specs.LastingTexts.{lasting_telling}
use Rattle.sat_own_acts.specs.Held.{HeldSeen, IsHeld, StandsAt, IsReady, HasEntered, GoesBy, KeepsLine}
use Rattle.sat_own_acts.specs.Steps.{OwnState}

abbrev pub LastingHeld : Type 0
LastingHeld = HeldSeen LastingSeen

abbrev pub LastingState : Type 0
LastingState = OwnState LastingEntry

-- the deployment of the sites
abbrev pub deployed : LastingSeen → Deployed
deployed l = l.world.deployment

-- the histories that they stand for
abbrev pub HistoryOf : LastingSeen → List LastingEntry → Type 0
HistoryOf l c = IsLastingRun l.world.deployment c × LastsFor l c

-- nothing is asked of them by how many acts were answered
abbrev pub AtAnyTime : ℕ → LastingSeen → Type 0
AtAnyTime n l = Unit {0}

abbrev pub IsLastingHeld : LastingHeld → Type 0
IsLastingHeld v = IsHeld lasting_acts deployed AtAnyTime HistoryOf v

abbrev pub LastingStands : LastingHeld → LastingState → Type 0
LastingStands v s = StandsAt HistoryOf v s

abbrev pub LastingReady : LastingHeld → LastingSeen → Type 0
LastingReady v l = IsReady deployed AtAnyTime HistoryOf v l

abbrev pub LastingEnters : LastingSeen → LastingAct → LastingSeen → ℕ → List ℕ → List ℕ → Type 0
LastingEnters old a new number text longer = HasEntered lasting_telling deployed HistoryOf old a new number text longer

abbrev pub LastingGoes : LastingHeld → LastingAct → LastingHeld → List ℕ → List ℕ → Type 0
LastingGoes old a new text longer = GoesBy lasting_telling HistoryOf old a new text longer

abbrev pub LastingKeeps : LastingHeld → List ℕ → LastingHeld → Type 0
LastingKeeps old line new = KeepsLine HistoryOf old line new

-- sites are there, and they are ready
pub record LastingStarted (v : LastingHeld) (held : Option LastingSeen) : Type 0 where
  pub lasting : LastingSeen
  pub there : held ≡ Some lasting
  pub ready : LastingReady v lasting

-- sites are there, which may be asked to do this act
pub record AsksAct (held : Option LastingSeen) (a : LastingAct) : Type 0 where
  pub lasting : LastingSeen
  pub there : held ≡ Some lasting
  pub act : IsLastingActOf lasting.world.deployment a
  pub sound : IsSound lasting

-- sites that were there did an act, and its answer's line, with this number, stands behind what the text was
pub record EntersIn (old : Option LastingSeen) (a : LastingAct) (new : Option LastingSeen) (number : ℕ)
    (text longer : List ℕ) : Type 0 where
  pub before : LastingSeen
  pub was : old ≡ Some before
  pub after : LastingSeen
  pub now : new ≡ Some after
  pub enters : LastingEnters before a after number text longer
