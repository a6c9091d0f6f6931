-- What is read of any text for sites that last, the history of its acts, and what is made of it.
use Rattle.std.specs.Prelude.{ℕ, ◌≡◌, List, [], None, IfSome, IsSome}
use Rattle.std.specs.List.{AllByRecursion}
use Rattle.sat_act.specs.Deployed.{Deployed}
use Rattle.sat_act.specs.Limits.{IsDeployment}
use Rattle.sat_follow.specs.Rules.{meaning_of}
use Rattle.sat_lasting_laws.specs.LastingRuns.{IsLastingRun}
use Rattle.sat_lasting_laws.specs.Lastings.{LastingEntry}
use Rattle.sat_lasting_laws.specs.Goals.{IsLastingGood}
use Rattle.sat_lasting_laws.specs.Ranges.{IsLastingActOf}
use Rattle.sat_lasting_laws.specs.declared.lasting_act.LastingAct.{LastingAct}
use Rattle.sat_lasting_script.specs.Forms.{lasting_acts}
use Rattle.sat_lasting_script.specs.Histories.{lasting_history}
use Rattle.sat_own_acts.specs.Readings.{OwnReading, own_reading}
use Rattle.sat_own_acts.specs.Steps.{own_rules}
use Rattle.sat_own_acts.specs.Texts.{Telling, own_meaning}

-- what a text for sites that last is
abbrev pub LastingReading : Type 0
LastingReading = OwnReading LastingAct

abbrev pub lasting_reading : List ℕ → LastingReading
lasting_reading text = own_reading lasting_acts text

-- acts of a deployment
abbrev pub AreLastingActs : Deployed → List LastingAct → Type 0
AreLastingActs d acts = AllByRecursion (λ a. IsLastingActOf d a) acts

-- the history of these acts is one with stops, and good
pub record IsGoodLasting (d : Deployed) (acts : List LastingAct) : Type 0 where
  pub run : IsLastingRun d (lasting_history d acts)
  pub good : IsLastingGood d (lasting_history d acts)

-- what is read of a text, also of one with a fault, is a deployment and acts of it, whose history is good; no acts
-- where there is no deployment; and a deployment where there is no fault
pub record IsGoodLastingText (x : LastingReading) : Type 0 where
  pub whole : IfSome x.deployment (λ d. IsDeployment d × AreLastingActs d x.acts × IsGoodLasting d x.acts)
  pub none : x.deployment ≡ None → x.acts ≡ []
  pub ends : x.fault ≡ None → IsSome x.deployment

abbrev pub EveryLastingTextIsGood : Type 0
EveryLastingTextIsGood = (text : List ℕ) → IsGoodLastingText (lasting_reading text)

-- what is made of a text line by line is what is made of the whole, however answers, faults and the end are told
abbrev pub LinesMakeTexts : Type 0
LinesMakeTexts =
    (tell : Telling LastingAct LastingEntry) → meaning_of (own_rules lasting_acts tell) ≡ own_meaning lasting_acts tell
