-- The history of a script's acts, for sites that last.
use Rattle.std.specs.Prelude.{List}
use Rattle.sat_act.specs.Deployed.{Deployed}
use Rattle.sat_lasting_laws.specs.declared.lasting_act.LastingAct.{LastingAct}
use Rattle.sat_lasting_laws.specs.LastingAnswers.{lasting_answer}
use Rattle.sat_lasting_laws.specs.Lastings.{LastingEntry}
use Rattle.sat_own_acts.specs.Histories.{history_of}

-- an act's entry after a history
abbrev pub lasting_entry : Deployed → List LastingEntry → LastingAct → LastingEntry
lasting_entry d c a = record { act = a; answer = lasting_answer d c a }

-- the history of a script's acts, which stand in the order of the script; its newest entry stands first
abbrev pub lasting_history : Deployed → List LastingAct → List LastingEntry
lasting_history d acts = history_of lasting_entry d acts
