-- What is made of a text for sites that last.
use Rattle.std.specs.Prelude.{ℕ, List}
use Rattle.sat_act.specs.Deployed.{Deployed}
use Rattle.sat_follow.specs.Meaning.{Meaning}
use Rattle.sat_lasting_laws.specs.declared.lasting_act.LastingAct.{LastingAct}
use Rattle.sat_lasting_laws.specs.Lastings.{LastingEntry, kept}
use Rattle.sat_lasting_script.specs.Forms.{lasting_acts}
use Rattle.sat_lasting_script.specs.Histories.{lasting_entry}
use Rattle.sat_lasting_script.specs.Laws.{LastingReading}
use Rattle.sat_lasting_texts.specs.Texts.{lasting_answer_text}
use Rattle.sat_own_acts.specs.Texts.{Telling, answers_of, text_of, status_of, own_meaning}
use Rattle.sat_report.specs.Faults.{fault_line}
use Rattle.sat_report.specs.Holdings.{holdings}

-- an act's entry, how its answer and a fault are told, and what the sites hold after the history of the kept acts
abbrev pub lasting_telling : Telling LastingAct LastingEntry
lasting_telling = record {
  entry = lasting_entry;
  answer = λ d x. lasting_answer_text d x.act x.answer;
  fault = fault_line;
  holdings = λ d c. holdings d (kept c);
}

-- the answers of a history with stops, numbered from 1
abbrev pub lasting_answers : Deployed → List LastingEntry → List ℕ
lasting_answers d c = answers_of lasting_telling d c

-- the whole output
abbrev pub lasting_text : LastingReading → List ℕ
lasting_text x = text_of lasting_telling x

-- 0, or 1 where a line is bad
abbrev pub lasting_status : LastingReading → ℕ
lasting_status x = status_of x.fault

-- what is made of a text, as a follower has it
abbrev pub lasting_meaning : Meaning
lasting_meaning = own_meaning lasting_acts lasting_telling
