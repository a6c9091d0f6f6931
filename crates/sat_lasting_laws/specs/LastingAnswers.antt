-- The answer of an act after a history with stops.
use Rattle.std.specs.Prelude.{◌≡◌, ◌<◌, ◌≤◌, ℕ, Bool, true, false, List, length, Option, Some, None, if◌then◌else◌}
use Rattle.sat_act.specs.declared.act.Act.{Act}
use Rattle.sat_act.specs.declared.act.Act.TheVariants as act
use Rattle.sat_act.specs.declared.answer.Answer.{Answer}
use Rattle.sat_act.specs.declared.entry.Entry.{Entry}
use Rattle.sat_act.specs.Deployed.{Deployed}
use Rattle.sat_act.specs.Answers.{InRange, answer}
use Rattle.sat_model.specs.Journal.{journal}
use Rattle.sat_lasting_laws.specs.declared.lasting_act.LastingAct.{LastingAct}
use Rattle.sat_lasting_laws.specs.declared.lasting_act.LastingAct.TheVariants as lasting
use Rattle.sat_lasting_laws.specs.declared.lasting_act.TheConstants.{MOST_CALLS}
use Rattle.sat_lasting_laws.specs.declared.lasting_answer.LastingAnswer.{LastingAnswer}
use Rattle.sat_lasting_laws.specs.declared.lasting_answer.LastingAnswer.TheVariants as says
use Rattle.sat_lasting_laws.specs.Lastings.{Cut, LastingEntry, keeps_input, kept, cut_into}

-- what a plain act with this answer answers, by the cut that falls into it
abbrev pub cut_answer : Option Cut → Answer → LastingAnswer
cut_answer None answer = says.Plain answer
cut_answer (Some cut) answer = if keeps_input cut then says.Stopped answer else says.StoppedWithout

-- how many inputs site i was handed in a history
unfoldable pub inputs_of : Deployed → List Entry → ℕ → ℕ
unfolding journal
inputs_of d h i = length (journal d h i)

-- the answer of an act after a history
unfoldable pub lasting_answer : Deployed → List LastingEntry → LastingAct → LastingAnswer
unfolding answer kept cut_into inputs_of
lasting_answer d c (lasting.Plain a) = cut_answer (cut_into d c a) (answer d (kept c) a)
lasting_answer d c (lasting.Stop i) = says.Recovered (inputs_of d (kept c) i)
lasting_answer d c (lasting.Cut i calls keep) = says.Armed

-- a plain act that a script for sites that last may have: none that several sites take part in at once
abbrev pub is_allowed : Act → Bool
is_allowed act.Clock = false
is_allowed act.Settle = false
is_allowed _ = true

-- what the laws need of an act's numbers
abbrev pub IsLastingInRange : Deployed → LastingAct → Type 0
IsLastingInRange d (lasting.Plain a) = InRange d a × (is_allowed a ≡ true)
IsLastingInRange d (lasting.Stop i) = i < d.sites
IsLastingInRange d (lasting.Cut i calls keep) = (i < d.sites) × (calls ≤ MOST_CALLS)
