-- The texts of answers to acts for sites that last.
use Rattle.std.specs.Prelude.{ℕ, List, [], ◌∷◌, ◌++◌, codes}
use Rattle.std.specs.Fmt.{decimal}
use Rattle.sat_act.specs.declared.act.Act.{Act}
use Rattle.sat_act.specs.declared.act.Act.TheVariants as act
use Rattle.sat_act.specs.Deployed.{Deployed}
use Rattle.sat_lasting_laws.specs.declared.lasting_act.LastingAct.{LastingAct}
use Rattle.sat_lasting_laws.specs.declared.lasting_act.LastingAct.TheVariants as lasting
use Rattle.sat_lasting_laws.specs.declared.lasting_answer.LastingAnswer.{LastingAnswer}
use Rattle.sat_lasting_laws.specs.declared.lasting_answer.LastingAnswer.TheVariants as says
use Rattle.sat_report.specs.Answers.{answer_text}

-- the act that a plain answer's text goes by: only that of a plain act names a site
abbrev pub plain_act : LastingAct → Act
plain_act (lasting.Plain a) = a
plain_act _ = act.Clock

-- what is printed of the answer to an act
unfoldable pub lasting_answer_text : Deployed → LastingAct → LastingAnswer → List ℕ
unfolding answer_text
lasting_answer_text d a (says.Plain r) = answer_text d (plain_act a) r
lasting_answer_text d a (says.Recovered n) = codes "recovered " ++ decimal n
lasting_answer_text d a says.Armed = codes "armed"
lasting_answer_text d a (says.Stopped r) = codes "stopped " ++ answer_text d (plain_act a) r
lasting_answer_text d a says.StoppedWithout = codes "stopped without"

-- the line of an answer with its number
abbrev pub lasting_line_text : ℕ → List ℕ → List ℕ
lasting_line_text n text = decimal n ++ 32 ∷ (text ++ 10 ∷ [])
