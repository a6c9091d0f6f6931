-- The line of a plain act's plain answer is that of any script.
use Rattle.std.proofs.Common.{◌≡◌, ℕ, List, ◌++◌, Result, Ok, Err, OnOk, refl, sym, ap, ◌∙◌}
use Rattle.sat_act.specs.declared.act.Act.{Act}
use Rattle.sat_act.specs.declared.answer.Answer.{Answer}
use Rattle.sat_act.specs.Deployed.{Deployed}
use Rattle.sat_lasting_laws.specs.declared.lasting_act.LastingAct.{LastingAct}
use Rattle.sat_lasting_laws.specs.declared.lasting_act.LastingAct.TheVariants as lasting
use Rattle.sat_lasting_laws.specs.declared.lasting_answer.LastingAnswer.{LastingAnswer}
use Rattle.sat_lasting_laws.specs.declared.lasting_answer.LastingAnswer.TheVariants as says
use Rattle.sat_report.specs.Answers.{answer_line, answer_text}
use Rattle.sat_lasting_texts.specs.Texts.{lasting_answer_text, lasting_line_text}

same_line : (d : Deployed) (n : ℕ) (a : Act) (r : Answer) → answer_line d n a r ≡ lasting_line_text n (lasting_answer_text d (lasting.Plain a) (says.Plain r))
unfolding answer_line lasting_answer_text
same_line d n a r = refl

pub plain_line : {E : Type 0} (result : Result (Unit {0}) E) (d : Deployed) (n : ℕ) (a : Act) (r : Answer) (act : LastingAct) (answer : LastingAnswer) (text longer : List ℕ) → act ≡ lasting.Plain a → answer ≡ says.Plain r
    → OnOk result (longer ≡ text ++ answer_line d n a r) → OnOk result (longer ≡ text ++ lasting_line_text n (lasting_answer_text d act answer))
plain_line (Ok t) d n a r act answer text longer is same written =
    written ∙ ap (λ (l : List ℕ). text ++ l) (same_line d n a r ∙ (ap (λ (b : LastingAct). lasting_line_text n (lasting_answer_text d b (says.Plain r))) (sym is)) ∙ ap (λ (s : LastingAnswer). lasting_line_text n (lasting_answer_text d act s)) (sym same))
plain_line (Err e) d n a r act answer text longer is same written = tt
