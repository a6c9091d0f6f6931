-- Runs, entry by entry.
use Rattle.std.specs.Prelude.{◌≡◌, Bool, false, List, ◌∷◌, refl}
use Rattle.std.proofs.Common.{sym, subst, inl, inr}
use Rattle.sat_act.specs.declared.act.Act.{Act}
use Rattle.sat_act.specs.declared.act.Act.TheVariants as act
use Rattle.sat_act.specs.declared.answer.Answer.{Answer}
use Rattle.sat_act.specs.declared.entry.Entry.{Entry}
use Rattle.sat_act.specs.Deployed.{Deployed}
use Rattle.sat_act.specs.Answers.{InRange, answer}
use Rattle.sat_act.specs.Settling.{answer_of}
use Rattle.sat_act.specs.Runs.{IsRun, IsAnswer, is_settle}
use Rattle.sat_laws.proofs.Steps.{Step, outcome, settled}

abbrev pub entry : Act → Answer → Bool → Entry
entry a r n = record { act = a; answer = r; inner = n }

answer-step : (d : Deployed) (h : List Entry) (a : Act) (r : Answer) → IsAnswer d h a r → Step d h a r
unfolding answer_of
answer-step d h a r (inl e) = subst (λ (r : Answer). Step d h a r) (sym e.1) (outcome d h a)
answer-step d h a r (inr w) = subst (λ (a : Act). Step d h a r) (sym w.1) (subst (λ (r : Answer). Step d h act.Settle r) (sym w.3) settled)

pub step_of : (d : Deployed) (h : List Entry) (e : Entry) → IsRun d (e ∷ h) → Step d h e.act e.answer
unfolding IsRun
step_of d h e run = answer-step d h e.act e.answer run.2

pub before_of : (d : Deployed) (h : List Entry) (e : Entry) → IsRun d (e ∷ h) → IsRun d h
unfolding IsRun
before_of d h e run = run.0

pub range_of : (d : Deployed) (h : List Entry) (e : Entry) → IsRun d (e ∷ h) → InRange d e.act
unfolding IsRun
range_of d h e run = run.1

-- the entry of an act that is no settle goes on a run
pub run-on : (d : Deployed) (h : List Entry) (a : Act) (n : Bool) → is_settle a ≡ false → IsRun d h → InRange d a → IsRun d (entry a (answer d h a) n ∷ h)
unfolding IsRun
run-on d h a n plain run range = (run, range, inl (plain, refl))
