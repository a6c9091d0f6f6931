-- What is told of the run of a journal's acts.
use Rattle.std.proofs.Common.{◌≡◌, ℕ, ◌-◌, List, ◌++◌, length, Result, Ok, Err, sym, ap, subst, ◌∙◌, inl, inr}
use Rattle.std.specs.Prelude.{IfOk, ◌≢◌}
use Rattle.sat_act.specs.declared.act.Act.{Act}
use Rattle.sat_act.specs.declared.act.Act.TheVariants as act
use Rattle.sat_act.specs.declared.answer.Answer.{Answer}
use Rattle.sat_act.specs.declared.answer.Answer.TheVariants as ans
use Rattle.sat_act.specs.declared.entry.Entry.{Entry}
use Rattle.sat_act.specs.Deployed.{Deployed}
use Rattle.sat_act.specs.Runs.{IsRun}
use Rattle.sat_act.specs.Settling.{answer_of, capped, settle}
use Rattle.sat_world.specs.Seen.{WorldSeen}
use Rattle.sat_world.specs.Stands.{StandsFor}
use Rattle.sat_script.specs.Spelled.{spelling}
use Rattle.sat_report.specs.Answers.{answers}
use Rattle.sat_report.specs.Holdings.{holdings, report}
use Rattle.sat_runs.specs.Running.{IsAnswering}
use Rattle.sat_runs.specs.Runs.{history}
use Rattle.sat_outcome.specs.Texts.{unsettled_text}
use Rattle.sat_live.specs.declared.telling.Told.{Told}
use Rattle.sat_live.specs.Telling.{IsRunTold}

-- a settle answers nothing else
pub only_settled : (d : Deployed) (h : List Entry) (r : Answer) → r ≡ answer_of d h act.Settle → ((rounds done : ℕ) → r ≡ ans.Settled rounds done → ⊥) → ⊥
unfolding answer_of
only_settled d h r is never = never (capped (settle d h).0) (capped (length (settle d h).1 - length h)) is

-- ---- a world that did the acts, with the text of their answers

as-report : (d : Deployed) (h : List Entry) (text whole : List ℕ) → text ≡ answers d h → whole ≡ text ++ holdings d h → whole ≡ report d h
unfolding report
as-report d h text whole a e = e ∙ ap (λ (bytes : List ℕ). bytes ++ holdings d h) a

-- what its holdings and its settle say, of whatever history it stands for
abbrev pub SaysHoldings : WorldSeen → List ℕ → List ℕ → Type 0
SaysHoldings w text whole = (h : List Entry) → IsRun w.deployment h → StandsFor w h → whole ≡ text ++ holdings w.deployment h

abbrev pub SaysSettled : WorldSeen → ℕ → ℕ → Type 0
SaysSettled w rounds moves = (h : List Entry) → IsRun w.deployment h → StandsFor w h → answer_of w.deployment h act.Settle ≡ ans.Settled rounds moves

module _ (d : Deployed) (done : List Act) (w : WorldSeen) (text : List ℕ) (same : w.deployment ≡ d) (now : IsAnswering d w text done) where
  run-of : IsRun w.deployment (history d done)
  run-of = subst (λ (x : Deployed). IsRun x (history d done)) (sym same) now.running.run

  reports : (whole : List ℕ) → SaysHoldings w text whole → whole ≡ report d (history d done)
  reports whole says = as-report d (history d done) text whole now.answers (says (history d done) run-of now.running.stands ∙ ap (λ (x : Deployed). text ++ holdings x (history d done)) same)

  settles : (rounds moves : ℕ) → SaysSettled w rounds moves → answer_of d (history d done) act.Settle ≡ ans.Settled rounds moves
  settles rounds moves says = sym (ap (λ (x : Deployed). answer_of x (history d done) act.Settle) same) ∙ says (history d done) run-of now.running.stands

  -- a history that it stands for
  pub stands_for : (h : List Entry) × IsRun w.deployment h × StandsFor w h
  stands_for = (history d done, run-of, now.running.stands)

  pub script_told : {E : Type 0} (whole : List ℕ) (rounds moves : ℕ) (result : Result Told E) → SaysHoldings w text whole → SaysSettled w rounds moves → rounds ≡ 0
      → IfOk result (λ told. told.text.items ≡ spelling d done ++ whole) → IfOk result (λ told. told.status ≡ 0) → IfOk result (λ told. IsRunTold d done told.text.items told.status)
  script_told whole rounds moves (Err fault) held settled zero wrote status = tt
  script_told whole rounds moves (Ok told) held settled zero wrote status = inl (
    status,
    record {
      moves = moves;
      settled = settles rounds moves settled ∙ ap (λ (n : ℕ). ans.Settled n moves) zero;
      written = wrote ∙ ap (λ (bytes : List ℕ). spelling d done ++ bytes) (reports whole held);
    },
  )

  pub unsettled_told : {E : Type 0} (rounds moves : ℕ) (result : Result Told E) → SaysSettled w rounds moves → rounds ≢ 0
      → IfOk result (λ told. told.text.items ≡ unsettled_text rounds moves) → IfOk result (λ told. told.status ≡ 8) → IfOk result (λ told. IsRunTold d done told.text.items told.status)
  unsettled_told rounds moves (Err fault) settled some wrote status = tt
  unsettled_told rounds moves (Ok told) settled some wrote status = inr (status, record { rounds = rounds; moves = moves; settled = settles rounds moves settled; some = some; written = wrote })
