-- The history of the kept acts is a run.
use Rattle.std.specs.Prelude.{◌≡◌, Bool, true, false, List, [], ◌∷◌, Option, Some, None, if◌then◌else◌, refl}
use Rattle.std.proofs.Common.{sym, subst, inl}
use Rattle.sat_act.specs.declared.act.Act.{Act}
use Rattle.sat_act.specs.declared.act.Act.TheVariants as act
use Rattle.sat_act.specs.declared.entry.Entry.{Entry}
use Rattle.sat_act.specs.Deployed.{Deployed}
use Rattle.sat_act.specs.Answers.{InRange, answer}
use Rattle.sat_act.specs.Runs.{IsRun, is_settle}
use Rattle.sat_laws.proofs.Headlines.{good}
use Rattle.sat_lasting_laws.specs.declared.lasting_act.LastingAct.{LastingAct}
use Rattle.sat_lasting_laws.specs.declared.lasting_act.LastingAct.TheVariants as lasting
use Rattle.sat_lasting_laws.specs.declared.lasting_answer.LastingAnswer.{LastingAnswer}
use Rattle.sat_lasting_laws.specs.declared.lasting_answer.LastingAnswer.TheVariants as says
use Rattle.sat_lasting_laws.specs.Lastings.{Cut, LastingEntry, cut_into, keeps_input, kept, kept_act, kept_entry, with_entry}
use Rattle.sat_lasting_laws.specs.LastingAnswers.{IsLastingInRange, cut_answer, is_allowed, lasting_answer}
use Rattle.sat_lasting_laws.specs.LastingRuns.{IsLastingRun}
use Rattle.sat_lasting_laws.specs.Goals.{EveryLastingIsGood}

-- a plain act of such a script is no settle
pub allowed-plain : (a : Act) → is_allowed a ≡ true → is_settle a ≡ false
allowed-plain act.Settle e = absurd (cc)
allowed-plain _ e = refl

-- a run goes on by an act whatever the cut that falls into it
abbrev After : Deployed → List Entry → Act → LastingAnswer → Type 0
After d h a r = IsRun d (with_entry (kept_act a r) h)

one-more : (d : Deployed) (h : List Entry) (a : Act) → IsRun d h → InRange d a → is_allowed a ≡ true → After d h a (says.Plain (answer d h a))
unfolding IsRun
one-more d h a run k e = (run, k, inl (allowed-plain a e, refl))

cut-off : (d : Deployed) (h : List Entry) (a : Act) (b : Bool) → IsRun d h → InRange d a → is_allowed a ≡ true → After d h a (if b then says.Stopped (answer d h a) else says.StoppedWithout)
unfolding IsRun
cut-off d h a true run k e = (run, k, inl (allowed-plain a e, refl))
cut-off d h a false run k e = run

by-cut : (d : Deployed) (h : List Entry) (a : Act) (o : Option Cut) → IsRun d h → InRange d a → is_allowed a ≡ true → After d h a (cut_answer o (answer d h a))
by-cut d h a None run k e = one-more d h a run k e
by-cut d h a (Some cut) run k e = cut-off d h a (keeps_input cut) run k e

-- an entry more
abbrev Goes : Deployed → List LastingEntry → LastingAct → LastingAnswer → Type 0
Goes d c a r = IsRun d (with_entry (kept_entry a r) (kept c))

answered : (d : Deployed) (c : List LastingEntry) (a : LastingAct) → IsLastingInRange d a → IsRun d (kept c) → Goes d c a (lasting_answer d c a)
unfolding lasting_answer
answered d c (lasting.Plain a) k run = by-cut d (kept c) a (cut_into d c a) run k.0 k.1
answered d c (lasting.Stop i) k run = run
answered d c (lasting.Cut i calls keep) k run = run

pub held : (d : Deployed) (c : List LastingEntry) → IsLastingRun d c → IsRun d (kept c)
unfolding IsLastingRun IsRun kept
held d [] run = tt
held d (x ∷ c) run = subst (Goes d c x.act) (sym run.2) (answered d c x.act run.1 (held d c run.0))

pub lastings : EveryLastingIsGood
lastings d c valid trees run = record { run = held d c run; good = good d (kept c) valid trees (held d c run) }
