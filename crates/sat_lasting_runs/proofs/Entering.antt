-- What sites that last make of an act, for their follower.
use Rattle.std.proofs.Common.{◌≡◌, ℕ, ◌+◌, ◌-◌, ◌^◌, ◌≤◌, min, List, [], ◌∷◌, ◌++◌, Option, Some, None, Result, Ok, Err, OnOk, IfOk, is_some, true, false, refl, sym, ap, subst, ◌∙◌, arith}
use Rattle.sat_act.specs.Deployed.{Deployed}
use Rattle.sat_act.specs.declared.entry.Entry.{Entry}
use Rattle.sat_act.specs.Runs.{IsRun}
use Rattle.sat_lasting.specs.Lasts.{LastingSeen, LastsFor, IsSound, LastingApplies}
use Rattle.sat_lasting_laws.specs.Lastings.{LastingEntry, kept}
use Rattle.sat_lasting_laws.specs.LastingRuns.{IsLastingRun}
use Rattle.sat_lasting_laws.proofs.Held.{held as run_of_kept}
use Rattle.sat_lasting_laws.specs.Ranges.{IsLastingActOf}
use Rattle.sat_lasting_laws.specs.declared.lasting_act.LastingAct.{LastingAct}
use Rattle.sat_lasting_laws.specs.declared.lasting_answer.LastingAnswer.{LastingAnswer}
use Rattle.sat_lasting_script.specs.Forms.{lasting_acts}
use Rattle.sat_lasting_texts.specs.Texts.{lasting_answer_text, lasting_line_text}
use Rattle.sat_lasting_runs.specs.Held.{AsksAct, EntersIn, LastingHeld, IsLastingHeld, LastingReady, LastingStarted, LastingEnters, HistoryOf, AtAnyTime, deployed}
use Rattle.std.specs.Prelude.{IfSome}
use Rattle.sat_own_acts.specs.Held.{IsMachineOf, StandFor}
use Rattle.sat_own_acts.proofs.Doing.{ready_held, ready_made}
use Rattle.sat_own_acts.proofs.Reading.{deployed_is}
use Rattle.sat_report.specs.Holdings.{holdings}
use Rattle.sat_script.specs.Kept.{IsFit}
use Rattle.sat_script.specs.State.{Seen, State, deployment_of}
use Rattle.sat_script.proofs.Stands.{limits_few}
use Rattle.sat_world.specs.Seen.{WorldSeen}
use Rattle.sat_world.specs.Stands.{StandsFor}

-- to sites to which nothing has happened
pub stands_new : (l : LastingSeen) → LastsFor l [] → HistoryOf l []
unfolding IsLastingRun
stands_new l fresh = (tt, fresh)

-- those that were made of the deployment that was read, where there were none
pub new_there : (v : LastingHeld) (l : LastingSeen) (d : Deployed) → v.machine ≡ None → deployment_of v.reader.state ≡ Some d → l.world.deployment ≡ d → LastsFor l [] → LastingReady v l
new_there v l d none is deployment fresh = ready_made deployed AtAnyTime HistoryOf v l none (is ∙ ap (λ (x : Deployed). Some x) (sym deployment)) tt (stands_new l fresh)

pub not_there : (held : Option LastingSeen) → is_some held ≡ false → held ≡ None
not_there None away = refl
not_there (Some l) away = absurd (cc)

-- an act that they did is entered
pub enters : {T E : Type 0} (result : Result T E) (old new : LastingSeen) (a : LastingAct) (r : LastingAnswer) (d : Deployed) (number : ℕ) (text longer : List ℕ) → LastingApplies old a r new → d ≡ new.world.deployment
    → OnOk result (longer ≡ text ++ lasting_line_text number (lasting_answer_text d a r)) → OnOk result (LastingEnters old a new number text longer)
enters (Ok t) old new a r d number text longer does is written = record {
  entry = record { act = a; answer = r };
  entered = λ c had. ap (λ (s : LastingAnswer). (let x : LastingEntry = record { act = a; answer = s } in x)) (does.answer c had.0 had.1);
  stands = λ c had. (does.run c had.0 had.1, does.stands c had.0 had.1);
  deployment = does.deployment;
  longer_by = written ∙ ap (λ (e : Deployed). text ++ lasting_line_text number (lasting_answer_text e a r)) (is ∙ does.deployment);
}
enters (Err e) old new a r d number text longer does is written = tt

-- what is asked of the act, of the sites that do it
pub asks_act : (v : LastingHeld) (l : LastingSeen) (a : LastingAct) → LastingReady v l → IsLastingActOf v.reader.state.header a → IsLastingActOf l.world.deployment a
asks_act v l a ready fits = subst (λ (d : Deployed). IsLastingActOf d a) (deployed_is v.reader.state.stage v.reader.state.header l.world.deployment ready.deployment) fits

-- so many acts are there never
few_acts : (v : LastingHeld) → IsLastingHeld v → v.answered ≤ 1000000
few_acts v held =
    let few = (limits_few v.reader.state.dialect v.reader.state.header.format).acts in
    omega (arith, held.counted, held.fit.acts, few)

-- they stand for some history
pub is_sound : (v : LastingHeld) (l : LastingSeen) → IsLastingHeld v → LastingReady v l → IsSound l
is_sound v l held ready = let had = ready.keeps held.known.0 held.known.1 in (held.known.0, had.0, had.1)

pub number_is : (v : LastingHeld) (number : ℕ) → IsLastingHeld v → number ≡ min (v.answered + 1) (2 ^ 64 - 1) → number ≡ v.answered + 1
number_is v number held is = let few = few_acts v held in omega (arith, is, few)

-- what is written of their world is what the sites hold after the kept acts
pub holds : (l : LastingSeen) (w : WorldSeen) (text longer : List ℕ) → w ≡ l.world → ((h : List Entry) → IsRun w.deployment h → StandsFor w h → longer ≡ text ++ holdings w.deployment h)
    → (c : List LastingEntry) → HistoryOf l c → longer ≡ text ++ holdings l.world.deployment (kept c)
holds l w text longer is wrote c had =
    (subst (λ (w : WorldSeen). (h : List Entry) → IsRun w.deployment h → StandsFor w h → longer ≡ text ++ holdings w.deployment h) is wrote) (kept c) (run_of_kept l.world.deployment c had.0) had.1.world

-- a clause of a call that is handed on as it is
pub when_ok : {T E P Q : Type 0} (result : Result T E) → OnOk result P → (P → Q) → OnOk result Q
when_ok (Ok t) p gives = gives p
when_ok (Err e) p gives = tt

-- ---- sites that are there

some_is : (l m : LastingSeen) → Some l ≡ Some m → l ≡ m
some_is l m is = cc

-- they may be asked to do the act
pub asks : (v : LastingHeld) (held : Option LastingSeen) (a : LastingAct) → IsLastingHeld v → LastingStarted v held → IsLastingActOf v.reader.state.header a → AsksAct held a
asks v held a had started fits =
    record { lasting = started.lasting; there = started.there; act = asks_act v started.lasting a started.ready fits; sound = is_sound v started.lasting had started.ready }

-- those that were there are ready
pub ready_there : (v : LastingHeld) (held : Option LastingSeen) (l : LastingSeen) → LastingStarted v held → held ≡ Some l → LastingReady v l
ready_there v held l started is = subst (λ (m : LastingSeen). LastingReady v m) (some_is started.lasting l (sym started.there ∙ is)) started.ready

-- they are the follower's from then on
pub held_started : (old new : LastingHeld) (l : LastingSeen) → IsLastingHeld old → LastingReady old l → new.reader ≡ old.reader → new.answered ≡ old.answered → new.machine ≡ Some l → IsLastingHeld new
held_started old new l held ready reader answered is = record {
  fit = subst (λ (x : Seen). IsFit x.state) (sym reader) held.fit;
  dialect_is = ap (λ (x : Seen). x.state.dialect) reader ∙ held.dialect_is;
  machine_of = subst (λ (o : Option LastingSeen). IsMachineOf deployed (deployment_of new.reader.state) o) (sym is) (ap (λ (x : Seen). deployment_of x.state) reader ∙ ready.deployment);
  fits = subst (λ (o : Option LastingSeen). IfSome o (λ m. AtAnyTime new.answered m)) (sym is) tt;
  counted = rw (reader, answered) held.counted;
  known = (held.known.0, subst (λ (o : Option LastingSeen). StandFor HistoryOf o held.known.0) (sym is) (ready.keeps held.known.0 held.known.1));
}
