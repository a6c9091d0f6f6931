-- What the statuses of the commands say, once the output is written.
use Rattle.std.proofs.Common.{◌≡◌, ℕ, zero, suc, Bool, true, false, List, Option, Some, None, Result, Ok, Err, IsSome, refl, sym, ap, subst, ◌∙◌}
use Rattle.sat_outside.specs.Streams.{Told, Takes}
use Rattle.sat_stream.specs.Reading.{reading}
use Rattle.sat_script.specs.declared.fault.ScriptFault.{ScriptFault}
use Rattle.sat_delay.specs.declared.fault.DelayFault.{DelayFault}
use Rattle.sat_delay.specs.Table.{DelayTable}
use Rattle.sat_delay.specs.Reading.{reading as delays_in}
use Rattle.sat_plan.specs.Texts.{plan_text, result_text}
use Rattle.sat_top.specs.declared.words.Command.{Command}
use Rattle.sat_top.specs.declared.words.Command.TheVariants.{Run, Draw, Plan, Place, Audit, Chain, Durable, Load, Help, Version}
use Rattle.sat_report.specs.Faults.{fault_line}
use Rattle.sat_stream.specs.declared.stream.Reading.{Reading}
use Rattle.sat_top.specs.Drawing.{draw_text, IsGoodDrawing}
use Rattle.sat_pieces.specs.Good.{IsGoodScript}
use Rattle.sat_place.specs.Shape.{Shape, shape_reading}
use Rattle.sat_place.specs.Texts.{place_text, result_text as place_result}
use Rattle.sat_top.specs.Placing.{place_status}
use Rattle.sat_top.specs.Auditing.{audit_status, heard_in, judged_status, verdict_status}
use Rattle.sat_audit.specs.Judging.{is_yes, verdict_of}
use Rattle.sat_audit.specs.declared.heard.History.{History}
use Rattle.sat_top.specs.Contract.{is_command_status}
use Rattle.sat_chain_script.specs.Readings.{chain_reading}
use Rattle.sat_lasting_script.specs.Laws.{lasting_reading}
use Rattle.sat_top.proofs.Audits.{audit_refused, verdict_done}
use Rattle.sat_top.proofs.Chained.{chain_done, chain_each, chain_low, chain_refused}
use Rattle.sat_pieces.specs.Streaming.{run_status}
use Rattle.sat_top.proofs.Lasted.{lasting_done, lasting_each, lasting_low, lasting_refused}
use Rattle.sat_top.specs.Whole.{IsDone, IsFound, IsRefused, IsOutput, HasRun, HasDrawn, HasLineFault, HasFault, HasPlan, HasDelayFault, HasPlacement, HasShapeFault, command_output, command_status, plan_status, refusal}

written : (c : Option Command) (left : Option (List ℕ)) (text : List ℕ) (status : ℕ) (old new : Told) (o : IsOutput c left text status) → Takes old new text → Takes old new (command_output c o.input)
written c left text status old new o took = subst (λ (bytes : List ℕ). Takes old new bytes) o.output took

never : zero ≡ suc zero → ⊥
never e = cc

plan-text : (input : List ℕ) (r : Result DelayTable DelayFault) → delays_in input ≡ r → plan_text input ≡ result_text r
unfolding plan_text
plan-text input r is = ap result_text is

run-done : (left : Option (List ℕ)) (text : List ℕ) (old new : Told) (o : IsOutput (Some Run) left text 0) → Takes old new text → HasRun left old new
run-done left text old new o took =
    let good : IsGoodScript o.input = o.proves.0 refl in record {
      text = o.input;
      whole = o.whole;
      deployment = good.deployment;
      acts = good.acts;
      spelled = good.spelled;
      written = subst (λ (bytes : List ℕ). Takes old new bytes) (o.output ∙ good.written) took;
      good = good.good;
    }

plan-done : (left : Option (List ℕ)) (text : List ℕ) (old new : Told) (o : IsOutput (Some Plan) left text 0) → Takes old new text → HasPlan left old new
plan-done left text old new o took = go (delays_in o.input) refl
  where
    go : (r : Result DelayTable DelayFault) → delays_in o.input ≡ r → HasPlan left old new
    go (Ok d) is = record {
      text = o.input;
      whole = o.whole;
      table = d;
      read = is;
      written = subst (λ (bytes : List ℕ). Takes old new bytes) (o.output ∙ plan-text o.input (Ok d) is) took;
      best = o.proves refl d is;
    }
    go (Err fault) is = absurd (never (o.status_is ∙ ap plan_status is))

draw-done : (left : Option (List ℕ)) (text : List ℕ) (old new : Told) (o : IsOutput (Some Draw) left text 0) → Takes old new text → HasDrawn left old new
draw-done left text old new o took =
    let good : IsGoodDrawing o.input = o.proves refl in record {
      text = o.input;
      whole = o.whole;
      deployment = good.deployment;
      acts = good.acts;
      spelled = good.spelled;
      written = subst (λ (bytes : List ℕ). Takes old new bytes) (o.output ∙ good.written) took;
      once = good.once;
      told = good.told;
      seats = good.seats;
      moved = good.moved;
      good = good.good;
    }

drawn-fault : (r : Reading) (fault : ScriptFault) → r.fault ≡ Some fault → draw_text r ≡ fault_line fault
drawn-fault r fault at = rw at refl

draw-refused : (left : Option (List ℕ)) (text : List ℕ) (old new : Told) (o : IsOutput (Some Draw) left text 1) → Takes old new text → HasLineFault left old new
draw-refused left text old new o took = go (reading false o.input).fault refl
  where
    go : (fault : Option ScriptFault) → (reading false o.input).fault ≡ fault → HasLineFault left old new
    go (Some fault) is = record {
      text = o.input;
      whole = o.whole;
      fault = fault;
      bad = is;
      written = subst (λ (bytes : List ℕ). Takes old new bytes) (o.output ∙ drawn-fault (reading false o.input) fault is) took;
    }
    go None is = absurd (never (sym (o.status_is ∙ ap run_status is)))

run-refused : (left : Option (List ℕ)) (text : List ℕ) (old new : Told) (o : IsOutput (Some Run) left text 1) → Takes old new text → HasFault left old new
run-refused left text old new o took = record {
  text = o.input;
  whole = o.whole;
  bad = go (reading false o.input).fault o.status_is;
  written = written (Some Run) left text 1 old new o took;
  good = o.proves.1 refl;
}
  where
    go : (fault : Option ScriptFault) → 1 ≡ run_status fault → IsSome fault
    go None e = absurd (never (sym e))
    go (Some fault) e = refl

plan-refused : (left : Option (List ℕ)) (text : List ℕ) (old new : Told) (o : IsOutput (Some Plan) left text 1) → Takes old new text → HasDelayFault left old new
plan-refused left text old new o took = go (delays_in o.input) refl
  where
    go : (r : Result DelayTable DelayFault) → delays_in o.input ≡ r → HasDelayFault left old new
    go (Err fault) is = record {
      text = o.input;
      whole = o.whole;
      fault = fault;
      bad = is;
      written = subst (λ (bytes : List ℕ). Takes old new bytes) (o.output ∙ plan-text o.input (Err fault) is) took;
    }
    go (Ok d) is = absurd (never (sym (o.status_is ∙ ap plan_status is)))

place-text : (input : List ℕ) (r : Result Shape DelayFault) → shape_reading input ≡ r → place_text input ≡ place_result r
unfolding place_text
place-text input r is = ap place_result is

place-done : (left : Option (List ℕ)) (text : List ℕ) (old new : Told) (o : IsOutput (Some Place) left text 0) → Takes old new text → HasPlacement left old new
place-done left text old new o took = go (shape_reading o.input) refl
  where
    go : (r : Result Shape DelayFault) → shape_reading o.input ≡ r → HasPlacement left old new
    go (Ok s) is = record {
      text = o.input;
      whole = o.whole;
      shape = s;
      read = is;
      written = subst (λ (bytes : List ℕ). Takes old new bytes) (o.output ∙ place-text o.input (Ok s) is) took;
      least = o.proves s is;
    }
    go (Err fault) is = absurd (never (o.status_is ∙ ap place_status is))

place-refused : (left : Option (List ℕ)) (text : List ℕ) (old new : Told) (o : IsOutput (Some Place) left text 1) → Takes old new text → HasShapeFault left old new
place-refused left text old new o took = go (shape_reading o.input) refl
  where
    go : (r : Result Shape DelayFault) → shape_reading o.input ≡ r → HasShapeFault left old new
    go (Err fault) is = record {
      text = o.input;
      whole = o.whole;
      fault = fault;
      bad = is;
      written = subst (λ (bytes : List ℕ). Takes old new bytes) (o.output ∙ place-text o.input (Err fault) is) took;
    }
    go (Ok s) is = absurd (never (sym (o.status_is ∙ ap place_status is)))

pub is_done : (c : Option Command) (left : Option (List ℕ)) (text : List ℕ) (status : ℕ) (old new : Told) → IsOutput c left text status → Takes old new text → status ≡ 0 → IsDone c left old new
is_done (Some Run) left text status old new o took is-zero = run-done left text old new (subst (λ (n : ℕ). IsOutput (Some Run) left text n) is-zero o) took
is_done (Some Draw) left text status old new o took is-zero = draw-done left text old new (subst (λ (n : ℕ). IsOutput (Some Draw) left text n) is-zero o) took
is_done (Some Plan) left text status old new o took is-zero = plan-done left text old new (subst (λ (n : ℕ). IsOutput (Some Plan) left text n) is-zero o) took
is_done (Some Place) left text status old new o took is-zero = place-done left text old new (subst (λ (n : ℕ). IsOutput (Some Place) left text n) is-zero o) took
is_done (Some Audit) left text status old new o took is-zero = verdict_done left text old new true (subst (λ (n : ℕ). IsOutput (Some Audit) left text n) is-zero o) took
is_done (Some (Chain replicas)) left text status old new o took is-zero = chain_done replicas left text old new (subst (λ (n : ℕ). IsOutput (Some (Chain replicas)) left text n) is-zero o) took
is_done (Some Durable) left text status old new o took is-zero = lasting_done left text old new (subst (λ (n : ℕ). IsOutput (Some Durable) left text n) is-zero o) took
is_done (Some (Load seed acts)) left text status old new o took is-zero = record { written = written (Some (Load seed acts)) left text status old new o took; good = o.proves }
is_done (Some Help) left text status old new o took is-zero = written (Some Help) left text status old new o took
is_done (Some Version) left text status old new o took is-zero = written (Some Version) left text status old new o took
is_done None left text status old new o took is-zero = absurd (let e : status ≡ 2 = o.status_is in cc)

pub is_refused : (c : Option Command) (left : Option (List ℕ)) (text : List ℕ) (status : ℕ) (old new : Told) → IsOutput c left text status → Takes old new text → status ≡ 1 → IsRefused c left old new
is_refused (Some Run) left text status old new o took is-one = run-refused left text old new (subst (λ (n : ℕ). IsOutput (Some Run) left text n) is-one o) took
is_refused (Some Draw) left text status old new o took is-one = draw-refused left text old new (subst (λ (n : ℕ). IsOutput (Some Draw) left text n) is-one o) took
is_refused (Some Plan) left text status old new o took is-one = plan-refused left text old new (subst (λ (n : ℕ). IsOutput (Some Plan) left text n) is-one o) took
is_refused (Some Place) left text status old new o took is-one = place-refused left text old new (subst (λ (n : ℕ). IsOutput (Some Place) left text n) is-one o) took
is_refused (Some Audit) left text status old new o took is-one = audit_refused left text old new (subst (λ (n : ℕ). IsOutput (Some Audit) left text n) is-one o) took
is_refused (Some (Chain replicas)) left text status old new o took is-one = chain_refused replicas left text old new (subst (λ (n : ℕ). IsOutput (Some (Chain replicas)) left text n) is-one o) took
is_refused (Some Durable) left text status old new o took is-one = lasting_refused left text old new (subst (λ (n : ℕ). IsOutput (Some Durable) left text n) is-one o) took
is_refused (Some (Load seed acts)) left text status old new o took is-one = absurd (let e : status ≡ 0 = o.status_is in cc)
is_refused (Some Help) left text status old new o took is-one = absurd (let e : status ≡ 0 = o.status_is in cc)
is_refused (Some Version) left text status old new o took is-one = absurd (let e : status ≡ 0 = o.status_is in cc)
is_refused None left text status old new o took is-one = absurd (let e : status ≡ 2 = o.status_is in cc)

-- 7 is the status of a verdict alone
run-low : (fault : Option ScriptFault) → run_status fault ≡ 7 → ⊥
run-low None e = cc
run-low (Some fault) e = cc

plan-low : (r : Result DelayTable DelayFault) → plan_status r ≡ 7 → ⊥
plan-low (Ok table) e = cc
plan-low (Err fault) e = cc

place-low : (r : Result Shape DelayFault) → place_status r ≡ 7 → ⊥
place-low (Ok shape) e = cc
place-low (Err fault) e = cc

pub is_found : (c : Option Command) (left : Option (List ℕ)) (text : List ℕ) (status : ℕ) (old new : Told) → IsOutput c left text status → Takes old new text → status ≡ 7 → IsFound c left old new
is_found (Some Audit) left text status old new o took is-seven = verdict_done left text old new false (subst (λ (n : ℕ). IsOutput (Some Audit) left text n) is-seven o) took
is_found (Some Run) left text status old new o took is-seven = run-low _ (sym o.status_is ∙ is-seven)
is_found (Some Draw) left text status old new o took is-seven = run-low _ (sym o.status_is ∙ is-seven)
is_found (Some Plan) left text status old new o took is-seven = plan-low _ (sym o.status_is ∙ is-seven)
is_found (Some Place) left text status old new o took is-seven = place-low _ (sym o.status_is ∙ is-seven)
is_found (Some (Chain replicas)) left text status old new o took is-seven = chain_low (chain_reading replicas o.input) (sym o.status_is ∙ is-seven)
is_found (Some Durable) left text status old new o took is-seven = lasting_low (lasting_reading o.input) (sym o.status_is ∙ is-seven)
is_found (Some (Load seed acts)) left text status old new o took is-seven = let e : status ≡ 0 = o.status_is in cc
is_found (Some Help) left text status old new o took is-seven = let e : status ≡ 0 = o.status_is in cc
is_found (Some Version) left text status old new o took is-seven = let e : status ≡ 0 = o.status_is in cc
is_found None left text status old new o took is-seven = let e : status ≡ 2 = o.status_is in cc

-- ---- which statuses there are, where the whole output was written

run-each : (P : ℕ → Type 0) → P 0 → P 1 → (fault : Option ScriptFault) → P (run_status fault)
run-each P none some None = none
run-each P none some (Some fault) = some

plan-each : (P : ℕ → Type 0) → P 0 → P 1 → (r : Result DelayTable DelayFault) → P (plan_status r)
plan-each P none some (Ok table) = none
plan-each P none some (Err fault) = some

place-each : (P : ℕ → Type 0) → P 0 → P 1 → (r : Result Shape DelayFault) → P (place_status r)
place-each P none some (Ok shape) = none
place-each P none some (Err fault) = some

verdict-each : (P : ℕ → Type 0) → P 0 → P 7 → (all : Bool) → P (verdict_status all)
verdict-each P none found true = none
verdict-each P none found false = found

audit-each : (P : ℕ → Type 0) → P 0 → P 1 → P 7 → (r : Result History ScriptFault) → P (judged_status r)
audit-each P none some found (Ok h) = verdict-each P none found (is_yes (verdict_of h))
audit-each P none some found (Err fault) = some

some-each : (P : ℕ → Type 0) → P 0 → P 1 → P 7 → (c : Command) (text : List ℕ) → P (command_status (Some c) text)
unfolding audit_status
some-each P none some found Run text = run-each P none some (reading false text).fault
some-each P none some found Draw text = run-each P none some (reading false text).fault
some-each P none some found Plan text = plan-each P none some (delays_in text)
some-each P none some found Place text = place-each P none some (shape_reading text)
some-each P none some found Audit text = audit-each P none some found (heard_in text)
some-each P none some found (Chain replicas) text = chain_each P none some (chain_reading replicas text)
some-each P none some found Durable text = lasting_each P none some (lasting_reading text)
some-each P none some found (Load seed acts) text = none
some-each P none some found Help text = none
some-each P none some found Version text = none

each-status : (P : ℕ → Type 0) → P 0 → P 1 → P 2 → P 7 → (c : Option Command) (text : List ℕ) → P (command_status c text)
each-status P none some words found None text = words
each-status P none some words found (Some c) text = some-each P none some found c text

pub has_status : (c : Option Command) (left : Option (List ℕ)) (text : List ℕ) (status : ℕ) → IsOutput c left text status → is_command_status status ≡ true
has_status c left text status o = subst (λ (n : ℕ). is_command_status n ≡ true) (sym o.status_is) (each-status (λ n. is_command_status n ≡ true) refl refl refl refl c o.input)

-- and no other
pub no_status : (k : ℕ) (c : Option Command) (left : Option (List ℕ)) (text : List ℕ) (status : ℕ) → IsOutput c left text status → (0 ≡ k → ⊥) → (1 ≡ k → ⊥) → (2 ≡ k → ⊥) → (7 ≡ k → ⊥) → status ≡ k → ⊥
no_status k c left text status o zero_not one_not two_not seven_not is = each-status (λ n. n ≡ k → ⊥) zero_not one_not two_not seven_not c o.input (sym o.status_is ∙ is)

-- words that are no command have a status of their own
pub two_is : (c : Option Command) (left : Option (List ℕ)) (text : List ℕ) (status : ℕ) (old new : Told) → IsOutput c left text status → Takes old new text → status ≡ 2 → (c ≡ None) × Takes old new refusal
two_is None left text status old new o took is = (refl, subst (λ (bytes : List ℕ). Takes old new bytes) o.output took)
two_is (Some c) left text status old new o took is = absurd (some-each (λ n. n ≡ 2 → ⊥) (λ e. cc) (λ e. cc) (λ e. cc) c o.input (sym o.status_is ∙ is))
