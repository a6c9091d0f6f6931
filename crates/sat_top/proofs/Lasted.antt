-- What a script for sites that last that came to its end says.
use Rattle.std.proofs.Common.{◌≡◌, ℕ, List, Option, Some, None, IsSome, refl, subst}
use Rattle.std.specs.Prelude.{IfSome}
use Rattle.sat_outside.specs.Streams.{Told, Takes}
use Rattle.sat_act.specs.Deployed.{Deployed}
use Rattle.sat_act.specs.Limits.{IsDeployment}
use Rattle.sat_script.specs.declared.fault.ScriptFault.{ScriptFault}
use Rattle.sat_lasting_laws.specs.declared.lasting_act.LastingAct.{LastingAct}
use Rattle.sat_lasting_script.specs.Laws.{AreLastingActs, IsGoodLasting, EveryLastingTextIsGood, LastingReading, lasting_reading}
use Rattle.sat_lasting_runs.specs.LastingTexts.{lasting_status}
use Rattle.sat_top.specs.declared.words.Command.TheVariants.{Durable}
use Rattle.sat_top.specs.Lasting.{HasLasted, HasLastingFault, IsGoodLastingFront}
use Rattle.sat_top.specs.Whole.{IsOutput}

-- ---- the status

pub lasting_each : (P : ℕ → Type 0) → P 0 → P 1 → (x : LastingReading) → P (lasting_status x)
lasting_each P none some x = go x.fault refl
  where
    go : (fault : Option ScriptFault) → x.fault ≡ fault → P (lasting_status x)
    go None is = rw is none
    go (Some fault) is = rw is some

pub lasting_low : (x : LastingReading) → lasting_status x ≡ 7 → ⊥
lasting_low x = lasting_each (λ n. n ≡ 7 → ⊥) (λ e. cc) (λ e. cc) x

zero-fault : (x : LastingReading) → 0 ≡ lasting_status x → x.fault ≡ None
zero-fault x zero = go x.fault refl
  where
    go : (fault : Option ScriptFault) → x.fault ≡ fault → x.fault ≡ None
    go None is = is
    go (Some fault) is = absurd (let e : lasting_status x ≡ 1 = rw is refl in cc)

one-fault : (x : LastingReading) → 1 ≡ lasting_status x → IsSome x.fault
one-fault x one = go x.fault refl
  where
    go : (fault : Option ScriptFault) → x.fault ≡ fault → IsSome x.fault
    go (Some fault) is = rw is refl
    go None is = absurd (let e : lasting_status x ≡ 0 = rw is refl in cc)

-- ---- what was done and what was refused

good_front : (o : Option Deployed) (acts : List LastingAct) → IfSome o (λ d. IsDeployment d × AreLastingActs d acts × IsGoodLasting d acts) → IfSome o (λ d. IsGoodLasting d acts)
good_front None acts whole = tt
good_front (Some d) acts whole = whole.2

-- the history of the acts before the first bad line is good
pub is_good_front : (text : List ℕ) → EveryLastingTextIsGood → IsGoodLastingFront text
is_good_front text law = good_front (lasting_reading text).deployment (lasting_reading text).acts (law text).whole

pub lasting_done : (left : Option (List ℕ)) (text : List ℕ) (old new : Told) → IsOutput (Some Durable) left text 0 → Takes old new text → HasLasted left old new
lasting_done left text old new o took = go (lasting_reading o.input).deployment refl
  where
    x : LastingReading
    x = lasting_reading o.input

    fine : x.fault ≡ None
    fine = zero-fault x o.status_is

    go : (deployment : Option Deployed) → x.deployment ≡ deployment → HasLasted left old new
    go (Some d) is = record {
      text = o.input;
      whole = o.whole;
      deployment = d;
      acts = x.acts;
      read = λ i. record { deployment = is i; acts = x.acts; fault = fine i };
      written = subst (λ (bytes : List ℕ). Takes old new bytes) o.output took;
      good = (rw is at o.proves.whole).2;
    }
    go None is = absurd (let e = o.proves.ends fine in let f = rw is at e in cc)

pub lasting_refused : (left : Option (List ℕ)) (text : List ℕ) (old new : Told) → IsOutput (Some Durable) left text 1 → Takes old new text → HasLastingFault left old new
lasting_refused left text old new o took = record {
  text = o.input;
  whole = o.whole;
  bad = one-fault (lasting_reading o.input) o.status_is;
  written = subst (λ (bytes : List ℕ). Takes old new bytes) o.output took;
  good = good_front (lasting_reading o.input).deployment (lasting_reading o.input).acts o.proves.whole;
}
