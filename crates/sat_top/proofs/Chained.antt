-- What a script with chains that came to its end says.
use Rattle.std.proofs.Common.{◌≡◌, ℕ, List, Option, Some, None, IsSome, refl, subst}
use Rattle.std.specs.Prelude.{IfSome}
use Rattle.sat_outside.specs.Streams.{Told, Takes}
use Rattle.sat_act.specs.Deployed.{Deployed}
use Rattle.sat_act.specs.Limits.{IsDeployment}
use Rattle.sat_script.specs.declared.fault.ScriptFault.{ScriptFault}
use Rattle.sat_chain_laws.specs.declared.chain_act.ChainAct.{ChainAct}
use Rattle.sat_chain_script.specs.Laws.{AreChainActs, IsGoodChain, EveryChainTextIsGood}
use Rattle.sat_chain_script.specs.Readings.{ChainReading, chain_reading}
use Rattle.sat_chain_runs.specs.ChainTexts.{chain_status}
use Rattle.sat_top.specs.declared.words.Command.TheVariants.{Chain}
use Rattle.sat_top.specs.Chaining.{HasChained, HasChainFault, IsGoodChainFront}
use Rattle.sat_top.specs.Whole.{IsOutput}

-- ---- the status

pub chain_each : (P : ℕ → Type 0) → P 0 → P 1 → (x : ChainReading) → P (chain_status x)
chain_each P none some x = go x.fault refl
  where
    go : (fault : Option ScriptFault) → x.fault ≡ fault → P (chain_status x)
    go None is = rw is none
    go (Some fault) is = rw is some

pub chain_low : (x : ChainReading) → chain_status x ≡ 7 → ⊥
chain_low x = chain_each (λ n. n ≡ 7 → ⊥) (λ e. cc) (λ e. cc) x

zero-fault : (x : ChainReading) → 0 ≡ chain_status x → x.fault ≡ None
zero-fault x zero = go x.fault refl
  where
    go : (fault : Option ScriptFault) → x.fault ≡ fault → x.fault ≡ None
    go None is = is
    go (Some fault) is = absurd (let e : chain_status x ≡ 1 = rw is refl in cc)

one-fault : (x : ChainReading) → 1 ≡ chain_status x → IsSome x.fault
one-fault x one = go x.fault refl
  where
    go : (fault : Option ScriptFault) → x.fault ≡ fault → IsSome x.fault
    go (Some fault) is = rw is refl
    go None is = absurd (let e : chain_status x ≡ 0 = rw is refl in cc)

-- ---- what was done and what was refused

good_front : (r : ℕ) (o : Option Deployed) (acts : List ChainAct) → IfSome o (λ d. IsDeployment d × AreChainActs d r acts × IsGoodChain d r acts) → IfSome o (λ d. IsGoodChain d r acts)
good_front r None acts whole = tt
good_front r (Some d) acts whole = whole.2

-- the history of the acts before the first bad line is good
pub is_good_front : (r : ℕ) (text : List ℕ) → EveryChainTextIsGood → IsGoodChainFront r text
is_good_front r text law = good_front r (chain_reading r text).deployment (chain_reading r text).acts (law r text).whole

pub chain_done : (r : ℕ) (left : Option (List ℕ)) (text : List ℕ) (old new : Told) → IsOutput (Some (Chain r)) left text 0 → Takes old new text → HasChained r left old new
chain_done r left text old new o took = go (chain_reading r o.input).deployment refl
  where
    x : ChainReading
    x = chain_reading r o.input

    fine : x.fault ≡ None
    fine = zero-fault x o.status_is

    go : (deployment : Option Deployed) → x.deployment ≡ deployment → HasChained r left old new
    go (Some d) is = record {
      text = o.input;
      whole = o.whole;
      deployment = d;
      acts = x.acts;
      read = λ i. record { deployment = is i; acts = x.acts; fault = fine i };
      written = subst (λ (bytes : List ℕ). Takes old new bytes) o.output took;
      good = (rw is at o.proves.whole).2;
    }
    go None is = absurd (let e = o.proves.ends fine in let f = rw is at e in cc)

pub chain_refused : (r : ℕ) (left : Option (List ℕ)) (text : List ℕ) (old new : Told) → IsOutput (Some (Chain r)) left text 1 → Takes old new text → HasChainFault r left old new
chain_refused r left text old new o took = record {
  text = o.input;
  whole = o.whole;
  bad = one-fault (chain_reading r o.input) o.status_is;
  written = subst (λ (bytes : List ℕ). Takes old new bytes) o.output took;
  good = good_front r (chain_reading r o.input).deployment (chain_reading r o.input).acts o.proves.whole;
}
