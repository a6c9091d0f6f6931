-- What a text of delays comes to.
use Rattle.std.proofs.Common.{◌≡◌, ℕ, ◌<◌, ◌≤◌, Bool, true, false, List, ◌++◌, length, Option, Some, Result, Ok, Err, refl, sym, ap, subst, ◌∙◌, arith}
use Rattle.std.specs.Prelude.{nat_lt}
use Rattle.std.specs.Io.KnownBytes.{Consumes, IsAtEnd}
use Rattle.std.proofs.lemmas.Bool.Decides.{nat_tests}
use Rattle.std.proofs.lemmas.List.{length-append}
use Rattle.sat_delay.specs.declared.fault.DelayFault.{DelayFault}
use Rattle.sat_delay.specs.declared.fault.DelayFault.TheVariants.{TooLong}
use Rattle.sat_delay.specs.Table.{DelayTable}
use Rattle.sat_delay.specs.Reading.{reading as delays_in}
use Rattle.sat_delay.specs.Texts.{fault_text}
use Rattle.sat_plan.specs.Config.{delayed}
use Rattle.sat_plan.specs.Mismatch.{mismatch}
use Rattle.sat_plan.specs.Steps.{built}
use Rattle.sat_plan.specs.Texts.{config_text, plan_text, result_text}
use Rattle.sat_place.specs.Shape.{shape_reading}
use Rattle.sat_top.specs.declared.words.Command.TheVariants.{Plan}
use Rattle.sat_follow.specs.Following.{IsTextOf}
use Rattle.sat_top.specs.Whole.{IsPlanned, IsOutput, plan_status}
use Rattle.sat_pieces.proofs.Progress.{at_end, rest_of}

pub planned : (bytes : List ℕ) (d : DelayTable) (text : List ℕ) (status : ℕ) → delays_in bytes ≡ Ok d → text ≡ config_text (built d) (mismatch d (built d)) → status ≡ 0 →
    ((e delay : ℕ) → mismatch d (built d) ≤ mismatch d (delayed (built d) e delay)) → IsPlanned bytes text status
unfolding plan_text
planned bytes d text status is wrote zero best = record {
  output = wrote ∙ ap result_text (sym is);
  status_is = zero ∙ sym (ap plan_status is);
  best = λ other at. let same : d ≡ other = cc in subst (λ (t : DelayTable). (e delay : ℕ) → mismatch t (built t) ≤ mismatch t (delayed (built t) e delay)) same best;
}

pub refused : (bytes : List ℕ) (fault : DelayFault) (text : List ℕ) (status : ℕ) → delays_in bytes ≡ Err fault → text ≡ fault_text fault → status ≡ 1 → IsPlanned bytes text status
unfolding plan_text
refused bytes fault text status is wrote one = record {
  output = wrote ∙ ap result_text (sym is);
  status_is = one ∙ sym (ap plan_status is);
  best = λ other at. absurd (cc);
}

-- ---- reading it

-- so many bytes are too many, whatever stands behind them
too_long : (bytes : List ℕ) → 1048576 < length bytes → delays_in bytes ≡ Err TooLong
unfolding delays_in
too_long bytes long = let past : nat_lt 1048576 (length bytes) ≡ true = grind (arith, nat_tests) in rw past refl

whole_delays : (a b : Option (List ℕ)) (taken : List ℕ) → Consumes a b taken → IsAtEnd b → (text : List ℕ) × IsTextOf a text × (delays_in text ≡ delays_in taken) × (shape_reading text ≡ shape_reading taken)
whole_delays a b taken took ends = (taken, at_end a b taken took ends, refl, refl)

-- so is a text with a tree
pub too_long_shape : (bytes : List ℕ) → 1048576 < length bytes → shape_reading bytes ≡ Err TooLong
unfolding shape_reading
too_long_shape bytes long = rw (too_long bytes long) refl

enough_delays : (a b : Option (List ℕ)) (taken : List ℕ) → Consumes a b taken → 1048576 < length taken → (text : List ℕ) × IsTextOf a text × (delays_in text ≡ delays_in taken) × (shape_reading text ≡ shape_reading taken)
enough_delays a b taken took long =
    let rest = rest_of a b taken took in
    let more : 1048576 < length (taken ++ rest.0) = omega (arith, length-append taken rest.0) in (
      taken ++ rest.0,
      rest.1,
      too_long (taken ++ rest.0) more ∙ sym (too_long taken long),
      too_long_shape (taken ++ rest.0) more ∙ sym (too_long_shape taken long),
    )

-- what was read says of the source's text what there is to say
pub read_so : (a b : Option (List ℕ)) (taken : List ℕ) → Consumes a b taken → (length taken ≤ 1048576 → IsAtEnd b) → (text : List ℕ) × IsTextOf a text × (delays_in text ≡ delays_in taken) × (shape_reading text ≡ shape_reading taken)
read_so a b taken took ends = go (nat_lt 1048576 (length taken)) refl
  where
    go : (test : Bool) → nat_lt 1048576 (length taken) ≡ test → (text : List ℕ) × IsTextOf a text × (delays_in text ≡ delays_in taken) × (shape_reading text ≡ shape_reading taken)
    go true long = enough_delays a b taken took (grind (arith, nat_tests))
    go false few = whole_delays a b taken took (ends (grind (arith, nat_tests)))

-- the plan of what was read is that of the source's text
pub plan_output : (left : Option (List ℕ)) (found text : List ℕ) (status : ℕ) → (input : List ℕ) × IsTextOf left input × (delays_in input ≡ delays_in found) × (shape_reading input ≡ shape_reading found) → IsPlanned found text status → IsOutput (Some Plan) left text status
unfolding plan_text
plan_output left found text status from is = record {
  input = from.0;
  whole = from.1;
  output = is.output ∙ ap result_text (sym from.2);
  status_is = is.status_is ∙ sym (ap plan_status from.2);
  proves = λ zero d at. is.best d (sym from.2 ∙ at);
}

refused_status : (r : Result DelayTable DelayFault) (fault : DelayFault) → r ≡ Err fault → 0 ≡ plan_status r → ⊥
refused_status (Ok d) fault is e = cc
refused_status (Err other) fault is e = cc

-- a plan with status 0 is one of few bytes
pub few_bytes : (bytes text : List ℕ) → IsPlanned bytes text 0 → length bytes ≤ 1048576
few_bytes bytes text is = go (nat_lt 1048576 (length bytes)) refl
  where
    go : (b : Bool) → nat_lt 1048576 (length bytes) ≡ b → length bytes ≤ 1048576
    go false few = grind (arith, nat_tests)
    go true long = absurd (refused_status (delays_in bytes) TooLong (too_long bytes (grind (arith, nat_tests))) is.status_is)

pub at_the_end : (bytes text : List ℕ) (status : ℕ) (P : Type 0) → IsPlanned bytes text status → (length bytes ≤ 1048576 → P) → status ≡ 0 → P
at_the_end bytes text status P is ends zero = ends (few_bytes bytes text (subst (λ (n : ℕ). IsPlanned bytes text n) zero is))
