-- What a text of delays with a tree comes to.
use Rattle.std.proofs.Common.{◌≡◌, ℕ, ◌≤◌, Bool, true, false, List, length, Option, Some, Result, Ok, Err, refl, sym, ap, subst, ◌∙◌, arith}
use Rattle.std.specs.Prelude.{nat_lt}
use Rattle.std.proofs.lemmas.Bool.Decides.{nat_tests}
use Rattle.sat_tree.specs.Shape.{TreeShape}
use Rattle.sat_delay.specs.declared.fault.DelayFault.{DelayFault}
use Rattle.sat_delay.specs.declared.fault.DelayFault.TheVariants.{TooLong}
use Rattle.sat_delay.specs.Table.{DelayTable}
use Rattle.sat_delay.specs.Reading.{reading as delays_in}
use Rattle.sat_place.specs.Placing.{IsLeast, worth}
use Rattle.sat_place.specs.Search.{least_places}
use Rattle.sat_place.specs.Shape.{Shape, shape_reading}
use Rattle.sat_place.specs.Texts.{placed_text, least_text, shape_fault_text, result_text, place_text}
use Rattle.sat_top.specs.declared.words.Command.TheVariants.{Place}
use Rattle.sat_top.specs.Placing.{IsPlaced, place_status}
use Rattle.sat_follow.specs.Following.{IsTextOf}
use Rattle.sat_top.specs.Whole.{IsOutput}
use Rattle.sat_top.proofs.Plans.{too_long_shape}

-- the text of a placement that is the one that the definition finds
pub text_is : (d : DelayTable) (t : TreeShape) (places : List ℕ) (mismatch : ℕ) (text : List ℕ) → IsLeast d t places mismatch → places ≡ least_places d t → text ≡ placed_text t places mismatch → text ≡ least_text d t
unfolding least_text
text_is d t places mismatch text least found wrote = wrote ∙ ap (placed_text t places) least.own ∙ ap (λ ps. placed_text t ps (worth d t ps)) found

pub best_is : (d : DelayTable) (t : TreeShape) (places : List ℕ) (mismatch : ℕ) → IsLeast d t places mismatch → places ≡ least_places d t → IsLeast d t (least_places d t) (worth d t (least_places d t))
best_is d t places mismatch least found =
    let own : IsLeast d t places (worth d t places) = subst (λ m. IsLeast d t places m) least.own least in
    subst (λ ps. IsLeast d t ps (worth d t ps)) found own

pub placed : (bytes : List ℕ) (s : Shape) (text : List ℕ) (status : ℕ) → shape_reading bytes ≡ Ok s → text ≡ least_text s.table s.tree → status ≡ 0 → IsLeast s.table s.tree (least_places s.table s.tree) (worth s.table s.tree (least_places s.table s.tree)) → IsPlaced bytes text status
unfolding place_text
placed bytes s text status is wrote zero best = record {
  output = wrote ∙ ap result_text (sym is);
  status_is = zero ∙ sym (ap place_status is);
  best = λ other at. let same : s ≡ other = cc in subst (λ (x : Shape). IsLeast x.table x.tree (least_places x.table x.tree) (worth x.table x.tree (least_places x.table x.tree))) same best;
}

pub unplaced : (bytes : List ℕ) (fault : DelayFault) (text : List ℕ) (status : ℕ) → shape_reading bytes ≡ Err fault → text ≡ shape_fault_text fault → status ≡ 1 → IsPlaced bytes text status
unfolding place_text
unplaced bytes fault text status is wrote one = record {
  output = wrote ∙ ap result_text (sym is);
  status_is = one ∙ sym (ap place_status is);
  best = λ other at. absurd (cc);
}

-- ---- reading it

-- the placement of what was read is that of the source's text
pub place_output : (left : Option (List ℕ)) (found text : List ℕ) (status : ℕ) → (input : List ℕ) × IsTextOf left input × (delays_in input ≡ delays_in found) × (shape_reading input ≡ shape_reading found) → IsPlaced found text status → IsOutput (Some Place) left text status
unfolding place_text
place_output left found text status from is = record {
  input = from.0;
  whole = from.1;
  output = is.output ∙ ap result_text (sym from.3);
  status_is = is.status_is ∙ sym (ap place_status from.3);
  proves = λ shape at. is.best shape (sym from.3 ∙ at);
}

shape_fault_status : (r : Result Shape DelayFault) (fault : DelayFault) → r ≡ Err fault → 0 ≡ place_status r → ⊥
shape_fault_status (Ok s) fault is e = cc
shape_fault_status (Err other) fault is e = cc

-- a placement with status 0 is one of few bytes
pub few_shape_bytes : (bytes text : List ℕ) → IsPlaced bytes text 0 → length bytes ≤ 1048576
few_shape_bytes bytes text is = go (nat_lt 1048576 (length bytes)) refl
  where
    go : (b : Bool) → nat_lt 1048576 (length bytes) ≡ b → length bytes ≤ 1048576
    go false few = grind (arith, nat_tests)
    go true long = absurd (shape_fault_status (shape_reading bytes) TooLong (too_long_shape bytes (grind (arith, nat_tests))) is.status_is)

pub place_at_end : (bytes text : List ℕ) (status : ℕ) (P : Type 0) → IsPlaced bytes text status → (length bytes ≤ 1048576 → P) → status ≡ 0 → P
place_at_end bytes text status P is ends zero = ends (few_shape_bytes bytes text (subst (λ (n : ℕ). IsPlaced bytes text n) zero is))
