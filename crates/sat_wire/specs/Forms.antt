-- Values of several forms are read exactly where each form is.
use Rattle.std.proofs.Common.{◌≡◌, ℕ, zero, suc, ◌+◌, ◌≤◌, Bool, true, List, [], ◌∷◌, ◌++◌, length, Ok, Err, sym, ◌∙◌}
use Rattle.std.proofs.Common.{ap, arith}
use Rattle.std.specs.Prelude.{slice_get}
use Rattle.sat_wire.specs.declared.fault.Cause.{Cause}
use Rattle.sat_wire.specs.declared.fault.Stop.{Stop}
use Rattle.sat_wire.specs.Code.{Read, Code, AreBytes, IsExact, made, stopped, read_form, read_number, chosen}
use Rattle.sat_wire.specs.Exact.{none_left, stop_is, made_of, made_stops, made_goes}

module _ {A : Type 0} (number : A → ℕ) (fields : A → List ℕ) (fits : A → Bool) where
  -- the form of this number gives values of this number alone, each spelled so
  pub record IsForm (n : ℕ) (form : List ℕ → Read A) : Type 0 where
    pub only : (bytes rest : List ℕ) (x : A) → AreBytes bytes → form bytes ≡ Ok (x, rest)
        → (number x ≡ n) × (bytes ≡ fields x ++ rest) × (fits x ≡ true)
    pub inside : (bytes : List ℕ) (stop : Stop) → AreBytes bytes → form bytes ≡ Err stop
        → stop.left ≤ suc (length bytes)

  -- the forms from this number on
  abbrev pub AreForms : ℕ → List (List ℕ → Read A) → Type 0
  AreForms n [] = Unit {0}
  AreForms n (form ∷ forms) = IsForm n form × AreForms (suc n) forms

  -- a form that is made of a code
  module _ {P : Type 0} (to : P → A) (code : Code P) (p : IsExact code) (n : ℕ) (numbered : (x : P) → number (to x) ≡ n)
      (spelled : (x : P) → fields (to x) ≡ code.spell x)
      (fitting : (x : P) → fits (to x) ≡ code.fits x) where
    pub form_of : IsForm n (λ bytes. made to (code.read bytes))
    form_of = record {
      only = λ bytes rest y small is.
          let x = made_of to (code.read bytes) y rest is in
          let front = p.only bytes rest x.0 small x.1 in (
            ap number x.2 ∙ numbered x.0,
            front.0 ∙ ap (λ (l : List ℕ). l ++ rest) (sym (ap fields x.2 ∙ spelled x.0)),
            ap fits x.2 ∙ fitting x.0 ∙ front.1,
          );
      inside = λ bytes stop small is. let left =
          p.inside bytes stop small (made_stops to (code.read bytes) stop is) in omega (arith, left);
    }

    pub form_again : (x : P) (rest : List ℕ) → fits (to x) ≡ true
        → made to (code.read (fields (to x) ++ rest)) ≡ Ok (to x, rest)
    form_again x rest fit =
        ap (λ (l : List ℕ). made to (code.read (l ++ rest))) (spelled x)
        ∙ made_goes to (code.read (code.spell x ++ rest)) x rest (p.again x rest (sym (fitting x) ∙ fit))

  -- no form has this number
  pub no_form : (why : Cause) (n : ℕ) → IsForm n (λ bytes. stopped why (suc (length bytes)))
  no_form why n = record {
    only = λ bytes rest x small is. cc;
    inside = λ bytes stop small is. let left : suc (length bytes) ≡ stop.left =
        ap (λ (s : Stop). s.left) (stop_is {A = A × List ℕ} _ stop is) in omega (arith, left);
  }

  module _ (why : Cause) where
    form_only : (forms : List (List ℕ → Read A)) (k n left : ℕ) → AreForms k forms → (bytes rest : List ℕ) (x : A)
        → AreBytes bytes → read_form why left (slice_get forms n) bytes ≡ Ok (x, rest)
        → (number x ≡ k + n) × (bytes ≡ fields x ++ rest) × (fits x ≡ true)
    form_only [] k n left are bytes rest x small is = cc
    form_only (form ∷ forms) k zero left are bytes rest x small is = let p =
        are.0.only bytes rest x small is in (omega (arith, p.0), p.1, p.2)
    form_only (form ∷ forms) k (suc n) left are bytes rest x small is = let p =
        form_only forms (suc k) n left are.1 bytes rest x small is in (omega (arith, p.0), p.1, p.2)

    form_inside : (forms : List (List ℕ → Read A)) (k n : ℕ) → AreForms k forms → (bytes : List ℕ) (stop : Stop)
        → AreBytes bytes
        → read_form why (suc (length bytes)) (slice_get forms n) bytes ≡ Err stop → stop.left ≤ suc (length bytes)
    form_inside [] k n are bytes stop small is = let left : suc (length bytes) ≡ stop.left =
        ap (λ (s : Stop). s.left) (stop_is {A = A × List ℕ} _ stop is) in omega (arith, left)
    form_inside (form ∷ forms) k zero are bytes stop small is = are.0.inside bytes stop small is
    form_inside (form ∷ forms) k (suc n) are bytes stop small is = form_inside forms (suc k) n are.1 bytes stop small is

    module _ (most : ℕ) (forms : List (List ℕ → Read A)) (are : AreForms 0 forms)
        (again : (x : A) (rest : List ℕ) (left : ℕ) → fits x ≡ true
        → read_form why left (slice_get forms (number x)) (fields x ++ rest) ≡ Ok (x, rest))
        (short : (x : A) → fits x ≡ true → length (fields x) ≤ most) where
      number_only : (bytes rest : List ℕ) (x : A) → AreBytes bytes → read_number why forms bytes ≡ Ok (x, rest)
          → (bytes ≡ number x ∷ fields x ++ rest) × (fits x ≡ true)
      number_only [] rest x small is = cc
      number_only (n ∷ more) rest x small is =
          let p = form_only forms 0 n (suc (length more)) are more rest x (λ i. small (suc i)) is in
          let same : number x ≡ n = omega (arith, p.0) in
          ((λ i. (sym same) i ∷ p.1 i), p.2)

      number_inside : (bytes : List ℕ) (stop : Stop) → AreBytes bytes → read_number why forms bytes ≡ Err stop
          → stop.left ≤ length bytes
      number_inside [] stop small is = none_left stop 0 is
      number_inside (n ∷ more) stop small is = form_inside forms 0 n are more stop (λ i. small (suc i)) is

      pub exact_chosen : IsExact (chosen number fields fits most why forms)
      exact_chosen = record {
        again = λ x rest fit. again x rest (suc (length (fields x ++ rest))) fit;
        only = number_only;
        short = λ x fit. let few = short x fit in omega (arith, few);
        inside = number_inside;
      }
