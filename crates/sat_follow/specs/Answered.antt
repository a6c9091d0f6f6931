-- What holds of bytes that lines were followed in.
use Rattle.std.specs.Prelude.{ℕ, ◌≡◌, List, [], ◌++◌}
use Rattle.std.proofs.Common.{refl, sym, ap, ◌∙◌, arith}
use Rattle.std.proofs.lemmas.List.{append-nil}
use Rattle.sat_follow.specs.Meaning.{IsAnswered}
use Rattle.sat_follow.specs.Rules.{Rules, Made, made, made_from, meaning_of, behind, at_end}
use Rattle.sat_follow.specs.ByLines.{Follows, onto_front}

-- where no more comes
pub ended : {S : Type 0} → (r : Rules S) (stands : S → Type 0) (begun front : List ℕ)
    (had : Follows r stands begun front) → made r front ≡ behind had.told (at_end (r.close had.state begun))
unfolding made_from
ended r stands begun front had =
    ap (made r) (sym (append-nil front)) ∙ had.goes_on []
    ∙ ap (λ (rest : List ℕ). behind had.told (at_end (r.close had.state rest))) (append-nil begun)

-- what was answered are the answers of its lines
pub told_is : {S : Type 0} → (r : Rules S) (stands : S → Type 0) (begun front : List ℕ)
    (had : Follows r stands begun front) → (made r front).answers ≡ had.told
told_is r stands begun front had = ap (λ (m : Made). m.answers) (ended r stands begun front had) ∙ append-nil had.told

pub answered : {S : Type 0} → (r : Rules S) (stands : S → Type 0) (begun front : List ℕ) → Follows r stands begun front
    → IsAnswered (meaning_of r) front
unfolding made made_from
answered r stands begun front had = record {
  good = ap (λ (m : Made). m.good) (ended r stands begun front had) ∙ had.may_go_on;
  few = omega (arith, had.counted, had.few, had.short);
  bounded = had.bounded;
  begins = λ more.
      let rest = made_from r had.state (onto_front begun _) in (
        rest.output,
        ap (λ (m : Made). m.output) (had.goes_on more)
            ∙ ap (λ (bytes : List ℕ). bytes ++ rest.output) (sym (told_is r stands begun front had)),
      );
  from_nothing = refl;
}
