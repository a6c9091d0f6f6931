-- What is read has the shape and the bounds that it should.
use Rattle.std.proofs.Common.{ℕ, ◌≡◌, ◌≤◌, inl, inr, List, [], length, Bool, true, false, nat_le, Result, Ok, Err, Option, Some, None, get_or, refl, arith}
use Rattle.std.proofs.lemmas.Bool.{cases_lt}
use Rattle.std.proofs.lemmas.Bool.Decides.{nat_tests}
use Rattle.std.proofs.lemmas.List.{get_or_past}
use Rattle.serde_json.specs.Data.{Data}
use Rattle.sat_delay.specs.declared.fault.Place.{Place}
use Rattle.sat_delay.specs.declared.fault.DelayFault.{DelayFault}
use Rattle.sat_delay.specs.declared.matrix.Form.{Form}
use Rattle.sat_delay.specs.Table.{IsMatrix}
use Rattle.sat_delay.specs.Reading.{within, number_at, ended, cell_at, row_of, row_at, matrix_of, item_at}
use Rattle.sat_delay.proofs.Gathered.{IsGathered, is_gathered}

within_most : (place : Place) (most n : ℕ) (o : Option ℕ) → within place most o ≡ Ok n → n ≤ most
within_most place most n None e = absurd (cc)
within_most place most n (Some m) e = go (nat_le m most) refl e
  where
    go : (b : Bool) → nat_le m most ≡ b → within place most (Some m) ≡ Ok n → n ≤ most
    go true fits is = let whole : Ok m ≡ Ok n = rw fits at is in let same : m ≡ n = cc in grind (arith, nat_tests)
    go false fits is = absurd (let whole : Err (Rattle.sat_delay.specs.declared.fault.DelayFault.TheVariants.TooBig place) ≡ Ok n = rw fits at is in cc)

pub number_most : (place : Place) (most n : ℕ) (value : Option Data) → number_at place most value ≡ Ok n → n ≤ most
unfolding number_at
number_most place most n value e = within_most place most n _ e

cell_most : (form : Form) (r : ℕ) (row : Option Data) (c n : ℕ) → cell_at form r row c ≡ Ok n → n ≤ form.most
unfolding cell_at
cell_most form r row c n e = number_most _ _ n _ e

before_end : {X : Type 0} (place : Place) (more : Option Data) (r : Result X DelayFault) (x : X) → ended place more r ≡ Ok x → r ≡ Ok x
before_end place more (Err fault) x e = absurd (cc)
before_end place None (Ok y) x e = e
before_end place (Some d) (Ok y) x e = absurd (cc)

row_is : (form : Form) (matrix : Option Data) (r : ℕ) (xs : List ℕ) → row_at form matrix r ≡ Ok xs → IsGathered (cell_at form r (item_at r matrix)) form.columns xs
unfolding row_at row_of
row_is form matrix r xs e = is_gathered _ _ xs (before_end _ _ _ xs e)

row_most : (form : Form) (matrix : Option Data) (r c : ℕ) (xs : List ℕ) → row_at form matrix r ≡ Ok xs → get_or xs c 0 ≤ form.most
row_most form matrix r c xs e = go (row_is form matrix r xs e)
  where
    go : IsGathered (cell_at form r (item_at r matrix)) form.columns xs → get_or xs c 0 ≤ form.most
    go row = elim (cases_lt c form.columns) [
      | inl inside ↦ cell_most form r _ c _ (row.parts c 0 inside)
      | inr past ↦ let whole = row.whole in let beyond : length xs ≤ c = omega arith in rw (get_or_past xs c 0 beyond) (omega arith)
    ]

pub matrix_is : (form : Form) (matrix : Option Data) (rows : List (List ℕ)) → matrix_of form matrix ≡ Ok rows → IsMatrix rows form.rows form.columns form.most
unfolding matrix_of
matrix_is form matrix rows e = go (is_gathered _ _ rows (before_end _ _ _ rows e))
  where
    go : IsGathered (row_at form matrix) form.rows rows → IsMatrix rows form.rows form.columns form.most
    go found = record {
      tall = found.whole;
      wide = λ r inside. (row_is form matrix r _ (found.parts r [] inside)).whole;
      bounded = λ r c. elim (cases_lt r form.rows) [
        | inl inside ↦ row_most form matrix r c _ (found.parts r [] inside)
        | inr past ↦ let whole = found.whole in let beyond : length rows ≤ r = omega arith in rw (get_or_past rows r [] beyond) (omega arith)
      ];
    }
