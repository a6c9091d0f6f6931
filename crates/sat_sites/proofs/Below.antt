-- The test of whether numbers are below another one.
use Rattle.std.specs.Prelude.{ℕ, ◌≡◌, true, nat_lt, List, [], ◌∷◌}
use Rattle.std.proofs.lemmas.Bool.{and_parts, ltb-true}
use Rattle.sat_sites.specs.Interested.{AreBelow, are_below}

pub below_is : (n : ℕ) (xs : List ℕ) → are_below n xs ≡ true → AreBelow n xs
below_is n [] e = tt
below_is n (x ∷ xs) e =
    let w : (nat_lt x n ≡ true) × (are_below n xs ≡ true) = and_parts (nat_lt x n) (are_below n xs) e in
    (ltb-true x n w.0, below_is n xs w.1)
