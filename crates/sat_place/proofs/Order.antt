-- A tree has one least placement.
use Rattle.std.proofs.Common.{ℕ, ◌≡◌, ◌⊎◌, inl, inr, List, [], ◌∷◌, length, refl, arith, ap, ◌∙◌, sym}
use Rattle.std.proofs.Math.Nat.{eq-or-lt_of_le}
use Rattle.std.proofs.lemmas.Bool.{cases_lt}
use Rattle.sat_place.specs.Placing.{worth, Before}
use Rattle.sat_place.specs.Laws.{LeastIsOne}

-- of two lists of one length one comes before the other, or they are one
compared : (xs ys : List ℕ) → length xs ≡ length ys → (xs ≡ ys) ⊎ (Before xs ys ⊎ Before ys xs)
compared [] [] same = inl refl
compared [] (y ∷ ys) same = absurd (omega arith)
compared (x ∷ xs) [] same = absurd (omega arith)
compared (x ∷ xs) (y ∷ ys) same = elim (cases_lt x y) [
  | inl under ↦ inr (inl (inl under))
  | inr most ↦ elim (eq-or-lt_of_le most) [
    | inr over ↦ inr (inr (inl over))
    | inl equal ↦ elim (compared xs ys (omega arith)) [
      | inl one ↦ inl (ap (λ z. z ∷ xs) (sym equal) ∙ ap (λ zs. y ∷ zs) one)
      | inr other ↦ elim other [ inl before ↦ inr (inl (inr (sym equal, before))) | inr after ↦ inr (inr (inr (equal, after))) ]
    ]
  ]
]

pub least_is_one : LeastIsOne
least_is_one d t a b m n one other = (same, own)
  where
    same : a ≡ b
    same = elim (compared a b (one.placing.one_each ∙ sym other.placing.one_each)) [
      | inl equal ↦ equal
      | inr apart ↦ elim apart [
        | inl before ↦ absurd (let x = other.first a one.placing before in let y = one.best b other.placing in let z = one.own in let w = other.own in omega arith)
        | inr after ↦ absurd (let x = one.first b other.placing after in let y = other.best a one.placing in let z = one.own in let w = other.own in omega arith)
      ]
    ]

    own : m ≡ n
    own = one.own ∙ ap (worth d t) same ∙ sym other.own
