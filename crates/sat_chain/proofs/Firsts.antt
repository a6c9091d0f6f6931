-- The first and the last replica that lives, of a list of what each has.
use Rattle.std.proofs.Common.{◌≡◌, ◌<◌, ◌≤◌, ℕ, zero, suc, ◌+◌, ◌-◌, true, false, List, length, Option, Some, None, is_some, slice_index_or, refl, sym, ap, subst, ◌∙◌, inl, inr, arith}
use Rattle.std.proofs.lemmas.Option.{slice_get-get_or}
use Rattle.sat_chain_laws.specs.declared.pair.Pair.{Pair}
use Rattle.sat_chain_laws.specs.Rows.{Row, here_or, first_from, tail}
use Rattle.sat_chain_laws.proofs.Rows.{le-cases}
use Rattle.sat_chain.specs.Chained.{row_of, number_of}

-- none of those from number a up to k lives
abbrev pub NoneLives : List (Option (List Pair)) → ℕ → ℕ → Type 0
NoneLives rows a k = (j : ℕ) → a ≤ j → j < k → row_of rows j ≡ None

first-at : (row : Row) (a n k : ℕ) (xs : List Pair) → ((j : ℕ) → a ≤ j → j < k → row j ≡ None) → row k ≡ Some xs → a ≤ k → k < a + n → number_of (first_from row a n) ≡ Some k
unfolding first_from
first-at row a zero k xs none has low high = absurd (omega arith)
first-at row a (suc n) k xs none has low high = elim (le-cases a k low) [
  | inl same ↦
      let here : row a ≡ Some xs = subst (λ (i : ℕ). row i ≡ Some xs) (sym same) has in
      ap (λ (o : Option (List Pair)). number_of (here_or a o (first_from row (a + 1) n))) here ∙ ap (λ (i : ℕ). Some i) same
  | inr more ↦
      ap (λ (o : Option (List Pair)). number_of (here_or a o (first_from row (a + 1) n))) (none a (omega arith) (omega arith))
      ∙ first-at row (a + 1) n k xs (λ j lo hi. none j (omega arith) hi) has more (omega arith)
]

first-none-at : (row : Row) (a n : ℕ) → ((j : ℕ) → a ≤ j → j < a + n → row j ≡ None) → number_of (first_from row a n) ≡ None
unfolding first_from
first-none-at row a zero none = refl
first-none-at row a (suc n) none =
    ap (λ (o : Option (List Pair)). number_of (here_or a o (first_from row (a + 1) n))) (none a (omega arith) (omega arith))
    ∙ first-none-at row (a + 1) n (λ j lo hi. none j (omega arith) (omega arith))

pub row-at : (rows : List (Option (List Pair))) (k : ℕ) (x : Option (List Pair)) → k < length rows → x ≡ slice_index_or rows k x → row_of rows k ≡ x
row-at rows k x lt e = ap (λ (o : Option (Option (List Pair))). elim o [ None ↦ None | Some x ↦ x ]) (slice_get-get_or rows k x lt) ∙ sym e

pub some-list : (x : Option (List Pair)) → is_some x ≡ true → (xs : List Pair) × (x ≡ Some xs)
some-list None e = absurd (cc)
some-list (Some xs) e = (xs, refl)

pub none-list : (x : Option (List Pair)) → is_some x ≡ false → x ≡ None
none-list None e = refl
none-list (Some xs) e = absurd (cc)

pub lives-at : (rows : List (Option (List Pair))) (a k : ℕ) (x : Option (List Pair)) → a ≤ k → NoneLives rows a k → k < length rows → x ≡ slice_index_or rows k x → is_some x ≡ true →
    Some k ≡ number_of (first_from (row_of rows) a (length rows - a))
lives-at rows a k x from none lt e some =
    let w : (xs : List Pair) × (x ≡ Some xs) = some-list x some in
    sym (first-at (row_of rows) a (length rows - a) k w.0 none (row-at rows k x lt e ∙ w.1) from (omega arith))

pub none-more : (rows : List (Option (List Pair))) (a k : ℕ) (x : Option (List Pair)) → NoneLives rows a k → k < length rows → x ≡ slice_index_or rows k x → is_some x ≡ false → NoneLives rows a (k + 1)
none-more rows a k x none lt e gone j low less = elim (le-cases j k (omega arith)) [
  | inl same ↦ ap (row_of rows) same ∙ row-at rows k x lt e ∙ none-list x gone
  | inr more ↦ none j low (omega arith)
]

pub none-all : (rows : List (Option (List Pair))) (a k : ℕ) → NoneLives rows a k → length rows ≤ k → None ≡ number_of (first_from (row_of rows) a (length rows - a))
none-all rows a k none le = sym (first-none-at (row_of rows) a (length rows - a) (λ j lo hi. none j lo (omega arith)))

-- ---- the tail

tail-more : (row : Row) (n : ℕ) → tail (n + 1) row ≡ here_or n (row n) (tail n row)
unfolding tail
tail-more row n = let e : n + 1 ≡ suc n = omega arith in ap (λ (m : ℕ). tail m row) e

pub last-lives : (rows : List (Option (List Pair))) (k : ℕ) (x : Option (List Pair)) → k < length rows → x ≡ slice_index_or rows k x → is_some x ≡ true → Some k ≡ number_of (tail (k + 1) (row_of rows))
last-lives rows k x lt e some =
    let w : (xs : List Pair) × (x ≡ Some xs) = some-list x some in
    sym (ap number_of (tail-more (row_of rows) k) ∙ ap (λ (o : Option (List Pair)). number_of (here_or k o (tail k (row_of rows)))) (row-at rows k x lt e ∙ w.1))

pub last-stays : (rows : List (Option (List Pair))) (k : ℕ) (x : Option (List Pair)) (o : Option ℕ) → k < length rows → x ≡ slice_index_or rows k x → is_some x ≡ false → o ≡ number_of (tail k (row_of rows)) →
    o ≡ number_of (tail (k + 1) (row_of rows))
last-stays rows k x o lt e gone had =
    had ∙ sym (ap number_of (tail-more (row_of rows) k) ∙ ap (λ (p : Option (List Pair)). number_of (here_or k p (tail k (row_of rows)))) (row-at rows k x lt e ∙ none-list x gone))

pub last-none : (row : Row) → None ≡ number_of (tail 0 row)
unfolding tail
last-none row = refl
