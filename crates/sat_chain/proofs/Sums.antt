-- Sums over how a list begins.
use Rattle.std.proofs.Common.{◌≡◌, ◌<◌, ◌≤◌, ℕ, ◌+◌, ◌-◌, List, ◌∷◌, ◌++◌, length, take, sum_by, Some, slice_get, slice_index_or, ap, ◌∙◌, inl, inr, arith}
use Rattle.std.proofs.lemmas.List.Sums.{sum_by-append, sum_by-cons, sum_by_more}
use Rattle.std.proofs.lemmas.Option.{get_or_from_slice_get}
use Rattle.sat_label.specs.Members.{In}
use Rattle.sat_label.proofs.Members.{In-get}
use Rattle.sat_chain_laws.proofs.Lists.{between}
use Rattle.sat_chain_laws.proofs.Rows.{either}

module _ {X : Type 0} (f : X → ℕ) (xs : List X) (each : (x : X) → In xs x → 0 < f x) where
  -- the sum up to a later place is greater by at least what the first place counts
  up-to-later : (a b : ℕ) → a < b → b ≤ length xs → (x : X) × (slice_get xs a ≡ Some x) × (sum_by f (take a xs) + f x ≤ sum_by f (take b xs))
  up-to-later a b lt le =
      let w : (x : X) × (more : List X) × (slice_get xs a ≡ Some x) × (take b xs ≡ take a xs ++ x ∷ more) = between xs a b lt le in
      let all : sum_by f (take b xs) ≡ sum_by f (take a xs) + sum_by f (w.0 ∷ w.1) = ap (sum_by f) w.3 ∙ sum_by-append f (take a xs) (w.0 ∷ w.1) in
      let one : sum_by f (w.0 ∷ w.1) ≡ f w.0 + sum_by f w.1 = sum_by-cons f w.0 w.1 in
      (w.0, w.2, omega arith)

  below-later : (a b : ℕ) → a < b → b ≤ length xs → sum_by f (take a xs) < sum_by f (take b xs)
  below-later a b lt le =
      let w : (x : X) × (slice_get xs a ≡ Some x) × (sum_by f (take a xs) + f x ≤ sum_by f (take b xs)) = up-to-later a b lt le in
      let k : 0 < f w.0 = each w.0 (In-get xs a w.0 w.1) in
      let m : sum_by f (take a xs) + f w.0 ≤ sum_by f (take b xs) = w.2 in
      omega arith

  -- one place alone has a sum before it
  pub one-place : (a b : ℕ) → a ≤ length xs → b ≤ length xs → sum_by f (take a xs) ≡ sum_by f (take b xs) → a ≡ b
  one-place a b la lb e = elim (either a b) [
    | inl up ↦ elim (either b a) [
      | inl down ↦ omega arith
      | inr more ↦ absurd (let k : sum_by f (take a xs) < sum_by f (take b xs) = below-later a b (omega arith) lb in omega arith)
    ]
    | inr more ↦ absurd (let k : sum_by f (take b xs) < sum_by f (take a xs) = below-later b a (omega arith) la in omega arith)
  ]

  -- where something is left, what this place counts is no more than that
  pub leaves : (left put i n count : ℕ) (d : X) → count ≡ f (slice_index_or xs i d) → left + sum_by f (take i xs) ≡ put → (left ≡ 0 → ⊥) → i < length xs → n ≤ length xs → sum_by f (take n xs) ≡ put → count ≤ left
  leaves left put i n count d at inv some lt le e = elim (either n i) [
    | inl up ↦ absurd (some (low up))
    | inr more ↦
        let w : (y : X) × (slice_get xs i ≡ Some y) × (sum_by f (take i xs) + f y ≤ sum_by f (take n xs)) = up-to-later i n (omega arith) le in
        let same : count ≡ f w.0 = at ∙ ap f (get_or_from_slice_get xs i w.0 d w.1) in
        let m : sum_by f (take i xs) + f w.0 ≤ sum_by f (take n xs) = w.2 in
        omega arith
  ]
    where
      low : n ≤ i → left ≡ 0
      low up = elim (either i n) [
        | inl down ↦ let same : i ≡ n = omega arith in let s : sum_by f (take i xs) ≡ sum_by f (take n xs) = ap (λ (j : ℕ). sum_by f (take j xs)) same in omega arith
        | inr more ↦ let k : sum_by f (take n xs) < sum_by f (take i xs) = below-later n i (omega arith) (omega arith) in absurd (omega arith)
      ]

  -- where nothing is left, this is the place
  pub at-place : (left put i n : ℕ) → left + sum_by f (take i xs) ≡ put → left ≡ 0 → i ≤ length xs → n ≤ length xs → sum_by f (take n xs) ≡ put → i ≡ n
  at-place left put i n inv none lt le e = one-place i n lt le (omega arith)

  -- at the end of the list nothing is left
  pub at-end : (left put i n : ℕ) → left + sum_by f (take i xs) ≡ put → i ≡ length xs → n ≤ length xs → sum_by f (take n xs) ≡ put → i ≡ n
  at-end left put i n inv end le e = elim (either i n) [
    | inl up ↦ omega arith
    | inr more ↦ at-place left put i n inv (zero-left more) (omega arith) le e
  ]
    where
      zero-left : n + 1 ≤ i → left ≡ 0
      zero-left more = let k : sum_by f (take n xs) < sum_by f (take i xs) = below-later n i (omega arith) (omega arith) in absurd (omega arith)

  pub one-more : (left put i count : ℕ) (d : X) → count ≡ f (slice_index_or xs i d) → left + sum_by f (take i xs) ≡ put → i < length xs → count ≤ left → (left - count) + sum_by f (take (i + 1) xs) ≡ put
  one-more left put i count d same inv lt le =
      let m : sum_by f (take (i + 1) xs) ≡ sum_by f (take i xs) + f (slice_index_or xs i d) = sum_by_more f xs i d lt in
      omega arith
