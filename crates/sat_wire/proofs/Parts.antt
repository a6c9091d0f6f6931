-- The parts of a payload, one after the other.
use Rattle.std.proofs.Common.{◌≡◌, ℕ, ◌+◌, ◌<◌, ◌≤◌, true, List, [], ◌++◌, length, drop, get_or, Option, None, sym, ◌∙◌, ap, arith, append_assoc, length-append}
use Rattle.std.proofs.lemmas.List.{append-nil, drop_more, drop_all}
use Rattle.std.specs.List.{flat_map}
use Rattle.sat_wire.specs.Code.{all_fit, both_fit}
use Rattle.sat_wire.specs.Exact.{and_both, and_is}
use Rattle.sat_wire.specs.Payloads.{part}

module _ (xs : List (Option (List ℕ))) (place : ℕ) (below : place < length xs) where
  parts_from : flat_map part.spell (drop place xs) ≡ part.spell (get_or xs place None) ++ flat_map part.spell (drop (place + 1) xs)
  parts_from = ap (flat_map part.spell) (drop_more xs place None below)

  fits_from : all_fit part (drop place xs) ≡ both_fit (part.fits (get_or xs place None)) (all_fit part (drop (place + 1) xs))
  fits_from = ap (all_fit part) (drop_more xs place None below)

  pub size_more : (size n total : ℕ) → n ≡ length (part.spell (get_or xs place None)) → size + length (flat_map part.spell (drop place xs)) ≡ total → (size + n) + length (flat_map part.spell (drop (place + 1) xs)) ≡ total
  size_more size n total is sum = let whole = ap length parts_from in omega (arith, whole, length-append (part.spell (get_or xs place None)) (flat_map part.spell (drop (place + 1) xs)), is, sum)

  pub fit_more : part.fits (get_or xs place None) ≡ true → (all_fit part (drop place xs) ≡ true → all_fit part xs ≡ true) → all_fit part (drop (place + 1) xs) ≡ true → all_fit part xs ≡ true
  fit_more fit before after = before (fits_from ∙ and_is (part.fits (get_or xs place None)) (all_fit part (drop (place + 1) xs)) fit after)

  pub part_fits : all_fit part (drop place xs) ≡ true → part.fits (get_or xs place None) ≡ true
  part_fits fit = (and_both (part.fits (get_or xs place None)) (all_fit part (drop (place + 1) xs)) (sym fits_from ∙ fit)).0

  pub rest_fits : all_fit part (drop place xs) ≡ true → all_fit part (drop (place + 1) xs) ≡ true
  rest_fits fit = (and_both (part.fits (get_or xs place None)) (all_fit part (drop (place + 1) xs)) (sym fits_from ∙ fit)).1

  pub part_room : (n room : ℕ) → n + length (flat_map part.spell (drop place xs)) ≤ room → n + length (part.spell (get_or xs place None)) ≤ room
  part_room n room enough = let whole = ap length parts_from in omega (arith, whole, length-append (part.spell (get_or xs place None)) (flat_map part.spell (drop (place + 1) xs)), enough)

  pub room_more : (old new : List ℕ) (room now : ℕ) → new ≡ old ++ part.spell (get_or xs place None) → room ≤ now → length old + length (flat_map part.spell (drop place xs)) ≤ room
      → length new + length (flat_map part.spell (drop (place + 1) xs)) ≤ now
  room_more old new room now is more enough =
      let whole = ap length parts_from in
      let longer : length new ≡ length (old ++ part.spell (get_or xs place None)) = ap length is in
      omega (arith, whole, longer, length-append old (part.spell (get_or xs place None)), length-append (part.spell (get_or xs place None)) (flat_map part.spell (drop (place + 1) xs)), more, enough)

  pub written_more : (old new all : List ℕ) → new ≡ old ++ part.spell (get_or xs place None) → old ++ flat_map part.spell (drop place xs) ≡ all → new ++ flat_map part.spell (drop (place + 1) xs) ≡ all
  written_more old new all is was =
      ap (λ (l : List ℕ). l ++ flat_map part.spell (drop (place + 1) xs)) is
      ∙ append_assoc old (part.spell (get_or xs place None)) (flat_map part.spell (drop (place + 1) xs))
      ∙ ap (λ (l : List ℕ). old ++ l) (sym parts_from) ∙ was

none_from : (xs : List (Option (List ℕ))) (place : ℕ) → length xs ≤ place → drop place xs ≡ []
none_from xs place past = drop_all place xs past

pub size_all : (xs : List (Option (List ℕ))) (place size total : ℕ) → length xs ≤ place → size + length (flat_map part.spell (drop place xs)) ≡ total → size ≡ total
size_all xs place size total past sum = let none = ap (λ (l : List (Option (List ℕ))). length (flat_map part.spell l)) (none_from xs place past) in omega (arith, none, sum)

pub fit_all : (xs : List (Option (List ℕ))) (place : ℕ) → length xs ≤ place → (all_fit part (drop place xs) ≡ true → all_fit part xs ≡ true) → all_fit part xs ≡ true
fit_all xs place past fit = fit (ap (all_fit part) (none_from xs place past))

pub written_all : (xs : List (Option (List ℕ))) (place : ℕ) (new all : List ℕ) → length xs ≤ place → new ++ flat_map part.spell (drop place xs) ≡ all → new ≡ all
written_all xs place new all past was = sym (append-nil new) ∙ ap (λ (l : List (Option (List ℕ))). new ++ flat_map part.spell l) (sym (none_from xs place past)) ∙ was
