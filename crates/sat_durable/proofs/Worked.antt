-- What a crash may leave of a record that is written at once, with its open byte: neither no record nor this one.
use Rattle.std.proofs.Common.{◌≡◌, ◌≢◌, ℕ, true, List, [], ◌∷◌, refl, ap, sym, ◌∙◌, arith}
use Rattle.sat_durable.specs.Disk.{Torn}
use Rattle.sat_durable.specs.Journal.{Reading, ends, with_last, reading, reading_behind, announced}

-- the record of the body 7 7 was being written over an empty journal, and this was left
abbrev left : List ℕ
left = 1 ∷ 0 ∷ 0 ∷ 0 ∷ 1 ∷ 9 ∷ 0 ∷ []

it_may_be_left : Torn 0 8 (0 ∷ []) left
it_may_be_left = record { before = refl; after = refl }

it_says_another_body : reading left ≡ record { bodies = (9 ∷ []) ∷ []; size = 6; closed = true }
unfolding reading reading_behind announced
it_says_another_body = refl

nothing_was_there : reading (0 ∷ []) ≡ ends true
unfolding reading reading_behind announced
nothing_was_there = refl

it_is_not_as_before : reading left ≢ reading (0 ∷ [])
it_is_not_as_before same = absurd (omega (arith, ap (λ (r : Reading). r.size) (sym it_says_another_body ∙ same ∙ nothing_was_there)))

nor_with_that_body : reading left ≢ with_last (reading (0 ∷ [])) (7 ∷ 7 ∷ [])
nor_with_that_body same =
    absurd (omega (arith, ap (λ (r : Reading). r.size) (sym it_says_another_body ∙ same ∙ ap (λ (r : Reading). with_last r (7 ∷ 7 ∷ [])) nothing_was_there)))
