-- Words with blanks before them, and between them.
use Rattle.std.proofs.Common.{ℕ, zero, suc, ◌+◌, ◌≡◌, List, [], ◌∷◌, ◌++◌, map, take, Some, slice_get, refl, sym, ap, ◌∙◌, add-one}
use Rattle.std.specs.List.{join_with_byte}
use Rattle.std.proofs.lemmas.List.{append_assoc, append-nil}
use Rattle.sat_tree.specs.PlanLine.{spaced}

spaced_suc : {X : Type 0} (f : X → List ℕ) (xs : List X) (n : ℕ) (x : X) → slice_get xs n ≡ Some x →
    spaced (map f (take (suc n) xs)) ≡ spaced (map f (take n xs)) ++ 32 ∷ f x
spaced_suc f [] n x h = absurd (cc)
spaced_suc f (y ∷ xs) zero x h = let same : y ≡ x = cc in ap (λ bs. 32 ∷ bs) (append-nil (f y)) ∙ ap (λ y. 32 ∷ f y) same
spaced_suc f (y ∷ xs) (suc n) x h =
    ap (λ bs. 32 ∷ (f y ++ bs)) (spaced_suc f xs n x h)
    ∙ ap (λ bs. 32 ∷ bs) (sym (append_assoc (f y) (spaced (map f (take n xs))) (32 ∷ f x)))

-- one word more of a list
pub spaced_more : {X : Type 0} (f : X → List ℕ) (xs : List X) (n : ℕ) (x : X) → slice_get xs n ≡ Some x →
    spaced (map f (take (n + 1) xs)) ≡ spaced (map f (take n xs)) ++ 32 ∷ f x
spaced_more f xs n x h = rw add-one (spaced_suc f xs n x h)

-- words with blanks between them are the first one, and the others with a blank before each
pub joined-spaced : (word : List ℕ) (words : List (List ℕ)) → join_with_byte 32 (word ∷ words) ≡ word ++ spaced words
joined-spaced word [] = sym (append-nil word)
joined-spaced word (next ∷ words) = ap (λ bs. word ++ 32 ∷ bs) (joined-spaced next words)

pub spaced-append : (a b : List (List ℕ)) → spaced (a ++ b) ≡ spaced a ++ spaced b
spaced-append [] b = refl
spaced-append (word ∷ a) b =
    ap (λ bs. 32 ∷ (word ++ bs)) (spaced-append a b) ∙ ap (λ bs. 32 ∷ bs) (sym (append_assoc word (spaced a) (spaced b)))
