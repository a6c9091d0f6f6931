-- Members of lists.
use Rattle.std.proofs.Common.{◌≡◌, ◌<◌, ◌≤◌, ℕ, ◌+◌, List, [], ◌∷◌, ◌++◌, length, get_or, take, Some, ap, ◌∙◌, sym, subst}
use Rattle.std.specs.List.{AllByRecursion}
use Rattle.std.proofs.lemmas.List.{take_all, take_more}
use Rattle.std.proofs.lemmas.Option.{slice_get-get_or}
use Rattle.sat_label.specs.Members.{In}
use Rattle.sat_label.proofs.Members.{In-get}

-- a member by its place
pub member_at : {X : Type 0} (xs : List X) (n : ℕ) (x : X) → n < length xs → get_or xs n x ≡ x → In xs x
member_at {X = X} xs n x inside here = In-get xs n x (slice_get-get_or xs n x inside ∙ ap (λ (y : X). Some y) here)

all-more : {X : Type 0} (P : X → Type 0) (xs : List X) (x : X) → AllByRecursion P xs → P x → AllByRecursion P (xs ++ x ∷ [])
all-more P [] x all is = (is, tt)
all-more P (y ∷ xs) x all is = (all.0, all-more P xs x all.1 is)

-- one more of the first members
pub all_next : {X : Type 0} (P : X → Type 0) (xs : List X) (n : ℕ) (x : X) → n < length xs → get_or xs n x ≡ x → AllByRecursion P (take n xs) → P x → AllByRecursion P (take (n + 1) xs)
all_next {X = X} P xs n x inside here all is =
    subst (AllByRecursion P) (sym (take_more xs n x inside ∙ ap (λ (y : X). take n xs ++ y ∷ []) here)) (all-more P (take n xs) x all is)

-- all of them
pub all_whole : {X : Type 0} (P : X → Type 0) (xs : List X) (n : ℕ) → length xs ≤ n → AllByRecursion P (take n xs) → AllByRecursion P xs
all_whole P xs n past all = subst (AllByRecursion P) (take_all n xs past) all
