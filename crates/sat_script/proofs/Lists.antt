-- Lists that grow by one, and tests of all their members.
use Rattle.std.proofs.Common.{◌≡◌, ℕ, zero, suc, Bool, true, ◌||◌, eqb, List, [], ◌∷◌, ◌++◌, length, Some, sym, ap, ◌∙◌, refl, subst}
use Rattle.std.specs.List.{slice_get, list_all, AllByRecursion}
use Rattle.std.proofs.lemmas.List.Folds.{list_all-append}
use Rattle.std.proofs.lemmas.List.Sums.{AllPass-from_list_all, list_all-from_AllPass}
use Rattle.sat_label.specs.Words.{bit}
use Rattle.sat_script.specs.Words.{set_of}
use Rattle.sat_script.proofs.Sites.{among_push, bit_set_of, same_set}

pub all_append : {X : Type 0} (P : X → Type 0) (xs ys : List X) → AllByRecursion P xs → AllByRecursion P ys → AllByRecursion P (xs ++ ys)
all_append P [] ys h k = k
all_append P (x ∷ xs) ys h k = (h.0, all_append P xs ys h.1 k)

pub all_more : {X : Type 0} (P : X → Type 0) (xs : List X) (x : X) → AllByRecursion P xs → P x → AllByRecursion P (xs ++ x ∷ [])
all_more P xs x h one = all_append P xs (x ∷ []) h (one, tt)

pub all_at : {X : Type 0} (P : X → Type 0) (xs : List X) (k : ℕ) (x : X) → AllByRecursion P xs → slice_get xs k ≡ Some x → P x
all_at P [] k x h here = absurd (cc)
all_at P (y ∷ xs) zero x h here = let same : y ≡ x = cc in subst P same h.0
all_at P (y ∷ xs) (suc k) x h here = all_at P xs k x h.1 here

pub all_weaker : {X : Type 0} (p q : X → Bool) → ((x : X) → p x ≡ true → q x ≡ true) → (xs : List X) → list_all p xs ≡ true → list_all q xs ≡ true
all_weaker p q w xs h = list_all-from_AllPass q xs (λ k d inside. w _ (AllPass-from_list_all p xs h k d inside))

pub all_next : {X : Type 0} (p : X → Bool) (xs : List X) (x : X) → list_all p xs ≡ true → p x ≡ true → list_all p (xs ++ x ∷ []) ≡ true
all_next p xs x h one = list_all-append p xs (x ∷ []) ∙ rw (h, one) refl

-- the member between two parts
pub get_mid : {X : Type 0} (front back : List X) (x : X) → slice_get (front ++ x ∷ back) (length front) ≡ Some x
get_mid [] back x = refl
get_mid (y ∷ front) back x = get_mid front back x

-- a set with one site more
pub set_next : (xs : List ℕ) (x r : ℕ) → ((k : ℕ) → bit r k ≡ (bit (set_of xs) k || eqb k x)) → r ≡ set_of (xs ++ x ∷ [])
set_next xs x r h = same_set r (set_of (xs ++ x ∷ [])) (λ k. h k ∙ ap (λ b. b || eqb k x) (bit_set_of xs k) ∙ sym (among_push xs x k) ∙ sym (bit_set_of (xs ++ x ∷ []) k))
