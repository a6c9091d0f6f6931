-- Items and the lists of their numbers.
use Rattle.std.specs.Prelude.{ℕ, zero, suc, ◌≡◌, List, [], ◌∷◌}
use Rattle.std.proofs.Common.{ap}
use Rattle.sat_label.specs.declared.items.Items.{Items}
use Rattle.sat_label.specs.declared.items.Items.TheVariants.{One, Two, Three, Four}
use Rattle.sat_label.specs.Grouped.{list_of}

nth : ℕ → List ℕ → ℕ
nth n [] = 0
nth zero (x ∷ xs) = x
nth (suc n) (x ∷ xs) = nth n xs

-- the same numbers are the same items
pub items-are : (a b : Items) → list_of a ≡ list_of b → a ≡ b
unfolding nth
items-are (One a) (One e) h = ap (λ xs. One (nth 0 xs)) h
items-are (One a) (Two e f) h = absurd (cc)
items-are (One a) (Three e f g) h = absurd (cc)
items-are (One a) (Four e f g i) h = absurd (cc)
items-are (Two a b) (One e) h = absurd (cc)
items-are (Two a b) (Two e f) h = ap (λ xs. Two (nth 0 xs) (nth 1 xs)) h
items-are (Two a b) (Three e f g) h = absurd (cc)
items-are (Two a b) (Four e f g i) h = absurd (cc)
items-are (Three a b c) (One e) h = absurd (cc)
items-are (Three a b c) (Two e f) h = absurd (cc)
items-are (Three a b c) (Three e f g) h = ap (λ xs. Three (nth 0 xs) (nth 1 xs) (nth 2 xs)) h
items-are (Three a b c) (Four e f g i) h = absurd (cc)
items-are (Four a b c d) (One e) h = absurd (cc)
items-are (Four a b c d) (Two e f) h = absurd (cc)
items-are (Four a b c d) (Three e f g) h = absurd (cc)
items-are (Four a b c d) (Four e f g i) h = ap (λ xs. Four (nth 0 xs) (nth 1 xs) (nth 2 xs) (nth 3 xs)) h
