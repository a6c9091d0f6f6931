-- The items of one update.
use Rattle.std.specs.Prelude.{ℕ, Bool, true, false, ◌&&◌, nat_le, nat_lt, List, [], ◌∷◌, length, Option, Some, None}
use Rattle.sat_label.specs.declared.items.Items.{Items}
use Rattle.sat_label.specs.declared.items.Items.TheVariants.{One, Two, Three, Four}
use Rattle.sat_label.specs.declared.limits.TheConstants.{MOST_WRITTEN}

-- the numbers of the items
abbrev pub list_of : Items → List ℕ
list_of (One a) = a ∷ []
list_of (Two a b) = a ∷ b ∷ []
list_of (Three a b c) = a ∷ b ∷ c ∷ []
list_of (Four a b c d) = a ∷ b ∷ c ∷ d ∷ []

-- the numbers of the items, none where there are none
abbrev pub list_of_some : Option Items → List ℕ
list_of_some items = elim items [ None ↦ [] | Some some ↦ list_of some ]

-- each number is above the one before it, the first above this one
abbrev pub ascends_from : ℕ → List ℕ → Bool
ascends_from x [] = true
ascends_from x (y ∷ ys) = nat_lt x y && ascends_from y ys

-- 1 to 4 strictly ascending numbers
abbrev pub are_items : List ℕ → Bool
are_items [] = false
are_items (x ∷ xs) = nat_le (length (x ∷ xs)) MOST_WRITTEN && ascends_from x xs

-- the least of some items
abbrev pub least_item : List ℕ → ℕ
least_item [] = 0
least_item (x ∷ xs) = x
