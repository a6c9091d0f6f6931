-- What two lists of numbered members have under each number.
use Rattle.std.specs.Prelude.{◌≡◌, ◌≢◌, ◌<◌, ℕ, zero, suc, nat_lt, ◌==◌, List, [], ◌∷◌, Option, Some, None, slice_get}
use Rattle.std.specs.Prelude.{if◌then◌else◌}
use Rattle.sat_apart.specs.declared.walk.Apart.{Apart}

-- what a list has under a number
abbrev pub under : {X : Type 0} → (X → ℕ) → ℕ → List X → Option X
under number n [] = None
under number n (x ∷ xs) = if number x == n then Some x else under number n xs

-- each number is above those before it
abbrev pub Rising : {X : Type 0} → (X → ℕ) → List X → Type 0
Rising number [] = Unit {0}
Rising number (x ∷ []) = Unit {0}
Rising number (x ∷ y ∷ ys) = (number x < number y) × Rising number (y ∷ ys)

-- the member at a place, if one is named
abbrev pub member_at : {X : Type 0} → List X → Option ℕ → Option X
member_at xs None = None
member_at xs (Some k) = slice_get xs k

-- the least number under which two lists don't have the same, and what each has under it
pub record IsApart {X : Type 0} (place : X → ℕ) (xs ys : List X) (a : Apart) : Type 0 where
  pub first : under place a.number xs ≡ member_at xs a.left
  pub second : under place a.number ys ≡ member_at ys a.right
  pub differ : member_at xs a.left ≢ member_at ys a.right
  pub least : (n : ℕ) → n < a.number → under place n xs ≡ under place n ys

-- ---- the walk

-- the first so many members of both are the same
abbrev pub SameUpTo : {X : Type 0} → ℕ → List X → List X → Type 0
SameUpTo zero xs ys = Unit {0}
SameUpTo (suc k) (x ∷ xs) (y ∷ ys) = (x ≡ y) × SameUpTo k xs ys
SameUpTo (suc k) _ _ = ⊥

-- of two members at a place, the one of the lesser number, or both
abbrev pub members_apart : ℕ → ℕ → ℕ → Apart
members_apart n m k =
    if nat_lt n m then record { number = n; left = Some k; right = None }
    else (if nat_lt m n then record { number = m; left = None; right = Some k }
    else record { number = n; left = Some k; right = Some k })

abbrev pub right_apart : {X : Type 0} → (X → ℕ) → Option X → ℕ → Option Apart
right_apart number None k = None
right_apart number (Some y) k = Some (record { number = number y; left = None; right = Some k })

abbrev pub left_apart : {X : Type 0} → (X → ℕ) → Option X → Option X → ℕ → Option Apart
left_apart number None o k = right_apart number o k
left_apart number (Some x) o k = Some (record { number = number x; left = Some k; right = None })

-- what stands at a place, at which at most one of two lists has a member
abbrev pub ends_apart : {X : Type 0} → (X → ℕ) → List X → List X → ℕ → Option Apart
ends_apart number xs ys k = left_apart number (slice_get xs k) (slice_get ys k) k
