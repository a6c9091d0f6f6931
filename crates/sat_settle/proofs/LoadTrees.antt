-- The trees of a large script.
use Rattle.std.proofs.Common.{ℕ, zero, suc, ◌≡◌, ◌<◌, ◌==◌, ◌^◌, if◌then◌else◌, Bool, true, false, length, None, refl, arith, lit<, lit≤}
use Rattle.sat_label.specs.Words.{first_failing}
use Rattle.sat_tree.specs.Shape.{TreeShape}
use Rattle.sat_tree.specs.Cut.{neighbours}
use Rattle.sat_tree.specs.Flaw.{tree_flaw, IsSmallTree}
use Rattle.sat_tree.proofs.Small.{small_tree}
use Rattle.sat_settle.specs.LoadHeader.{first_tree, second_tree, load_tree}

pub first_flawless : tree_flaw first_tree ≡ None
unfolding tree_flaw first_failing
first_flawless = refl

pub second_flawless : tree_flaw second_tree ≡ None
unfolding tree_flaw first_failing
second_flawless = refl

pub first_small : IsSmallTree first_tree
first_small = small_tree first_tree first_flawless (lit≤ tt)

pub second_small : IsSmallTree second_tree
second_small = small_tree second_tree second_flawless (lit≤ tt)

-- each serializer has neighbours, and few
record HasFew (t : TreeShape) (z : ℕ) : Type 0 where
  some : 0 < length (neighbours t z)
  few : length (neighbours t z) < 2 ^ 16

first_few : (z : ℕ) → z < 3 → HasFew first_tree z
unfolding neighbours
first_few zero less = record { some = lit< tt; few = lit< tt }
first_few (suc zero) less = record { some = lit< tt; few = lit< tt }
first_few (suc (suc zero)) less = record { some = lit< tt; few = lit< tt }
first_few (suc (suc (suc z))) less = absurd (omega arith)

second_few : (z : ℕ) → z < 2 → HasFew second_tree z
unfolding neighbours
second_few zero less = record { some = lit< tt; few = lit< tt }
second_few (suc zero) less = record { some = lit< tt; few = lit< tt }
second_few (suc (suc z)) less = absurd (omega arith)

-- what holds of the two trees holds of the tree of each epoch
pub each-tree : (P : TreeShape → Type 0) (epoch : ℕ) → P first_tree → P second_tree → P (load_tree epoch)
unfolding load_tree
each-tree P epoch one two = go (epoch == 1) refl
  where
    go : (b : Bool) → (epoch == 1) ≡ b → P (if epoch == 1 then first_tree else second_tree)
    go true is = rw is one
    go false is = rw is two

few : (epoch z : ℕ) → z < length (load_tree epoch).parents → HasFew (load_tree epoch) z
few epoch z = each-tree (λ t. z < length t.parents → HasFew t z) epoch (first_few z) (second_few z)

pub some_neighbour : (epoch z : ℕ) → z < length (load_tree epoch).parents → 0 < length (neighbours (load_tree epoch) z)
some_neighbour epoch z within = (few epoch z within).some

pub few_neighbours : (epoch z : ℕ) → z < length (load_tree epoch).parents → length (neighbours (load_tree epoch) z) < 2 ^ 16
few_neighbours epoch z within = (few epoch z within).few

pub some_serializer : (epoch : ℕ) → 0 < length (load_tree epoch).parents
some_serializer epoch = each-tree (λ t. 0 < length t.parents) epoch (lit< tt) (lit< tt)
