-- What holds of each history with chains.
use Rattle.std.specs.Prelude.{◌≡◌, ◌<◌, ◌≤◌, ℕ, true, false, List, length, filter, take, sum_by, Some}
use Rattle.sat_label.specs.declared.node.NodeId.{NodeId}
use Rattle.sat_label.specs.declared.node.NodeId.TheVariants.{Serializer}
use Rattle.sat_label.specs.Members.{In}
use Rattle.sat_tree.specs.Shape.{TreeShape}
use Rattle.sat_tree.specs.Cut.{is_edge, neighbours}
use Rattle.sat_act.specs.declared.entry.Entry.{Entry}
use Rattle.sat_act.specs.Deployed.{Deployed}
use Rattle.sat_act.specs.Parts.{tree_of, entered, killed}
use Rattle.sat_act.specs.Runs.{IsRun}
use Rattle.sat_act.specs.Goals.{IsValid}
use Rattle.sat_act.specs.Headline.{HasTrees, IsGood}
use Rattle.sat_chain_laws.specs.Rows.{Pair, IsPrefix}
use Rattle.sat_chain_laws.specs.Chains.{ChainEntry, seq, applied, plain, hops}
use Rattle.sat_chain_laws.specs.ChainAnswers.{goes_on, goes_to}
use Rattle.sat_chain_laws.specs.ChainRuns.{IsChainRun}

-- the list of each living replica begins with that of each later living one
abbrev pub BeginsWithLater : ℕ → List ChainEntry → Type 0
BeginsWithLater r c =
    (epoch z j k : ℕ) (xs ys : List Pair) → j < k → seq r c epoch z j ≡ Some xs → seq r c epoch z k ≡ Some ys
    → IsPrefix ys xs

-- how many pairs of a list go on to neighbour v
abbrev pub going : Deployed → TreeShape → ℕ → NodeId → List Pair → ℕ
going d tree z v xs = length (filter (λ p. goes_on d tree z v p) xs)

-- after n pairs of the list, each outgoing link has had just the labels that were put on it
abbrev pub AccountsFor : Deployed → List Entry → ℕ → TreeShape → ℕ → List Pair → ℕ → Type 0
AccountsFor d h epoch tree z xs n =
    (v : NodeId) → is_edge tree (Serializer z) v ≡ true → going d tree z v (take n xs)
    ≡ length (entered d h epoch tree (Serializer z) v)

-- whatever living replica becomes the tail: how many of its pairs took effect is that number, and that number alone,
-- for which each outgoing link has had just the labels that were put on it
abbrev pub LinksTellApplied : Deployed → ℕ → List ChainEntry → Type 0
LinksTellApplied d r c =
    (epoch z k : ℕ) (tree : TreeShape) (xs : List Pair) → tree_of d epoch ≡ Some tree → seq r c epoch z k ≡ Some xs →
    (applied c epoch z ≤ length xs) ×
    AccountsFor d (plain r c) epoch tree z xs (applied c epoch z) ×
    ((n : ℕ) → n ≤ length xs → AccountsFor d (plain r c) epoch tree z xs n → n ≡ applied c epoch z)

-- to how many neighbours a pair goes on
abbrev pub ways : Deployed → TreeShape → ℕ → Pair → ℕ
ways d tree z p = length (goes_to d tree z p)

-- how many labels serializer z put on all its outgoing links
abbrev pub put_in_all : Deployed → List Entry → ℕ → TreeShape → ℕ → ℕ
put_in_all d h epoch tree z = sum_by (λ v. length (entered d h epoch tree (Serializer z) v)) (neighbours tree z)

-- each tree seats all sites
abbrev pub SeatsAll : Deployed → Type 0
SeatsAll d = (epoch : ℕ) (tree : TreeShape) → tree_of d epoch ≡ Some tree → length tree.seats ≡ d.sites

-- the sum of what was put on all links tells it too: each pair goes on to some neighbour, and the pairs that took
-- effect went on to as many neighbours as labels were put
abbrev pub TotalsTellApplied : Deployed → ℕ → List ChainEntry → Type 0
TotalsTellApplied d r c =
    (epoch z k : ℕ) (tree : TreeShape) (xs : List Pair) → tree_of d epoch ≡ Some tree → seq r c epoch z k ≡ Some xs →
    ((p : Pair) → In xs p → 0 < ways d tree z p) ×
    (sum_by (ways d tree z) (take (applied c epoch z) xs) ≡ put_in_all d (plain r c) epoch tree z)

-- what took effect at a serializer is how the list of each of its living replicas begins, and is as much as there were
-- done applies
abbrev pub BeginsWithApplied : ℕ → List ChainEntry → Type 0
BeginsWithApplied r c =
    (epoch z : ℕ) → (length (hops (plain r c) epoch z) ≡ applied c epoch z) ×
    ((k : ℕ) (xs : List Pair) → seq r c epoch z k ≡ Some xs → IsPrefix (hops (plain r c) epoch z) xs)

-- a serializer with a living replica was not killed
abbrev pub LivesWithReplica : ℕ → List ChainEntry → Type 0
LivesWithReplica r c =
    (epoch z k : ℕ) (xs : List Pair) → seq r c epoch z k ≡ Some xs → killed (plain r c) epoch z ≡ false

-- what a history with chains promises: its plain history is a run, with the answers that its plain acts and done
-- applies have, and so is good
pub record IsChainGood (d : Deployed) (r : ℕ) (c : List ChainEntry) : Type 0 where
  pub begins : BeginsWithLater r c
  pub effect : BeginsWithApplied r c
  pub lives : LivesWithReplica r c
  pub tells : LinksTellApplied d r c
  pub totals : TotalsTellApplied d r c
  pub run : IsRun d (plain r c)
  pub good : IsGood d (plain r c)

abbrev pub EveryChainIsGood : Type 0
EveryChainIsGood = (d : Deployed) (r : ℕ) (c : List ChainEntry) → IsValid d → HasTrees d → SeatsAll d → IsChainRun d r c
    → IsChainGood d r c
