-- What holds of every run: the headline.
use Rattle.std.specs.Prelude.{◌≡◌, ◌<◌, ℕ, List, [], ◌∷◌, Some, slice_get}
use Rattle.sat_label.specs.declared.label.Label.{Label}
use Rattle.sat_tree.specs.Shape.{TreeShape}
use Rattle.sat_tree.specs.Cut.{IsTree}
use Rattle.sat_act.specs.declared.act.Act.{Act}
use Rattle.sat_act.specs.declared.entry.Entry.{Entry}
use Rattle.sat_act.specs.Deployed.{Deployed}
use Rattle.sat_act.specs.Parts.{tree_of, shown}
use Rattle.sat_act.specs.Answers.{InRange}
use Rattle.sat_act.specs.Causes.{Cause}
use Rattle.sat_act.specs.Goals.{IsKeptAt, Causal, Once, Fresh, Whole, Settled}

-- the tree of each epoch that has one is a tree
abbrev pub HasTrees : Deployed → Type 0
HasTrees d = (epoch : ℕ) (tree : TreeShape) → tree_of d epoch ≡ Some tree → IsTree tree

-- each of these acts has numbers in range
abbrev pub AllInRange : Deployed → List Act → Type 0
AllInRange d [] = Unit {0}
AllInRange d (a ∷ acts) = AllInRange d acts × InRange d a

-- a label stands before this place of a list
abbrev pub StandsBefore : List Label → ℕ → Label → Type 0
StandsBefore ls n a = (m : ℕ) × (m < n) × (slice_get ls m ≡ Some a)

-- in what a site showed each kept cause of an update stands before it
abbrev pub CausalAsListed : Deployed → List Entry → Type 0
CausalAsListed d h =
    (k n : ℕ) (b a : Label) → slice_get (shown h k) n ≡ Some b → Cause h b a → IsKeptAt d k a
    → StandsBefore (shown h k) n a

-- in what a site showed no update stands twice
abbrev pub OnceAsListed : List Entry → Type 0
OnceAsListed h = (k m n : ℕ) (b : Label) → slice_get (shown h k) m ≡ Some b → slice_get (shown h k) n ≡ Some b → m ≡ n

-- the headline, which every run meets: sites show updates in causal order and each once, from writes of items that they
-- keep; no client reads what is older than its past; what a site shows it shows whole; and once all has come and was
-- shown, each site holds the greatest versions
pub record IsGood (d : Deployed) (h : List Entry) : Type 0 where
  pub causal : Causal d h
  pub in_order : CausalAsListed d h
  pub no_repeat : OnceAsListed h
  pub once : Once d h
  pub fresh : Fresh h
  pub whole : Whole d h
  pub settled : Settled d h
