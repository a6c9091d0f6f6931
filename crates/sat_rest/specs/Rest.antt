-- Rest: nothing is under way.
use Rattle.std.specs.Prelude.{◌≡◌, ◌⊎◌, ◌<◌, ◌≤◌, ℕ, ◌+◌, true, false, List, [], ◌∷◌, length, Some, slice_get}
use Rattle.sat_label.specs.declared.label.Label.{Label}
use Rattle.sat_label.specs.declared.node.NodeId.{NodeId}
use Rattle.sat_label.specs.declared.node.NodeId.TheVariants.{Site, Serializer}
use Rattle.sat_label.specs.Order.{label_eq}
use Rattle.sat_label.specs.Words.{has}
use Rattle.sat_tree.specs.Shape.{TreeShape}
use Rattle.sat_tree.specs.Cut.{is_edge}
use Rattle.sat_act.specs.declared.entry.Entry.{Entry}
use Rattle.sat_act.specs.Deployed.{Deployed}
use Rattle.sat_act.specs.Parts.{tree_of, view, emission, fallen, in_stamp_mode, killed, lane, brought, waiting, entered}
use Rattle.sat_act.specs.Parts.{taken}

-- some site went on from the view of this epoch by timestamp order
unfoldable pub LeftByStamps : Deployed → List Entry → ℕ → Type 0
LeftByStamps d [] epoch = ⊥
LeftByStamps d (entry ∷ before) epoch =
    LeftByStamps d before epoch
    ⊎ ((j : ℕ) × (view before j ≡ epoch) × (view (entry ∷ before) j ≡ epoch + 1) × (in_stamp_mode d before j ≡ true))

-- all sites have one view and one emission epoch, the two are equal, none has fallen, and the view's tree, if it has
-- one, has no killed serializer
pub record CanEnd (d : Deployed) (h : List Entry) : Type 0 where
  pub epoch : ℕ
  pub views : (j : ℕ) → j < d.sites → view h j ≡ epoch
  pub emissions : (j : ℕ) → j < d.sites → emission h j ≡ epoch
  pub no_fall : (j : ℕ) → j < d.sites → fallen h j ≡ false
  pub no_kill : (z : ℕ) → killed h epoch z ≡ false

-- a site of the deployment, or a serializer
abbrev pub IsPlace : Deployed → NodeId → Type 0
IsPlace d (Site i) = i < d.sites
IsPlace d (Serializer z) = Unit {0}

-- every lane is taken whole: each of its payloads was brought
abbrev pub LanesWhole : Deployed → List Entry → Type 0
LanesWhole d h = (i g j n : ℕ) (l : Label) → j < d.sites → slice_get (lane d h i g j) n ≡ Some l
    → has label_eq (brought h j) l ≡ true

-- the link from u to v is taken whole: nothing stands on it
abbrev pub LinkWhole : Deployed → List Entry → ℕ → TreeShape → NodeId → NodeId → Type 0
LinkWhole d h epoch tree u v = taken d h epoch u v ≡ length (entered d h epoch tree u v)

-- nothing is under way where all sites are in view v: no payload waits, every lane is taken whole, and in each tree
-- every link is, but for trees of earlier epochs that were left by stamps
pub record IsAtRest (d : Deployed) (h : List Entry) (v : ℕ) : Type 0 where
  pub nothing_waits : (j : ℕ) → j < d.sites → waiting h j ≡ []
  pub lanes : LanesWhole d h
  pub links : (epoch : ℕ) (tree : TreeShape) (x y : NodeId) → 1 ≤ epoch → tree_of d epoch ≡ Some tree
      → (epoch < v → LeftByStamps d h epoch → ⊥)
      → IsPlace d x → IsPlace d y → is_edge tree x y ≡ true → LinkWhole d h epoch tree x y
