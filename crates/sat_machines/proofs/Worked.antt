-- The layout of two sites, one serializer, and two epochs of which the first goes by stamp order.
use Rattle.std.proofs.Common.{◌≡◌, refl, ℕ, List, [], ◌∷◌, Some, None}
use Rattle.sat_label.specs.declared.node.NodeName.TheVariants as named
use Rattle.sat_act.specs.declared.deployment.Plan.TheVariants as plan
use Rattle.sat_act.specs.Deployed.{Deployed}
use Rattle.sat_tree.specs.Shape.{TreeShape}
use Rattle.sat_machines.specs.Layout.{out_places, in_places, label_link}

abbrev two : Deployed
two = record { format = 1; sites = 2; gears = 1; items = []; clients = []; plans = plan.Stamp ∷ plan.Tree (record { parents = None ∷ []; seats = 0 ∷ 0 ∷ [] }) ∷ [] }

first-out : out_places two (named.Site 0) ≡ 0 ∷ 1 ∷ []
unfolding out_places
first-out = refl

first-in : in_places two (named.Site 0) ≡ 2 ∷ 4 ∷ []
unfolding in_places
first-in = refl

second-out : out_places two (named.Site 1) ≡ 2 ∷ 3 ∷ []
unfolding out_places
second-out = refl

second-in : in_places two (named.Site 1) ≡ 0 ∷ 5 ∷ []
unfolding in_places
second-in = refl

serial-out : out_places two (named.Serializer 2 0) ≡ 4 ∷ 5 ∷ []
unfolding out_places
serial-out = refl

serial-in : in_places two (named.Serializer 2 0) ≡ 1 ∷ 3 ∷ []
unfolding in_places
serial-in = refl

tree-end : label_link two 2 ≡ 1
tree-end = refl
