-- The header of a large script.
use Rattle.std.specs.Prelude.{ℕ, ◌+◌, ◌/◌, ◌%◌, ◌^◌, ◌==◌, [], ◌∷◌, ◌++◌, map, bit_or, Some, None, codes, if◌then◌else◌}
use Rattle.std.specs.Fmt.{decimal}
use Rattle.sat_label.specs.Words.{below}
use Rattle.sat_tree.specs.Shape.{TreeShape}
use Rattle.sat_act.specs.declared.deployment.Item.{Item}
use Rattle.sat_act.specs.declared.deployment.ClientLine.{ClientLine}
use Rattle.sat_act.specs.declared.deployment.Plan.TheVariants as plan
use Rattle.sat_act.specs.Deployed.{Deployed}

-- the set of three sites, of which some may be the same
abbrev pub three_sites : ℕ → ℕ → ℕ → ℕ
three_sites a b c = bit_or (bit_or (2 ^ a) (2 ^ b)) (2 ^ c)

-- item k is kept at two sites side by side, and at a third or at one of these again
unfoldable pub load_item : ℕ → Item
load_item k =
    record { name = codes "x" ++ decimal k; replicas = record { bits = three_sites (k % 5) ((k + 1) % 5) (k / 5 % 5) } }

unfoldable pub load_client : ℕ → ClientLine
load_client k = record { name = codes "c" ++ decimal k; site = k % 5 }

-- the trees of epoch 1 and epoch 2
abbrev pub first_tree : TreeShape
first_tree = record { parents = None ∷ Some 0 ∷ Some 0 ∷ []; seats = 0 ∷ 1 ∷ 1 ∷ 2 ∷ 2 ∷ [] }

abbrev pub second_tree : TreeShape
second_tree = record { parents = None ∷ Some 0 ∷ []; seats = 0 ∷ 0 ∷ 1 ∷ 1 ∷ 1 ∷ [] }

unfoldable pub load_tree : ℕ → TreeShape
load_tree epoch = if epoch == 1 then first_tree else second_tree

-- 5 sites of 4 gears, items x0 to x199, clients c0 to c39, and two epochs
unfoldable pub load_deployment : Deployed
load_deployment = record {
  format = 1;
  sites = 5;
  gears = 4;
  items = map load_item (below 200);
  clients = map load_client (below 40);
  plans = plan.Tree first_tree ∷ plan.Tree second_tree ∷ [];
}
