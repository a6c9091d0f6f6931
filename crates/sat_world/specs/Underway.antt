-- What is under way in a history: payloads that were made and not brought, and labels that entered a link and were not
-- taken.
use Rattle.std.specs.Prelude.{ℕ, ◌+◌, ◌-◌, Bool, not, count_by, List, length, Some, None}
use Rattle.std.specs.List.{sum_by}
use Rattle.sat_label.specs.declared.label.Label.{Label}
use Rattle.sat_label.specs.declared.node.NodeId.{NodeId}
use Rattle.sat_label.specs.declared.node.NodeId.TheVariants.{Site, Serializer}
use Rattle.sat_label.specs.Order.{label_eq}
use Rattle.sat_label.specs.Words.{below, has}
use Rattle.sat_tree.specs.Shape.{TreeShape}
use Rattle.sat_tree.specs.Cut.{neighbours, seat_of}
use Rattle.sat_act.specs.declared.entry.Entry.{Entry}
use Rattle.sat_act.specs.Deployed.{Deployed}
use Rattle.sat_act.specs.Parts.{tree_of, lane, brought, entered, taken}

-- whether a label is none of those whose payloads were brought
abbrev pub is_left : List Label → Label → Bool
is_left brought l = not (has label_eq brought l)

-- of the lane of gear g of site i to site j: made less taken. A site's lane to itself is empty
abbrev pub lane_underway : Deployed → List Entry → ℕ → ℕ → ℕ → ℕ
lane_underway d h i g j = count_by (is_left (brought h j)) (lane d h i g j)

-- of all lanes
abbrev pub lanes_underway : Deployed → List Entry → ℕ
lanes_underway d h =
    sum_by (λ j. sum_by (λ i. sum_by (λ g. lane_underway d h i g j) (below d.gears)) (below d.sites)) (below d.sites)

-- of the link from u to v in an epoch, whose tree this is: entered less taken
abbrev pub link_underway : Deployed → List Entry → ℕ → TreeShape → NodeId → NodeId → ℕ
link_underway d h epoch t u v = length (entered d h epoch t u v) - taken d h epoch u v

-- of an epoch's links: those from sites to their serializers, and those from serializers to their neighbours
abbrev pub tree_underway : Deployed → List Entry → ℕ → TreeShape → ℕ
tree_underway d h epoch t =
    sum_by (λ i. link_underway d h epoch t (Site i) (Serializer (seat_of t i))) (below (length t.seats))
    + sum_by (λ z. sum_by (λ v. link_underway d h epoch t (Serializer z) v) (neighbours t z)) (below (length t.parents))

-- of an epoch's links, none where its plan is stamp order
abbrev pub epoch_underway : Deployed → List Entry → ℕ → ℕ
epoch_underway d h epoch = elim (tree_of d epoch) [ None ↦ 0 | Some t ↦ tree_underway d h epoch t ]

-- of all links
abbrev pub links_underway : Deployed → List Entry → ℕ
links_underway d h = sum_by (λ n. epoch_underway d h (n + 1)) (below (length d.plans))

-- all that is under way
unfoldable pub underway : Deployed → List Entry → ℕ
unfolding lane brought entered taken tree_of seat_of neighbours
underway d h = lanes_underway d h + links_underway d h
