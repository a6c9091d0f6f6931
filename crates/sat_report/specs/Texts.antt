-- The texts of labels, kinds, nodes and items.
use Rattle.std.specs.Prelude.{ℕ, Bool, List, [], Option, Some, None, filter, map, slice_get, codes}
use Rattle.std.specs.List.{join_with_byte}
use Rattle.sat_label.specs.Text.{node_text, point_text}
use Rattle.sat_label.specs.Grouped.{list_of}
use Rattle.sat_label.specs.declared.label.Kind.{Kind}
use Rattle.sat_label.specs.declared.label.Kind.TheVariants.{Update, Move, Pulse, Close}
use Rattle.sat_label.specs.declared.label.Label.{Label}
use Rattle.sat_label.specs.declared.node.NodeId.{NodeId}
use Rattle.sat_act.specs.Deployed.{Deployed}
use Rattle.sat_act.specs.Parts.{replicates}

-- a label is printed as its point
abbrev pub label_text : Label → List ℕ
label_text l = point_text l.point

unfoldable pub kind_word : Kind → List ℕ
kind_word (Update items) = codes "update"
kind_word (Move j) = codes "move"
kind_word Pulse = codes "pulse"
kind_word (Close e) = codes "close"

-- separated by commas
unfoldable pub nodes_text : List NodeId → List ℕ
unfolding node_text
nodes_text nodes = join_with_byte 44 (map node_text nodes)

-- the name of the item with a number; a number that no item has gives nothing
unfoldable pub item_name : Deployed → ℕ → List ℕ
item_name d x = elim (slice_get d.items x) [ None ↦ [] | Some item ↦ item.name ]

-- site j keeps item x
abbrev pub is_kept : Deployed → ℕ → ℕ → Bool
is_kept d j x = replicates d x j

-- the names of those of some items that site j keeps, separated by commas
abbrev pub kept_names : Deployed → ℕ → List ℕ → List ℕ
kept_names d j xs = join_with_byte 44 (map (item_name d) (filter (is_kept d j) xs))

-- the names of those of an update's items that site j keeps. The items ascend, so this is the order of the header
unfoldable pub names_of_items : Deployed → ℕ → Kind → List ℕ
unfolding item_name replicates
names_of_items d j (Update items) = kept_names d j (list_of items)
names_of_items d j _ = []

-- the same of a site that there may not be: none keeps nothing
abbrev pub names_at : Deployed → Option ℕ → Kind → List ℕ
names_at d None k = []
names_at d (Some j) k = names_of_items d j k
