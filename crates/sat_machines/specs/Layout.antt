-- The links between the nodes of a deployment, and which end of a node is which.
use Rattle.std.specs.Prelude.{ℕ, ◌+◌, ◌-◌, ◌==◌, ◌&&◌, Bool, false, nat_lt, List, [], ◌∷◌, ◌++◌, length, map, get_or}
use Rattle.std.specs.Prelude.{position, unwrap_or, if◌then◌else◌}
use Rattle.std.specs.List.{flat_map}
use Rattle.sat_label.specs.declared.node.NodeId.{NodeId}
use Rattle.sat_label.specs.declared.node.NodeId.TheVariants.{Site, Serializer}
use Rattle.sat_label.specs.declared.node.NodeName.{NodeName}
use Rattle.sat_label.specs.declared.node.NodeName.TheVariants as named
use Rattle.sat_label.specs.Order.{node_eq}
use Rattle.sat_label.specs.Words.{below}
use Rattle.sat_tree.specs.Shape.{TreeShape}
use Rattle.sat_tree.specs.Cut.{neighbours, seat_of}
use Rattle.sat_act.specs.declared.deployment.Plan.{Plan}
use Rattle.sat_act.specs.declared.deployment.Plan.TheVariants as plan
use Rattle.sat_act.specs.Deployed.{Deployed}

-- a link: for payloads and beats from a site to another, or for the labels of an epoch along an edge of its tree
pub data Link : Type 0 where
  Bulk : (from to : ℕ) → Link
  Edge : (epoch : ℕ) (from to : NodeId) → Link

abbrev pub link_eq : Link → Link → Bool
link_eq (Bulk i j) (Bulk k l) = (i == k) && (j == l)
link_eq (Edge e u v) (Edge f x y) = (e == f) && (node_eq u x && node_eq v y)
link_eq _ _ = false

-- the other way
abbrev pub turned : Link → Link
turned (Bulk i j) = Bulk j i
turned (Edge e u v) = Edge e v u

-- the k-th of the sites other than i
abbrev pub peer : ℕ → ℕ → ℕ
peer i k = if nat_lt k i then k else k + 1

-- an epoch with a tree
pub record Planted : Type 0 where
  pub epoch : ℕ
  pub tree : TreeShape

-- the trees of plans, the first of which is that of this epoch
abbrev pub planted : ℕ → List Plan → List Planted
planted e [] = []
planted e (plan.Stamp ∷ plans) = planted (e + 1) plans
planted e (plan.Tree tree ∷ plans) = record { epoch = e; tree = tree } ∷ planted (e + 1) plans

abbrev pub trees_of : Deployed → List Planted
trees_of d = planted 1 d.plans

-- the links out of a site: to each other site, in order, and then of each tree
abbrev pub site_links : Deployed → ℕ → List Link
site_links d i =
    map (λ k. Bulk i (peer i k)) (below (d.sites - 1))
    ++ map (λ p. Edge p.epoch (Site i) (Serializer (seat_of p.tree i))) (trees_of d)

-- the links out of a serializer of a tree: to each neighbour, in their order
abbrev pub serial_links : Planted → ℕ → List Link
serial_links p z = map (λ v. Edge p.epoch (Serializer z) v) (neighbours p.tree z)

-- the links out of a serializer of an epoch
abbrev pub links_at : List Planted → ℕ → ℕ → List Link
links_at [] e z = []
links_at (p ∷ ps) e z = if p.epoch == e then serial_links p z else links_at ps e z

-- the links out of a node, in the order of its ends; a gear that is a site's own has none
abbrev pub links_of : Deployed → NodeName → List Link
links_of d (named.Site i) = site_links d i
links_of d (named.Serializer e z) = links_at (trees_of d) e z
links_of d (named.Gear i g) = []

-- all links, in the order of the nodes that they lead out of
abbrev pub tree_links : Planted → List Link
tree_links p = flat_map (serial_links p) (below (length p.tree.parents))

-- all links of a deployment: between each two sites, and along the edges of each tree
abbrev pub all_links : Deployed → List Link
all_links d = flat_map (site_links d) (below d.sites) ++ flat_map tree_links (trees_of d)

-- the place of a link among all
abbrev pub place_of : Deployed → Link → ℕ
place_of d l = unwrap_or (position (link_eq l) (all_links d)) 0

-- the places of the links out of a node, and of those into it, in the same order
unfoldable pub out_places : Deployed → NodeName → List ℕ
unfolding neighbours seat_of
out_places d name = map (place_of d) (links_of d name)

abbrev pub place_back : Deployed → Link → ℕ
place_back d l = place_of d (turned l)

-- the places of the links into a node, in the order of those that lead out of it
unfoldable pub in_places : Deployed → NodeName → List ℕ
unfolding neighbours seat_of
in_places d name = map (place_back d) (links_of d name)

-- the number of the end for each epoch's tree, from the end of this number on. An epoch without a tree has that of the
-- next one
abbrev pub label_links : ℕ → List Plan → List ℕ
label_links n [] = []
label_links n (plan.Stamp ∷ plans) = n ∷ label_links n plans
label_links n (plan.Tree tree ∷ plans) = n ∷ label_links (n + 1) plans

-- at a site, the number of the end for the tree of an epoch. They count from 1
abbrev pub label_link : Deployed → ℕ → ℕ
label_link d e = get_or (label_links (d.sites - 1) d.plans) (e - 1) 0
