-- The ways of links as code lists them, and the places of links.
use Rattle.std.specs.Prelude.{ℕ, List, map, position, unwrap_or}
use Rattle.sat_label.specs.declared.node.NodeId.TheVariants.{Site, Serializer}
use Rattle.sat_label.specs.Words.{below}
use Rattle.sat_tree.specs.Cut.{seat_of}
use Rattle.sat_machines.specs.Layout.{Link, Bulk, Edge, Planted, link_eq, peer, turned}
use Rattle.sat_wires.specs.declared.way.Way.{Way}
use Rattle.sat_wires.specs.declared.way.Way.TheVariants as way

-- the link of a way
abbrev pub link_of : Way → Link
link_of (way.Bulk i j) = Bulk i j
link_of (way.Edge e u v) = Edge e u v

-- the place of a link in a list
abbrev pub place_in : List Link → Link → ℕ
place_in all l = unwrap_or (position (link_eq l) all) 0

-- the place of the link that leads the other way
abbrev pub place_back_in : List Link → Link → ℕ
place_back_in all l = place_in all (turned l)

-- the links from a site to so many other sites, in order
abbrev pub bulk_links : ℕ → ℕ → List Link
bulk_links i n = map (λ k. Bulk i (peer i k)) (below n)

-- the links from a site into trees
abbrev pub edge_links : ℕ → List Planted → List Link
edge_links i ps = map (λ p. Edge p.epoch (Site i) (Serializer (seat_of p.tree i))) ps
