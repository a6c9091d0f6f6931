-- The links between hubs, gears and serializers, and which end of a node is which. A hub and a serializer send over
-- the links that a site and a serializer have, where those between two sites carry beats alone. Beside these each
-- gear has a lane for its payloads to each other site.
use Rattle.std.specs.Prelude.{ℕ, ◌+◌, ◌*◌, ◌-◌, ◌==◌, ◌&&◌, Bool, nat_lt, List, [], ◌++◌, length, map, position}
use Rattle.std.specs.Prelude.{unwrap_or, if◌then◌else◌}
use Rattle.std.specs.List.{flat_map}
use Rattle.sat_label.specs.declared.node.NodeName.{NodeName}
use Rattle.sat_label.specs.declared.node.NodeName.TheVariants as named
use Rattle.sat_label.specs.Words.{below}
use Rattle.sat_act.specs.Deployed.{Deployed}
use Rattle.sat_machines.specs.Layout.{all_links, in_places as site_in_places, out_places as site_out_places, peer}
use Rattle.sat_machines.specs.Layout.{site_links}

-- the link for the payloads of a gear of a site to another site
pub record Lane : Type 0 where
  pub site : ℕ
  pub gear : ℕ
  pub to : ℕ

-- whether two lanes are the same
abbrev pub lane_eq : Lane → Lane → Bool
lane_eq a b = (a.site == b.site) && ((a.gear == b.gear) && (a.to == b.to))

-- a lane from its parts
abbrev pub lane : ℕ → ℕ → ℕ → Lane
lane i g j = record { site = i; gear = g; to = j }

-- the lanes of gear g of site i, to each other site, in order
abbrev pub gear_lanes : Deployed → ℕ → ℕ → List Lane
gear_lanes d i g = map (λ k. lane i g (peer i k)) (below (d.sites - 1))

-- the lanes to site i from the gears of site j
abbrev pub lanes_from : Deployed → ℕ → ℕ → List Lane
lanes_from d i j = map (λ g. lane j g i) (below d.gears)

-- the lanes to site i: of each other site, in order, those of its gears
abbrev pub lanes_to : Deployed → ℕ → List Lane
lanes_to d i = flat_map (λ k. lanes_from d i (peer i k)) (below (d.sites - 1))

-- the lanes of all gears of a site
abbrev pub site_lanes : Deployed → ℕ → List Lane
site_lanes d i = flat_map (gear_lanes d i) (below d.gears)

-- all lanes, in the order of the gears that they lead out of
abbrev pub all_lanes : Deployed → List Lane
all_lanes d = flat_map (site_lanes d) (below d.sites)

-- ---- places in the list of wires: first the links that hubs and serializers have, and then the lanes

-- how many wires there are
abbrev pub wire_count : Deployed → ℕ
wire_count d = length (all_links d) + length (all_lanes d)

-- the place of a lane
abbrev pub lane_place : Deployed → Lane → ℕ
lane_place d l = length (all_links d) + unwrap_or (position (lane_eq l) (all_lanes d)) 0

-- the places of the links out of a hub: of beats to each other hub, in order, and then of each tree. Those out of a
-- gear are its lanes
unfoldable pub part_outs : Deployed → NodeName → List ℕ
unfolding site_out_places
part_outs d (named.Site i) = site_out_places d (named.Site i)
part_outs d (named.Serializer e z) = site_out_places d (named.Serializer e z)
part_outs d (named.Gear i g) = map (lane_place d) (gear_lanes d i g)

-- the places of the links into a hub: of those by which it sends the other way, in their order, and then of the lanes
-- to its site. None leads into a gear
unfoldable pub part_ins : Deployed → NodeName → List ℕ
unfolding site_in_places
part_ins d (named.Site i) = site_in_places d (named.Site i) ++ map (lane_place d) (lanes_to d i)
part_ins d (named.Serializer e z) = site_in_places d (named.Serializer e z)
part_ins d (named.Gear i g) = []

-- ---- numbers of ends

-- the number of a site among those other than i
abbrev pub rank : ℕ → ℕ → ℕ
rank i j = if nat_lt j i then j else j - 1

-- at hub i, the number of the end for the lane of a gear of another site: behind those by which it sends, site by site
-- and gear by gear
abbrev pub lane_end : Deployed → ℕ → ℕ → ℕ → ℕ
lane_end d i from gear = (length (site_links d i) + rank i from * d.gears) + gear

-- ---- names

-- the names of the gears of site i, of which there are so many
abbrev pub site_gears : ℕ → ℕ → List NodeName
site_gears gears i = map (named.Gear i) (below gears)

-- the names of all gears: site by site, in the order of their numbers
abbrev pub gear_names : Deployed → List NodeName
gear_names d = flat_map (site_gears d.gears) (below d.sites)
