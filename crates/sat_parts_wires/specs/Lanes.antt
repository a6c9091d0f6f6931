-- The lanes of a deployment as code lists them, their places in the list of all wires, and the names of gears.
use Rattle.std.specs.Prelude.{ℕ, ◌≡◌, ◌+◌, List, length, map, position, unwrap_or}
use Rattle.std.specs.List.{flat_map}
use Rattle.sat_label.specs.declared.node.NodeName.{NodeName}
use Rattle.sat_label.specs.declared.node.NodeName.TheVariants as named
use Rattle.sat_label.specs.Words.{below}
use Rattle.sat_act.specs.Deployed.{Deployed}
use Rattle.sat_link.specs.Ends.{Sender, Receiver}
use Rattle.sat_node.specs.declared.kept.Envelope.{Envelope}
use Rattle.sat_machines.specs.Layout.{Link, all_links, peer}
use Rattle.sat_parts.specs.Layout.{Lane, all_lanes, lane, lane_eq}
use Rattle.sat_wires.specs.Wires.{NothingReceived, NothingSent, wire_in, wire_out}

-- the lanes of a gear to so many other sites, in order
abbrev pub lanes_out : ℕ → ℕ → ℕ → List Lane
lanes_out i g n = map (λ k. lane i g (peer i k)) (below n)

-- the place of a lane, where all lanes stand behind so many wires
abbrev pub place_behind : ℕ → List Lane → Lane → ℕ
place_behind first all l = first + unwrap_or (position (lane_eq l) all) 0

-- the two ends of each link of a deployment, through which nothing went: first of the links that hubs and serializers
-- have, and then of the lanes
pub record IsWires (d : Deployed) (links : List Link) (lanes : List Lane) (ins : List (Sender Envelope))
    (outs : List (Receiver Envelope)) : Type 0 where
  pub links_are : links ≡ all_links d
  pub lanes_are : lanes ≡ all_lanes d
  pub many : length ins ≡ length links + length lanes
  pub same : map wire_out outs ≡ map wire_in ins
  pub sent : NothingSent ins
  pub received : NothingReceived outs
