-- Acts whose numbers name what they should.
use Rattle.std.specs.Prelude.{◌≡◌, ◌<◌, ◌≤◌, ◌^◌, ℕ, true, false, ◌==◌, nat_lt, List, length, Some, IfSome}
use Rattle.std.specs.List.{list_all}
use Rattle.sat_label.specs.declared.items.Items.{Items}
use Rattle.sat_label.specs.declared.limits.TheConstants.{TS_END}
use Rattle.sat_label.specs.Text.{is_value}
use Rattle.sat_label.specs.Formats.{limits_of}
use Rattle.sat_label.specs.Grouped.{are_items, list_of}
use Rattle.sat_label.specs.declared.node.NodeId.TheVariants.{Serializer}
use Rattle.sat_tree.specs.Shape.{TreeShape}
use Rattle.sat_tree.specs.Cut.{is_edge, IsNode}
use Rattle.sat_act.specs.declared.act.Act.{Act}
use Rattle.sat_act.specs.declared.act.Act.TheVariants as act
use Rattle.sat_act.specs.Deployed.{Deployed}
use Rattle.sat_act.specs.Parts.{tree_of}

-- two different sites
abbrev pub ArePair : Deployed → ℕ → ℕ → Type 0
ArePair d i j = (i < d.sites) × (j < d.sites) × ((i == j) ≡ false)

-- a group that is written under one label: two items at least and as many as the format allows, strictly ascending,
-- each one of the deployment's, and a value for each
pub record IsGroupOf (d : Deployed) (items : Items) (values : List (List ℕ)) : Type 0 where
  pub some : 2 ≤ length (list_of items)
  pub few : length (list_of items) ≤ (limits_of d.format).written
  pub order : are_items (list_of items) ≡ true
  pub known : list_all (λ x. nat_lt x (length d.items)) (list_of items) ≡ true
  pub values_all : length values ≡ length (list_of items)
  pub spelled : list_all is_value values ≡ true

-- the act has a line under the deployment's header: each number, name and value in it is one of the deployment's or
-- within its limits. A run asks for less, `InRange` (Answers), as the laws of histories need nothing of clients, items,
-- values and kills: with one table they would be proved of fewer histories
abbrev pub IsActOf : Deployed → Act → Type 0
IsActOf d (act.Tick i g ts) = (i < d.sites) × (g < d.gears) × (ts ≤ TS_END)
IsActOf d act.Clock = Unit {0}
IsActOf d (act.Write c x value) = (c < length d.clients) × (x < length d.items) × (is_value value ≡ true)
IsActOf d (act.Writes c items values) = (c < length d.clients) × IsGroupOf d items values
IsActOf d (act.Read c x) = (c < length d.clients) × (x < length d.items)
IsActOf d (act.Move c j) = (c < length d.clients) × (j < d.sites)
IsActOf d (act.Leave c) = c < length d.clients
IsActOf d (act.Attach c j) = (c < length d.clients) × (j < d.sites)
IsActOf d (act.Gather i) = i < d.sites
IsActOf d (act.Emit i) = i < d.sites
IsActOf d (act.Pulse i) = i < d.sites
IsActOf d (act.Hop epoch u z) =
    (tree : TreeShape) × (1 ≤ epoch) × (tree_of d epoch ≡ Some tree) × IsNode tree u
    × (is_edge tree u (Serializer z) ≡ true)
IsActOf d (act.Turn i) = i < d.sites
IsActOf d (act.Bulk i g j n) = ArePair d i j × (g < d.gears) × IfSome n (λ k. k < 2 ^ 64)
IsActOf d (act.Beat i j) = ArePair d i j
IsActOf d (act.BeatIn i j n) = ArePair d i j × (n < 2 ^ 64)
IsActOf d (act.Stamp i) = i < d.sites
IsActOf d (act.Close i) = i < d.sites
IsActOf d (act.Fall i) = i < d.sites
IsActOf d (act.Advance i) = i < d.sites
IsActOf d (act.Kill epoch z) =
    (tree : TreeShape) × (1 ≤ epoch) × (tree_of d epoch ≡ Some tree) × (z < length tree.parents)
IsActOf d act.Settle = Unit {0}
