-- Deployments within their limits.
use Rattle.std.specs.Prelude.{◌≡◌, ◌<◌, ◌≤◌, ℕ, true, Some, length, slice_get, List}
use Rattle.sat_label.specs.declared.limits.TheConstants.{MOST_CLIENTS, MOST_EPOCHS, MOST_GEARS, MOST_ITEMS}
use Rattle.sat_label.specs.declared.limits.TheConstants.{MOST_SERIALIZERS, MOST_SITES}
use Rattle.sat_label.specs.Words.{bit}
use Rattle.sat_label.specs.Formats.{is_format, limits_of}
use Rattle.sat_tree.specs.Shape.{TreeShape}
use Rattle.sat_tree.specs.Cut.{IsTree}
use Rattle.sat_tree.specs.Flaw.{IsSmallTree}
use Rattle.sat_act.specs.declared.deployment.Plan.{Plan}
use Rattle.sat_act.specs.declared.deployment.Plan.TheVariants as plan
use Rattle.sat_act.specs.declared.deployment.Item.{Item}
use Rattle.sat_act.specs.declared.deployment.ClientLine.{ClientLine}
use Rattle.sat_act.specs.Deployed.{Deployed}
use Rattle.sat_act.specs.Parts.{tree_of}

-- what `Deployment::new` makes sure of: the limits of the numbers, those of its format and so those of any, each item
-- kept somewhere and only at sites, no name twice among the items or the clients, each client's site a site, and each
-- epoch's tree, if any, a tree that seats every site
pub record IsDeployment (d : Deployed) : Type 0 where
  pub format : is_format d.format ≡ true
  pub sites_allowed : d.sites ≤ (limits_of d.format).sites
  pub items_allowed : length d.items ≤ (limits_of d.format).items
  pub some_site : 0 < d.sites
  pub few_sites : d.sites ≤ MOST_SITES
  pub some_gear : 0 < d.gears
  pub few_gears : d.gears ≤ MOST_GEARS
  pub few_items : length d.items ≤ MOST_ITEMS
  pub few_clients : length d.clients ≤ MOST_CLIENTS
  pub some_plan : 0 < length d.plans
  pub few_plans : length d.plans ≤ MOST_EPOCHS
  pub kept : (x : ℕ) (item : Item) → slice_get d.items x ≡ Some item → (k : ℕ) × (bit item.replicas.bits k ≡ true)
  pub replicas : (x k : ℕ) (item : Item) → slice_get d.items x ≡ Some item → bit item.replicas.bits k ≡ true
      → k < d.sites
  pub item_names : (x y : ℕ) (one other : Item) → slice_get d.items x ≡ Some one → slice_get d.items y ≡ Some other
      → one.name ≡ other.name → x ≡ y
  pub homes : (c : ℕ) (line : ClientLine) → slice_get d.clients c ≡ Some line → line.site < d.sites
  pub client_names : (b c : ℕ) (one other : ClientLine) → slice_get d.clients b ≡ Some one
      → slice_get d.clients c ≡ Some other → one.name ≡ other.name → b ≡ c
  pub trees : (epoch : ℕ) (tree : TreeShape) → tree_of d epoch ≡ Some tree → IsTree tree
  pub few_serializers : (epoch : ℕ) (tree : TreeShape) → tree_of d epoch ≡ Some tree
      → length tree.parents ≤ MOST_SERIALIZERS
  pub all_seated : (epoch : ℕ) (tree : TreeShape) → tree_of d epoch ≡ Some tree → length tree.seats ≡ d.sites

-- each tree among some plans is one, with few serializers
abbrev pub HaveTrees : List Plan → Type 0
HaveTrees plans = (n : ℕ) (tree : TreeShape) → slice_get plans n ≡ Some (plan.Tree tree) → IsSmallTree tree
