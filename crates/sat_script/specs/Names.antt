-- Names as the code keeps them for looking them up.
use Rattle.std.specs.Prelude.{ℕ, ◌≡◌, ◌≤◌, List, length, map}
use Rattle.std.specs.Global.{Vec}
use Rattle.sat_act.specs.declared.deployment.Item.{Item}
use Rattle.sat_act.specs.declared.deployment.ClientLine.{ClientLine}
use Rattle.sat_act.specs.Deployed.{Deployed}
use Rattle.sat_script.specs.declared.limits.TheConstants.{MOST_ITEMS, MOST_CLIENTS, MOST_PLANS}

-- the bytes of each key
abbrev pub texts_of : List (Vec ℕ) → List (List ℕ)
texts_of keys = map (λ key. key.items) keys

abbrev pub item_name_of : Item → List ℕ
item_name_of item = item.name

abbrev pub client_name_of : ClientLine → List ℕ
client_name_of line = line.name

-- lists within their limits, and beside them the format, the numbers of sites and of gears, and the names of the items
-- and of the clients
pub record AreNamed (d : Deployed) (format sites gears : ℕ) (item_names client_names : List (List ℕ)) : Type 0 where
  pub few_items : length d.items ≤ MOST_ITEMS
  pub few_clients : length d.clients ≤ MOST_CLIENTS
  pub few_plans : length d.plans ≤ MOST_PLANS
  pub format_kept : format ≡ d.format
  pub sites_kept : sites ≡ d.sites
  pub gears_kept : gears ≡ d.gears
  pub items_named : item_names ≡ map item_name_of d.items
  pub clients_named : client_names ≡ map client_name_of d.clients
