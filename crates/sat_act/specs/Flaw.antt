-- What keeps a header from being a deployment.
use Rattle.std.specs.Prelude.{ℕ, ◌≡◌, ◌==◌, ◌&&◌, Bool, true, not, nat_lt, nat_le, List, length, take, Option, Some}
use Rattle.std.specs.Prelude.{None, slice_get, if◌then◌else◌}
use Rattle.std.specs.List.{list_any}
use Rattle.std.specs.Option.{option_or, option_map}
use Rattle.std.specs.Str.{bytes_eq}
use Rattle.std.specs.HashSet.{HashSet, contains_by}
use Rattle.std.specs.Borrow.{Bor}
use Rattle.sat_label.specs.declared.limits.TheConstants.{MOST_CLIENTS, MOST_EPOCHS, MOST_GEARS}
use Rattle.sat_label.specs.Formats.{is_format, limits_of}
use Rattle.sat_label.specs.Words.{are_sites, first_failing}
use Rattle.sat_act.specs.declared.deployment.Item.{Item}
use Rattle.sat_act.specs.declared.deployment.ClientLine.{ClientLine}
use Rattle.sat_act.specs.declared.deployment.Plan.{Plan}
use Rattle.sat_act.specs.declared.deployment.Plan.TheVariants as plan
use Rattle.sat_act.specs.declared.fault.DeploymentFault.{DeploymentFault}
use Rattle.sat_act.specs.declared.fault.DeploymentFault.TheVariants.{Size, BadItem, BadClient, BadPlan}
use Rattle.sat_act.specs.Deployed.{Deployed}

-- whether a set of names has this one
abbrev pub has_name : {S : Type 0} → HashSet (Bor (List ℕ)) S → List ℕ → Bool
has_name names name = contains_by (λ k. bytes_eq name k.now) names

-- a number from low to high
abbrev pub is_within : ℕ → ℕ → ℕ → Bool
is_within low high n = nat_le low n && nat_le n high

-- the first part of a wrong size: 5 for the format, 0 for the sites, 1 for the gears, 2 for the items, 3 for the
-- clients, 4 for the plans
unfoldable pub wrong_size : Deployed → Option ℕ
wrong_size d =
    if not (is_format d.format) then Some 5 else
    if not (is_within 1 (limits_of d.format).sites d.sites) then Some 0 else
    if not (is_within 1 MOST_GEARS d.gears) then Some 1 else
    if not (nat_le (length d.items) (limits_of d.format).items) then Some 2 else
    if not (nat_le (length d.clients) MOST_CLIENTS) then Some 3 else
    if not (is_within 1 MOST_EPOCHS (length d.plans)) then Some 4 else
    None

-- some site keeps the item, each that does is one of the sites, and no earlier item has its name
unfoldable pub item_fits : ℕ → List Item → ℕ → Bool
item_fits sites items x =
    elim (slice_get items x) [
      | None ↦ true
      | Some item ↦
          are_sites sites item.replicas.bits
          && not (list_any (λ (earlier : Item). bytes_eq earlier.name item.name) (take x items))
    ]

-- the client's site is one of the sites, and no earlier client has its name
unfoldable pub client_fits : ℕ → List ClientLine → ℕ → Bool
client_fits sites clients c =
    elim (slice_get clients c) [
      | None ↦ true
      | Some line ↦ nat_lt line.site sites
          && not (list_any (λ (earlier : ClientLine). bytes_eq earlier.name line.name) (take c clients))
    ]

-- a tree has a seat for each site
unfoldable pub plan_fits : ℕ → List Plan → ℕ → Bool
plan_fits sites plans n =
    elim (slice_get plans n)
    [ None ↦ true | Some p ↦ elim p [ plan.Stamp ↦ true | plan.Tree tree ↦ length tree.seats == sites ] ]

-- the first fault: of the sizes, then of an item, of a client, of a plan
unfoldable pub flaw : Deployed → Option DeploymentFault
unfolding wrong_size
flaw d =
    option_or (option_map Size (wrong_size d))
    (option_or (option_map BadItem (first_failing (item_fits d.sites d.items) (length d.items)))
    (option_or (option_map BadClient (first_failing (client_fits d.sites d.clients) (length d.clients)))
    (option_map BadPlan (first_failing (plan_fits d.sites d.plans) (length d.plans)))))

-- a set has the names of some items, and no others
abbrev pub HaveItemNames : {S : Type 0} → HashSet (Bor (List ℕ)) S → List Item → Type 0
HaveItemNames names items =
    (name : List ℕ) → has_name names name ≡ list_any (λ (item : Item). bytes_eq item.name name) items

-- a set has the names of some clients, and no others
abbrev pub HaveClientLineNames : {S : Type 0} → HashSet (Bor (List ℕ)) S → List ClientLine → Type 0
HaveClientLineNames names clients =
    (name : List ℕ) → has_name names name ≡ list_any (λ (client : ClientLine). bytes_eq client.name name) clients
