-- The header of a large script has no flaw.
use Rattle.std.proofs.Common.{ℕ, zero, suc, ◌≡◌, ◌<◌, ◌^◌, Bool, true, false, List, [], ◌∷◌, length, map, take, None, refl, arith}
use Rattle.std.specs.List.{list_any}
use Rattle.std.specs.Str.{bytes_eq}
use Rattle.std.specs.Fmt.{decimal}
use Rattle.std.proofs.lemmas.Fmt.{decimal_injective}
use Rattle.std.proofs.lemmas.List.{take-map}
use Rattle.std.proofs.lemmas.Bool.{lt-ltb}
use Rattle.std.proofs.lemmas.Slice.Eq.{bytes_eq-Decides}
use Rattle.sat_label.specs.Words.{are_sites, below, first_failing}
use Rattle.sat_label.proofs.First.{first_none}
use Rattle.sat_act.specs.declared.deployment.Item.{Item}
use Rattle.sat_act.specs.declared.deployment.ClientLine.{ClientLine}
use Rattle.sat_act.specs.declared.deployment.Plan.{Plan}
use Rattle.sat_act.specs.declared.deployment.Plan.TheVariants as plan
use Rattle.sat_act.specs.Flaw.{flaw, wrong_size, item_fits, client_fits, plan_fits}
use Rattle.sat_act.specs.Limits.{IsDeployment, HaveTrees}
use Rattle.sat_act.proofs.Sound.{sound}
use Rattle.sat_settle.specs.LoadHeader.{first_tree, second_tree, load_item, load_client, load_deployment}
use Rattle.sat_settle.proofs.LoadLists.{at-below, count-below, take-below, any-below, none-fails}
use Rattle.sat_settle.proofs.LoadTrees.{first_small, second_small}

-- ---- names

differ : (letter j k : ℕ) → j < k → k < 2 ^ 64 → bytes_eq (letter ∷ decimal j) (letter ∷ decimal k) ≡ false
differ letter j k less small = go (bytes_eq (letter ∷ decimal j) (letter ∷ decimal k)) refl
  where
    tails : letter ∷ decimal j ≡ letter ∷ decimal k → decimal j ≡ decimal k
    tails same = cc

    go : (b : Bool) → bytes_eq (letter ∷ decimal j) (letter ∷ decimal k) ≡ b → b ≡ false
    go false is = refl
    go true is =
        let same = (bytes_eq-Decides (letter ∷ decimal j) (letter ∷ decimal k)).0 is in
        let e = decimal_injective j k (omega arith) small (tails same) in
        absurd (omega arith)

new-item : (x : ℕ) → x < 200 → list_any (λ (earlier : Item). bytes_eq earlier.name (load_item x).name) (take x (map load_item (below 200))) ≡ false
unfolding load_item
new-item x less =
    rw (take-map load_item x (below 200), take-below 200 x (omega arith))
    (any-below (λ (earlier : Item). bytes_eq earlier.name (load_item x).name) load_item x (λ k under. differ 120 k x under (omega arith)))

new-client : (c : ℕ) → c < 40 → list_any (λ (earlier : ClientLine). bytes_eq earlier.name (load_client c).name) (take c (map load_client (below 40))) ≡ false
unfolding load_client
new-client c less =
    rw (take-map load_client c (below 40), take-below 40 c (omega arith))
    (any-below (λ (earlier : ClientLine). bytes_eq earlier.name (load_client c).name) load_client c (λ k under. differ 99 k c under (omega arith)))

-- ---- items, clients and plans

all-kept : first_failing (λ x. are_sites 5 (load_item x).replicas.bits) 200 ≡ None
unfolding load_item first_failing
all-kept = refl

kept : (x : ℕ) → x < 200 → are_sites 5 (load_item x).replicas.bits ≡ true
kept x less = first_none (λ x. are_sites 5 (load_item x).replicas.bits) 200 x all-kept less

item-fits : (x : ℕ) → x < 200 → item_fits 5 (map load_item (below 200)) x ≡ true
unfolding item_fits
item-fits x less = rw (at-below load_item 200 x less, kept x less, new-item x less) refl

seated : (c : ℕ) → c < 40 → (load_client c).site < 5
unfolding load_client
seated c less = omega arith

client-fits : (c : ℕ) → c < 40 → client_fits 5 (map load_client (below 40)) c ≡ true
unfolding client_fits
client-fits c less = rw (at-below load_client 40 c less, lt-ltb _ _ (seated c less), new-client c less) refl

plans : List Plan
plans = plan.Tree first_tree ∷ plan.Tree second_tree ∷ []

plans-fit : first_failing (plan_fits 5 plans) 2 ≡ None
unfolding plan_fits first_failing plans
plans-fit = refl

items : first_failing (item_fits 5 (map load_item (below 200))) (length (map load_item (below 200))) ≡ None
items = rw (count-below load_item 200) (none-fails (item_fits 5 (map load_item (below 200))) 200 item-fits)

clients : first_failing (client_fits 5 (map load_client (below 40))) (length (map load_client (below 40))) ≡ None
clients = rw (count-below load_client 40) (none-fails (client_fits 5 (map load_client (below 40))) 40 client-fits)

sizes : wrong_size load_deployment ≡ None
unfolding wrong_size load_deployment
sizes = refl

pub no_flaw : flaw load_deployment ≡ None
unfolding flaw load_deployment plans
no_flaw = rw (sizes, items, clients, plans-fit) refl

trees : HaveTrees plans
unfolding plans
trees zero tree at = let same : first_tree ≡ tree = cc in rw (← same) first_small
trees (suc zero) tree at = let same : second_tree ≡ tree = cc in rw (← same) second_small
trees (suc (suc n)) tree at = absurd (cc)

pub load_is_deployment : IsDeployment load_deployment
unfolding load_deployment plans
load_is_deployment = sound load_deployment no_flaw trees

-- the same of lists that are those of a large script
pub no_flaw_of : (items : List Item) (clients : List ClientLine) (plans : List Plan)
    → items ≡ map load_item (below 200) → clients ≡ map load_client (below 40) → plans ≡ plan.Tree first_tree ∷ plan.Tree second_tree ∷ []
    → flaw (record { format = 1; sites = 5; gears = 4; items = items; clients = clients; plans = plans }) ≡ None
unfolding load_deployment
no_flaw_of items clients plans one two three = rw (one, two, three) no_flaw
