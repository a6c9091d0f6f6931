-- How many nodes and sessions a cluster has.
use Rattle.std.specs.Prelude.{◌≡◌, ◌<◌, ◌≤◌, ◌+◌, ◌*◌, ◌^◌, ℕ, Bool, false, List, length, map, replicate}
use Rattle.std.proofs.Common.{refl, sym, ap, subst, ◌∙◌, arith}
use Rattle.std.proofs.lemmas.List.{length-map, length-replicate}
use Rattle.std.proofs.lemmas.Nat.{mul-lt}
use Rattle.sat_label.proofs.Numbers.{length-below}
use Rattle.sat_label.specs.declared.node.NodeName.{NodeName}
use Rattle.sat_label.specs.declared.node.NodeName.TheVariants.{Site as AtSite}
use Rattle.sat_label.specs.Words.{below}
use Rattle.sat_act.specs.Deployed.{Deployed}
use Rattle.sat_act.specs.Limits.{IsDeployment}
use Rattle.sat_node.specs.Links.{HeldSeen}
use Rattle.sat_opened.specs.Opened.{name_in, serial_names}
use Rattle.sat_parts.specs.Layout.{gear_names}
use Rattle.sat_cluster.specs.Clusters.{IsCluster, operator_number}

pub few_marks : (d own : Deployed) (given : List Bool) → own ≡ d → IsDeployment own → length given ≡ operator_number d + 1 → length given < 2 ^ 16
few_marks d own given e is marks =
    let few = is.few_clients in
    let same : length own.clients ≡ length d.clients = ap (λ (d : Deployed). length d.clients) e in
    omega arith

count-named : {M I A : Type 0} (hs : List (HeldSeen M I A)) (names : List NodeName) → map name_in hs ≡ names → length hs ≡ length names
count-named hs names e = sym (length-map hs name_in) ∙ ap (λ (ns : List NodeName). length ns) e

of-own : {M I A K J B P Q C : Type 0} (own : Deployed) (hubs : List (HeldSeen M I A)) (gears : List (HeldSeen P Q C)) (serials : List (HeldSeen K J B)) (n g m : ℕ) (names : List NodeName) (given : List Bool) →
    map name_in hubs ≡ map AtSite (below own.sites) → map name_in gears ≡ gear_names own → map name_in serials ≡ serial_names own → n ≡ length hubs → g ≡ length gears → m ≡ length serials → names ≡ map name_in serials → given ≡ replicate (length own.clients + 1) false →
    IsCluster own own n g m names given
of-own own hubs gears serials n g m names given a b s c e k w marked = record {
  deployment = refl;
  hub_locks = c ∙ (count-named hubs (map AtSite (below own.sites)) a ∙ (length-map (below own.sites) AtSite ∙ length-below own.sites));
  gear_locks = e ∙ count-named gears (gear_names own) b;
  serial_locks = k ∙ count-named serials (serial_names own) s;
  names_are = w ∙ s;
  marks = ap (λ (bs : List Bool). length bs) marked ∙ length-replicate (length own.clients + 1) false;
}

pub is_cluster : {M I A K J B P Q C : Type 0} (d own : Deployed) (hubs : List (HeldSeen M I A)) (gears : List (HeldSeen P Q C)) (serials : List (HeldSeen K J B)) (n g m : ℕ) (names : List NodeName) (given : List Bool) → d ≡ own →
    map name_in hubs ≡ map AtSite (below own.sites) → map name_in gears ≡ gear_names own → map name_in serials ≡ serial_names own → n ≡ length hubs → g ≡ length gears → m ≡ length serials → names ≡ map name_in serials → given ≡ replicate (length own.clients + 1) false →
    IsCluster d own n g m names given
is_cluster d own hubs gears serials n g m names given e a b s c f k w marked = subst (λ (d : Deployed). IsCluster d own n g m names given) (sym e) (of-own own hubs gears serials n g m names given a b s c f k w marked)

-- ---- room for nodes, by their names

pub room_gears : {M I A : Type 0} (d own : Deployed) (gears : List (HeldSeen M I A)) (n : ℕ) → d ≡ own → map name_in gears ≡ gear_names own → n ≡ length gears → length (gear_names d) ≤ n
room_gears d own gears n e a c =
    let many : length gears ≡ length (gear_names own) = count-named gears (gear_names own) a in
    let same : length (gear_names d) ≡ length (gear_names own) = ap (λ (d : Deployed). length (gear_names d)) e in
    omega arith

-- ---- the places of gears

pub place_small : (a b : ℕ) → a < 2 ^ 16 → b < 2 ^ 16 → a * b < 2 ^ 32
place_small a b la lb = (let h : a * b < 2 ^ 16 * 2 ^ 16 = mul-lt a b (2 ^ 16) (2 ^ 16) la lb in omega arith)
