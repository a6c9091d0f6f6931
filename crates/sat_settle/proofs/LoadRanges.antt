-- Each act of a large script is one of its deployment.
use Rattle.std.proofs.Common.{ℕ, zero, suc, ◌≡◌, ◌≢◌, ◌<◌, ◌≤◌, ◌+◌, ◌/◌, ◌%◌, ◌^◌, ◌==◌, ◌&&◌, Bool, true, false, nat_lt, List, [], ◌∷◌, length, Some, slice_get, unwrap_or, refl, arith, lit<}
use Rattle.std.specs.List.{list_all}
use Rattle.std.proofs.Math.Nat.{mod-lt}
use Rattle.std.proofs.lemmas.Bool.{and_parts, ltb-true}
use Rattle.std.proofs.lemmas.Bool.Decides.{nat_tests}
use Rattle.sat_label.specs.declared.node.NodeId.{NodeId}
use Rattle.sat_label.specs.declared.node.NodeId.TheVariants.{Site, Serializer}
use Rattle.sat_label.proofs.Truth.{last-timestamp}
use Rattle.sat_tree.specs.Shape.{TreeShape}
use Rattle.sat_tree.specs.Cut.{neighbours, is_edge, IsNode}
use Rattle.sat_act.specs.declared.act.Act.TheVariants as act
use Rattle.sat_act.specs.Parts.{tree_of}
use Rattle.sat_act.specs.Ranges.{IsActOf}
use Rattle.sat_settle.specs.declared.load_rows.Row.{Row}
use Rattle.sat_settle.specs.declared.load_rows.Row.TheVariants as row
use Rattle.sat_settle.specs.LoadDraws.{number_of, first, second, third}
use Rattle.sat_settle.specs.LoadHeader.{first_tree, second_tree, load_tree, load_client, load_item, load_deployment}
use Rattle.sat_settle.specs.LoadActs.{neighbour, hop_act, bulk_act, row_act}
use Rattle.sat_settle.proofs.LoadLists.{count-below}
use Rattle.sat_settle.proofs.LoadTexts.{value_text}
use Rattle.sat_settle.proofs.LoadTrees.{each-tree, some_serializer, some_neighbour}

drawn : (x m : ℕ) → 0 < m → number_of x m < m
unfolding number_of
drawn x m some = mod-lt (x / 2 ^ 33) some

client : (x : ℕ) → number_of x 40 < length load_deployment.clients
unfolding load_deployment
client x = let e = count-below load_client 40 in let less = drawn x 40 (lit< tt) in omega arith

item : (x : ℕ) → number_of x 200 < length load_deployment.items
unfolding load_deployment
item x = let e = count-below load_item 200 in let less = drawn x 200 (lit< tt) in omega arith

-- ---- neighbours

is-node : TreeShape → NodeId → Bool
is-node t (Site i) = nat_lt i (length t.seats)
is-node t (Serializer z) = nat_lt z (length t.parents)

node-is : (t : TreeShape) (u : NodeId) → is-node t u ≡ true → IsNode t u
unfolding is-node
node-is t (Site i) is = ltb-true _ _ is
node-is t (Serializer z) is = ltb-true _ _ is

is-next : TreeShape → ℕ → NodeId → Bool
is-next t z u = is-node t u && is_edge t u (Serializer z)

first-next : (z : ℕ) → z < 3 → list_all (is-next first_tree z) (neighbours first_tree z) ≡ true
unfolding neighbours is-next is-node
first-next zero less = refl
first-next (suc zero) less = refl
first-next (suc (suc zero)) less = refl
first-next (suc (suc (suc z))) less = absurd (omega arith)

second-next : (z : ℕ) → z < 2 → list_all (is-next second_tree z) (neighbours second_tree z) ≡ true
unfolding neighbours is-next is-node
second-next zero less = refl
second-next (suc zero) less = refl
second-next (suc (suc z)) less = absurd (omega arith)

all-next : (epoch z : ℕ) → z < length (load_tree epoch).parents → list_all (is-next (load_tree epoch) z) (neighbours (load_tree epoch) z) ≡ true
all-next epoch z = each-tree (λ t. z < length t.parents → list_all (is-next t z) (neighbours t z) ≡ true) epoch (first-next z) (second-next z)

at-place : {X : Type 0} (p : X → Bool) (xs : List X) (k : ℕ) (other : X) → list_all p xs ≡ true → k < length xs → p (unwrap_or (slice_get xs k) other) ≡ true
at-place p [] k other all less = absurd (omega arith)
at-place p (x ∷ xs) zero other all less = (and_parts (p x) (list_all p xs) all).0
at-place p (x ∷ xs) (suc k) other all less = at-place p xs k other (and_parts (p x) (list_all p xs) all).1 (omega arith)

neighbour-next : (epoch z place : ℕ) → z < length (load_tree epoch).parents → place < length (neighbours (load_tree epoch) z) → is-next (load_tree epoch) z (neighbour (load_tree epoch) z place) ≡ true
unfolding neighbour
neighbour-next epoch z place within less = at-place (is-next (load_tree epoch) z) (neighbours (load_tree epoch) z) place (Site 0) (all-next epoch z within) less

epoch-tree : (epoch : ℕ) → 1 ≤ epoch → epoch ≤ 2 → tree_of load_deployment epoch ≡ Some (load_tree epoch)
unfolding tree_of load_deployment load_tree
epoch-tree zero one two = absurd (omega arith)
epoch-tree (suc zero) one two = refl
epoch-tree (suc (suc zero)) one two = refl
epoch-tree (suc (suc (suc e))) one two = absurd (omega arith)

hop-in-range : (epoch z place : ℕ) → 1 ≤ epoch → epoch ≤ 2 → z < length (load_tree epoch).parents → place < length (neighbours (load_tree epoch) z)
    → IsActOf load_deployment (act.Hop epoch (neighbour (load_tree epoch) z place) z)
unfolding is-next
hop-in-range epoch z place one two within less =
    let u = neighbour (load_tree epoch) z place in
    let both = and_parts (is-node (load_tree epoch) u) (is_edge (load_tree epoch) u (Serializer z)) (neighbour-next epoch z place within less) in
    (load_tree epoch, one, epoch-tree epoch one two, node-is (load_tree epoch) u both.0, both.1)

hop : (x : ℕ) → IsActOf load_deployment (hop_act x)
hop x =
    let epoch : first x 2 < 2 = drawn _ 2 (lit< tt) in
    let to = drawn _ (length (load_tree (1 + first x 2)).parents) (some_serializer (1 + first x 2)) in
    let place = drawn _ (length (neighbours (load_tree (1 + first x 2)) (second x (length (load_tree (1 + first x 2)).parents)))) (some_neighbour (1 + first x 2) _ to) in
    hop-in-range (1 + first x 2) _ _ (omega arith) (omega arith) to place

-- ---- lanes

apart : (i c : ℕ) → i < 5 → c < 4 → ((i == (i + 1 + c) % 5) ≡ false)
apart i c small few = other i ((i + 1 + c) % 5) (omega arith)
  where
    other : (i j : ℕ) → i ≢ j → (i == j) ≡ false
    other i j ne = grind (arith, nat_tests)

bulk : (x : ℕ) → IsActOf load_deployment (bulk_act x)
unfolding load_deployment
bulk x =
    let from = drawn _ 5 (lit< tt) in
    let gear = drawn _ 4 (lit< tt) in
    let on = drawn _ 4 (lit< tt) in
    ((from, omega arith, apart (first x 5) (third x 4) from on), gear, tt)

-- ---- the table

site : (x : ℕ) → number_of x 5 < load_deployment.sites
unfolding load_deployment
site x = drawn x 5 (lit< tt)

tick : (k x : ℕ) → k ≤ 199000 → IsActOf load_deployment (act.Tick (first x 5) (second x 4) k)
unfolding load_deployment
tick k x few = let e = last-timestamp in (site _, drawn _ 4 (lit< tt), omega arith)

pub row-in-range : (r : Row) (k x : ℕ) → k ≤ 199000 → IsActOf load_deployment (row_act r k x)
unfolding row_act
row-in-range row.Write k x few = (client _, item _, value_text k (omega arith))
row-in-range row.Read k x few = (client _, item _)
row-in-range row.Move k x few = (client _, site _)
row-in-range row.Attach k x few = (client _, site _)
row-in-range row.Tick k x few = tick k x few
row-in-range row.Gather k x few = site _
row-in-range row.Emit k x few = site _
row-in-range row.Pulse k x few = site _
row-in-range row.Hop k x few = hop x
row-in-range row.Bulk k x few = bulk x
row-in-range row.Turn k x few = site _

pub close-in-range : (i : ℕ) → i < 5 → IsActOf load_deployment (act.Close i)
unfolding load_deployment
close-in-range i less = less
