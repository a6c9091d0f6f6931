-- Lists of edges and pairs.
use Rattle.std.proofs.Common.{ℕ, zero, suc, ◌≡◌, ◌<◌, ◌≤◌, ◌+◌, ◌*◌, Bool, true, false, List, [], ◌∷◌, ◌++◌, length, map, filter, take, slice_get, Some, refl, arith, ap, add-one, length-append}
use Rattle.std.specs.List.{All}
use Rattle.std.proofs.lemmas.List.{length-map}
use Rattle.std.proofs.lemmas.List.Elements.{All-nil, All-cons, All-head, All-tail, All-append, All-map, All-push, All-weaker}
use Rattle.sat_label.specs.declared.node.NodeId.TheVariants.{Site, Serializer}
use Rattle.sat_label.specs.declared.limits.TheConstants.{MOST_SERIALIZERS}
use Rattle.sat_label.specs.Words.{below}
use Rattle.sat_label.proofs.Numbers.{length-below}
use Rattle.sat_tree.specs.Shape.{TreeShape}
use Rattle.sat_tree.specs.Cut.{neighbours, is_edge, IsNode}
use Rattle.sat_tree.specs.Flaw.{IsSmallTree}
use Rattle.sat_delay.specs.declared.read.TheConstants.{MOST_TABLE_SITES}
use Rattle.sat_plan.specs.declared.limits.TheConstants.{MOST_EDGES, MOST_PAIRS}
use Rattle.sat_plan.specs.Config.{edge_of, edges_below, edges}
use Rattle.sat_plan.specs.Mismatch.{pair_of, is_other, pairs_below, pairs}
use Rattle.sat_plan.specs.Drafts.{IsEdgeOf, IsPairBelow}

length-filter-le : {X : Type 0} (p : X → Bool) (xs : List X) → length (filter p xs) ≤ length xs
length-filter-le p [] = omega arith
length-filter-le p (x ∷ xs) = go (p x) refl (length-filter-le p xs)
  where
    go : (b : Bool) → p x ≡ b → length (filter p xs) ≤ length xs → length (filter p (x ∷ xs)) ≤ suc (length xs)
    go true is most = rw (is, filter) (omega arith)
    go false is most = rw (is, filter) (omega arith)

-- what a filter lets through passes its test
All-filtered : {X : Type 0} (p : X → Bool) (P Q : X → Type 0) → ((x : X) → P x → p x ≡ true → Q x) → (xs : List X) → All P xs → All Q (filter p xs)
All-filtered p P Q then [] all = All-nil Q
All-filtered p P Q then (x ∷ xs) all = go (p x) refl (All-filtered p P Q then xs (All-tail P x xs all))
  where
    go : (b : Bool) → p x ≡ b → All Q (filter p xs) → All Q (filter p (x ∷ xs))
    go true is rest = rw (is, filter) (All-cons Q x (filter p xs) (then x (All-head P x xs all) is) rest)
    go false is rest = rw (is, filter) rest

All-below : (n : ℕ) → All (λ k. k < n) (below n)
All-below zero = All-nil (λ k. k < 0)
All-below (suc n) = All-push (λ k. k < suc n) (below n) n (All-weaker (λ k. k < n) (λ k. k < suc n) (λ k under. omega arith) (below n) (All-below n)) (omega arith)

-- ---- edges

pub edges_start : (t : TreeShape) → edges_below t 0 ≡ []
unfolding edges_below
edges_start t = refl

pub edges_more : (t : TreeShape) (z : ℕ) → edges_below t (z + 1) ≡ edges_below t z ++ map (edge_of z) (neighbours t z)
unfolding edges_below
edges_more t z = rw (add-one, edges_below) refl

neighbours_few : (t : TreeShape) (z : ℕ) → length t.seats ≤ MOST_TABLE_SITES → length t.parents ≤ MOST_SERIALIZERS → length (neighbours t z) ≤ MOST_TABLE_SITES + MOST_SERIALIZERS
unfolding neighbours
neighbours_few t z seats parents =
    let most = length-filter-le (is_edge t (Serializer z)) (map Site (below (length t.seats)) ++ map Serializer (below (length t.parents))) in
    let whole = length-append (map Site (below (length t.seats))) (map Serializer (below (length t.parents))) in
    let sites = length-map (below (length t.seats)) Site in
    let serializers = length-map (below (length t.parents)) Serializer in
    omega (arith, length-below (length t.seats), length-below (length t.parents))

edges_few_below : (t : TreeShape) (z : ℕ) → length t.seats ≤ MOST_TABLE_SITES → length t.parents ≤ MOST_SERIALIZERS → length (edges_below t z) ≤ z * (MOST_TABLE_SITES + MOST_SERIALIZERS)
unfolding edges_below
edges_few_below t zero seats parents = omega arith
edges_few_below t (suc z) seats parents =
    let front = edges_few_below t z seats parents in
    let here = neighbours_few t z seats parents in
    let whole = length-append (edges_below t z) (map (edge_of z) (neighbours t z)) in
    let mapped = length-map (neighbours t z) (edge_of z) in
    omega arith

pub edges_few : (t : TreeShape) → IsSmallTree t → length t.seats ≤ MOST_TABLE_SITES → length (edges t) ≤ MOST_EDGES
unfolding edges
edges_few t small seats = let most = edges_few_below t (length t.parents) seats small.few_serializers in let few = small.few_serializers in omega arith

neighbours_are : (t : TreeShape) (z : ℕ) → z < length t.parents → All (λ n. IsEdgeOf t (edge_of z n)) (neighbours t z)
unfolding neighbours
neighbours_are t z within =
    All-filtered (is_edge t (Serializer z)) (IsNode t) (λ n. IsEdgeOf t (edge_of z n)) (λ n node is. record { from = within; to = node; edge = is }) _
    (All-append (IsNode t) (map Site (below (length t.seats))) (map Serializer (below (length t.parents)))
    (All-map (IsNode t) Site (below (length t.seats)) (All-below (length t.seats)))
    (All-map (IsNode t) Serializer (below (length t.parents)) (All-below (length t.parents))))

edges_are_below : (t : TreeShape) (z : ℕ) → z ≤ length t.parents → All (IsEdgeOf t) (edges_below t z)
unfolding edges_below
edges_are_below t zero within = All-nil (IsEdgeOf t)
edges_are_below t (suc z) within =
    All-append (IsEdgeOf t) (edges_below t z) (map (edge_of z) (neighbours t z)) (edges_are_below t z (omega arith))
    (All-map (IsEdgeOf t) (edge_of z) (neighbours t z) (neighbours_are t z (omega arith)))

pub edges_are : (t : TreeShape) → All (IsEdgeOf t) (edges t)
unfolding edges
edges_are t = edges_are_below t (length t.parents) (omega arith)

-- ---- pairs

pub pairs_start : (sites : ℕ) → pairs_below sites 0 ≡ []
unfolding pairs_below
pairs_start sites = refl

pub pairs_more : (sites i : ℕ) → pairs_below sites (i + 1) ≡ pairs_below sites i ++ map (pair_of i) (filter (is_other i) (below sites))
unfolding pairs_below
pairs_more sites i = rw (add-one, pairs_below) refl

pairs_are_below : (sites i : ℕ) → i ≤ sites → All (IsPairBelow sites) (pairs_below sites i)
unfolding pairs_below
pairs_are_below sites zero within = All-nil (IsPairBelow sites)
pairs_are_below sites (suc i) within =
    All-append (IsPairBelow sites) (pairs_below sites i) (map (pair_of i) (filter (is_other i) (below sites))) (pairs_are_below sites i (omega arith))
    (All-map (IsPairBelow sites) (pair_of i) (filter (is_other i) (below sites))
    (All-filtered (is_other i) (λ k. k < sites) (λ k. IsPairBelow sites (pair_of i k)) (λ k under other. record { from = omega arith; to = under }) (below sites) (All-below sites)))

pub pairs_are : (sites : ℕ) → All (IsPairBelow sites) (pairs sites)
unfolding pairs
pairs_are sites = pairs_are_below sites sites (omega arith)

pairs_few_below : (sites i : ℕ) → sites ≤ MOST_TABLE_SITES → length (pairs_below sites i) ≤ i * MOST_TABLE_SITES
unfolding pairs_below
pairs_few_below sites zero few = omega arith
pairs_few_below sites (suc i) few =
    let front = pairs_few_below sites i few in
    let whole = length-append (pairs_below sites i) (map (pair_of i) (filter (is_other i) (below sites))) in
    let mapped = length-map (filter (is_other i) (below sites)) (pair_of i) in
    let filtered = length-filter-le (is_other i) (below sites) in
    omega (arith, length-below sites)

pub pairs_few : (sites : ℕ) → sites ≤ MOST_TABLE_SITES → length (pairs sites) ≤ MOST_PAIRS
unfolding pairs
pairs_few sites few = let most = pairs_few_below sites sites few in omega arith

pub take_get : {X : Type 0} (xs : List X) (n : ℕ) (x : X) → Some x ≡ slice_get xs n → take (n + 1) xs ≡ take n xs ++ x ∷ []
take_get [] n x is = absurd (cc)
take_get (y ∷ xs) zero x is = let same : x ≡ y = cc in rw same refl
take_get (y ∷ xs) (suc n) x is = let e : suc n + 1 ≡ suc (n + 1) = omega arith in rw e (ap (λ ys. y ∷ ys) (take_get xs n x is))
