-- The ways of a label through a serializer.
use Rattle.std.proofs.Common.{◌≡◌, ℕ, zero, suc, ◌<◌, ◌≤◌, ◌==◌, ◌&&◌, ◌||◌, ◌↔◌, nat_lt, Bool, true, List, [], ◌∷◌, ◌++◌, length, map, filter, get_or, ◌+◌, Option, Some, slice_get, unwrap_or, inl, inr, refl, sym, ap, ◌∙◌, subst, arith}
use Rattle.std.specs.List.{list_any, All}
use Rattle.std.specs.Bool.{IsTrue}
use Rattle.std.proofs.lemmas.Bool.{and_from, and_parts, cases_Bool, cases_eq, lt-ltb, ltb-true, or_cases, or_left, or_right}
use Rattle.std.proofs.lemmas.List.{length-append}
use Rattle.std.proofs.lemmas.Option.{get_or_from_slice_get, slice_get-get_or, slice_get_within}
use Rattle.sat_label.specs.declared.site_set.SiteSet.{SiteSet}
use Rattle.sat_label.proofs.Numbers.{get-front}
use Rattle.std.proofs.lemmas.List.Folds.{list_any-append}
use Rattle.std.proofs.lemmas.List.Elements.{All-nil, All-push, All-map, All-append, All-filter, filter_passes}
use Rattle.sat_label.proofs.Truth.{or-false, same-number, same-test}
use Rattle.sat_label.specs.declared.label.Label.{Label}
use Rattle.sat_label.specs.declared.node.NodeId.{NodeId}
use Rattle.sat_label.specs.declared.node.NodeId.TheVariants.{Site, Serializer}
use Rattle.sat_label.specs.Order.{node_eq}
use Rattle.sat_label.specs.Words.{below, bit}
use Rattle.sat_label.proofs.SameNodes.{same-node}
use Rattle.sat_sites.specs.Interested.{Interested, is_for}
use Rattle.sat_tree.specs.Shape.{TreeShape}
use Rattle.sat_tree.specs.Cut.{beyond, is_edge, neighbours, IsNode}
use Rattle.sat_serial.specs.Routes.{goes, leads, AreFarSides, IsFarSide, IsNeighbour, Placed}

-- ---- one of the numbers below n

any-more : (f : ℕ → Bool) (n : ℕ) → list_any f (below (suc n)) ≡ (list_any f (below n) || f n)
any-more f n = list_any-append f (below n) (n ∷ []) ∙ ap (λ b. list_any f (below n) || b) (or-false (f n))

pub some-below : (f : ℕ → Bool) (n : ℕ) → list_any f (below n) ≡ true → (k : ℕ) × (k < n) × (f k ≡ true)
some-below f zero e = absurd (cc)
some-below f (suc n) e = elim (or_cases (list_any f (below n)) (f n) (sym (any-more f n) ∙ e)) [
  | inl there ↦ let rest : (k : ℕ) × (k < n) × (f k ≡ true) = some-below f n there in (rest.0, omega arith, rest.2)
  | inr here ↦ (n, omega arith, here)
]

pub below-some : (f : ℕ → Bool) (n k : ℕ) → k < n → f k ≡ true → list_any f (below n) ≡ true
below-some f zero k less e = absurd (omega arith)
below-some f (suc n) k less e = any-more f n ∙ elim (cases_eq k n) [
  | inl same ↦ or_right (list_any f (below n)) (f n) (subst (λ (m : ℕ). f m ≡ true) same e)
  | inr other ↦ or_left (list_any f (below n)) (f n) (below-some f n k (omega arith) e)
]

-- ---- sets of sites that meet

meets-in : (b : Bool) (n sites : ℕ) (p q : ℕ → Bool) → n ≡ sites → (IsTrue b ↔ ((k : ℕ) × (p k ≡ true) × ((nat_lt k n && q k) ≡ true))) → b ≡ list_any (λ k. p k && q k) (below sites)
meets-in b n sites p q same both =
    same-test b (list_any (λ k. p k && q k) (below sites))
    (λ e. let some : (k : ℕ) × (p k ≡ true) × ((nat_lt k n && q k) ≡ true) = both.0 e in
    let parts : (nat_lt some.0 n ≡ true) × (q some.0 ≡ true) = and_parts (nat_lt some.0 n) (q some.0) some.2 in
    let low : some.0 < sites = subst (λ (m : ℕ). some.0 < m) same (ltb-true some.0 n parts.0) in
    below-some (λ k. p k && q k) sites some.0 low (and_from (p some.0) (q some.0) some.1 parts.1))
    (λ e. let some : (k : ℕ) × (k < sites) × ((p k && q k) ≡ true) = some-below (λ k. p k && q k) sites e in
    let parts : (p some.0 ≡ true) × (q some.0 ≡ true) = and_parts (p some.0) (q some.0) some.2 in
    let low : some.0 < n = subst (λ (m : ℕ). some.0 < m) (sym same) some.1 in
    both.1 (some.0, parts.0, and_from (nat_lt some.0 n) (q some.0) (lt-ltb some.0 n low) parts.1))

-- the targets meet the sites beyond an edge just where the label leads there
pub meets-leads : (b : Bool) (targets far : ℕ) (a : Interested) (t : TreeShape) (u v : NodeId) (l : Label) → a.sites ≡ length t.seats →
    ((k : ℕ) → bit targets k ≡ is_for a l k) → ((k : ℕ) → bit far k ≡ (nat_lt k (length t.seats) && beyond t u v (Site k))) →
    (IsTrue b ↔ ((k : ℕ) × (bit targets k ≡ true) × (bit far k ≡ true))) → b ≡ leads a t u v l
unfolding leads
meets-leads b targets far a t u v l sites is-target is-beyond both =
    meets-in b (length t.seats) a.sites (is_for a l) (λ k. beyond t u v (Site k)) (sym sites) (
      (λ e. let some : (k : ℕ) × (bit targets k ≡ true) × (bit far k ≡ true) = both.0 e in
          (some.0, sym (is-target some.0) ∙ some.1, sym (is-beyond some.0) ∙ some.2)),
      (λ some. both.1 (some.0, is-target some.0 ∙ some.1, is-beyond some.0 ∙ some.2)),
    )

-- ---- neighbours

pub all-below : (n m : ℕ) → n ≤ m → All (λ k. k < m) (below n)
all-below zero m le = All-nil (λ k. k < m)
all-below (suc n) m le = All-push (λ k. k < m) (below n) n (all-below n m (omega arith)) (omega arith)

nodes-of : TreeShape → List NodeId
nodes-of t = map Site (below (length t.seats)) ++ map Serializer (below (length t.parents))

all-nodes : (t : TreeShape) → All (IsNode t) (nodes-of t)
unfolding nodes-of
all-nodes t =
    All-append (IsNode t) (map Site (below (length t.seats))) (map Serializer (below (length t.parents)))
    (All-map (IsNode t) Site (below (length t.seats)) (all-below (length t.seats) (length t.seats) (omega arith)))
    (All-map (IsNode t) Serializer (below (length t.parents)) (all-below (length t.parents) (length t.parents) (omega arith)))

-- the neighbours are nodes that an edge leads to
pub all-neighbours : (t : TreeShape) (z : ℕ) → All (IsNeighbour t z) (neighbours t z)
unfolding neighbours nodes-of
all-neighbours t z = λ k d within. record {
  node = All-filter (λ n. is_edge t (Serializer z) n) (IsNode t) (nodes-of t) (all-nodes t) k d within;
  edge = filter_passes (λ n. is_edge t (Serializer z) n) (nodes-of t) k d within;
}

any-filter : (v : NodeId) (p : NodeId → Bool) (xs : List NodeId) → p v ≡ true → list_any (node_eq v) xs ≡ true → list_any (node_eq v) (filter p xs) ≡ true
any-filter v p [] passes e = absurd (cc)
any-filter v p (x ∷ xs) passes e = elim (or_cases (node_eq v x) (list_any (node_eq v) xs) e) [
  | inl here ↦
      let same : v ≡ x = same-node v x here in
      let px : p x ≡ true = subst (λ (y : NodeId). p y ≡ true) same passes in
      rw px (or_left (node_eq v x) (list_any (node_eq v) (filter p xs)) here)
  | inr there ↦
      let rest : list_any (node_eq v) (filter p xs) ≡ true = any-filter v p xs passes there in
      elim (cases_Bool (p x)) [
        | inl px ↦ rw px (or_right (node_eq v x) (list_any (node_eq v) (filter p xs)) rest)
        | inr px ↦ rw px rest
      ]
]

any-site : (i : ℕ) (ks : List ℕ) → list_any (node_eq (Site i)) (map Site ks) ≡ list_any (λ k. i == k) ks
any-site i [] = refl
any-site i (k ∷ ks) = ap (λ b. (i == k) || b) (any-site i ks)

any-serializer : (y : ℕ) (ks : List ℕ) → list_any (node_eq (Serializer y)) (map Serializer ks) ≡ list_any (λ k. y == k) ks
any-serializer y [] = refl
any-serializer y (k ∷ ks) = ap (λ b. (y == k) || b) (any-serializer y ks)

any-node : (t : TreeShape) (v : NodeId) → IsNode t v → list_any (node_eq v) (nodes-of t) ≡ true
unfolding nodes-of
any-node t (Site i) node =
    list_any-append (node_eq (Site i)) (map Site (below (length t.seats))) (map Serializer (below (length t.parents)))
    ∙ or_left (list_any (node_eq (Site i)) (map Site (below (length t.seats)))) (list_any (node_eq (Site i)) (map Serializer (below (length t.parents))))
    (any-site i (below (length t.seats)) ∙ below-some (λ k. i == k) (length t.seats) i node (same-number i))
any-node t (Serializer y) node =
    list_any-append (node_eq (Serializer y)) (map Site (below (length t.seats))) (map Serializer (below (length t.parents)))
    ∙ or_right (list_any (node_eq (Serializer y)) (map Site (below (length t.seats)))) (list_any (node_eq (Serializer y)) (map Serializer (below (length t.parents))))
    (any-serializer y (below (length t.parents)) ∙ below-some (λ k. y == k) (length t.parents) y node (same-number y))

-- and each such node is among them
pub is-among : (t : TreeShape) (z : ℕ) (v : NodeId) → IsNeighbour t z v → list_any (node_eq v) (neighbours t z) ≡ true
unfolding neighbours nodes-of
is-among t z v n = any-filter v (λ m. is_edge t (Serializer z) m) (nodes-of t) n.edge (any-node t v n.node)

pub neighbour-at : (t : TreeShape) (z : ℕ) (nodes : List NodeId) (k : ℕ) (d : NodeId) → nodes ≡ neighbours t z → k < length nodes → IsNeighbour t z (get_or nodes k d)
neighbour-at t z nodes k d same within = subst (λ (vs : List NodeId). All (IsNeighbour t z) vs) (sym same) (all-neighbours t z) k d within

-- ---- the sites beyond each neighbour, of one neighbour more

get-last : {X : Type 0} (xs : List X) (x : X) → slice_get (xs ++ x ∷ []) (length xs) ≡ Some x
get-last [] x = refl
get-last (y ∷ ys) x = get-last ys x

pub far-more : (t : TreeShape) (z : ℕ) (nodes : List NodeId) (sides : List SiteSet) (i : ℕ) (d : NodeId) (side : SiteSet) → length sides ≡ i → i < length nodes →
    IsFarSide t z (get_or nodes i d) side →
    ((k : ℕ) (v : NodeId) (s : SiteSet) → slice_get nodes k ≡ Some v → slice_get sides k ≡ Some s → IsFarSide t z v s) →
    (k : ℕ) (v : NodeId) (s : SiteSet) → slice_get nodes k ≡ Some v → slice_get (sides ++ side ∷ []) k ≡ Some s → IsFarSide t z v s
far-more t z nodes sides i d side size less is had k v s at has = elim (cases_eq k i) [
  | inl same ↦
      let side-is : side ≡ s = ap (λ (o : Option SiteSet). unwrap_or o side) (sym (get-last sides side) ∙ (ap (slice_get (sides ++ side ∷ [])) (size ∙ sym same) ∙ has)) in
      let node-is : get_or nodes i d ≡ v = ap (λ (n : ℕ). get_or nodes n d) (sym same) ∙ get_or_from_slice_get nodes k v d at in
      subst (λ (w : NodeId). IsFarSide t z w s) node-is (subst (λ (x : SiteSet). IsFarSide t z (get_or nodes i d) x) side-is is)
  | inr other ↦
      let within : k < length (sides ++ side ∷ []) = slice_get_within (sides ++ side ∷ []) k s has in
      let low : k < length sides = omega (arith, length-append sides (side ∷ [])) in
      had k v s at (sym (get-front sides (side ∷ []) k low) ∙ has)
]

pub far-at : (t : TreeShape) (z : ℕ) (nodes : List NodeId) (sides : List SiteSet) (i : ℕ) (d : NodeId) (e : SiteSet) → nodes ≡ neighbours t z → AreFarSides t z (neighbours t z) sides → i < length nodes → IsFarSide t z (get_or nodes i d) (get_or sides i e)
far-at t z nodes sides i d e same far less =
    let in-sides : i < length sides = omega (arith, far.size, ap length same) in
    far.each i (get_or nodes i d) (get_or sides i e) (ap (λ (vs : List NodeId). slice_get vs i) (sym same) ∙ slice_get-get_or nodes i d less) (slice_get-get_or sides i e in-sides)

-- what the test answers of the next neighbour
pub asked : (a : Interested) (p q : Placed) (sides : List SiteSet) (nodes : List NodeId) (i : ℕ) (d : NodeId) (e : SiteSet) (u : NodeId) (l : Label) (b : Bool) (targets side : SiteSet) →
    q ≡ p → AreFarSides q.tree q.number (neighbours q.tree q.number) sides → nodes ≡ neighbours p.tree p.number → i < length nodes → side ≡ get_or sides i e →
    a.sites ≡ length p.tree.seats → ((k : ℕ) → bit targets.bits k ≡ is_for a l k) →
    ((c : Interested) (t : TreeShape) (z : ℕ) (m : Label) → c.sites ≡ length t.seats → IsFarSide t z (get_or nodes i d) side → ((k : ℕ) → bit targets.bits k ≡ is_for c m k) → b ≡ goes c t z u m (get_or nodes i d)) →
    b ≡ goes a p.tree p.number u l (get_or nodes i d)
asked a p q sides nodes i d e u l b targets side same far is within here sites for answers =
    answers a p.tree p.number l sites
    (subst (λ (s : SiteSet). IsFarSide p.tree p.number (get_or nodes i d) s) (sym here)
    (far-at p.tree p.number nodes sides i d e is (subst (λ (x : Placed). AreFarSides x.tree x.number (neighbours x.tree x.number) sides) same far) within))
    for
