-- Paths that are made from both ends.
use Rattle.std.proofs.Common.{◌≡◌, ◌≢◌, ◌<◌, ◌≤◌, ◌+◌, ℕ, max, Bool, true, false, ◌||◌, List, [], ◌∷◌, ◌++◌, reverse, append_assoc, Some, refl, sym, ap, subst, ◌∙◌, arith}
use Rattle.std.proofs.lemmas.Bool.{ne_eqb, or_parts}
use Rattle.std.proofs.lemmas.Bool.Decides.{nat_tests}
use Rattle.std.proofs.lemmas.List.{reverse-append}
use Rattle.sat_label.specs.declared.node.NodeId.{NodeId}
use Rattle.sat_label.specs.declared.node.NodeId.TheVariants.{Site, Serializer}
use Rattle.sat_label.specs.Order.{node_eq}
use Rattle.sat_label.specs.Words.{has}
use Rattle.sat_tree.specs.Shape.{TreeShape}
use Rattle.sat_tree.specs.Cut.{parent_of, seat_of, over, is_edge}
use Rattle.sat_tree.specs.Laws.{Path, stays, steps}
use Rattle.sat_tree.proofs.Trees.{edge-up, edge-down}

or-false : (b : Bool) → (b || false) ≡ b
or-false true = refl
or-false false = refl

pub has-append : (xs : List NodeId) (y x : NodeId) → has node_eq (xs ++ y ∷ []) x ≡ (has node_eq xs x || node_eq y x)
has-append [] y x = or-false (node_eq y x)
has-append (z ∷ xs) y x = rw (has-append xs y x) (or-assoc (node_eq z x) (has node_eq xs x) (node_eq y x))
  where
    or-assoc : (a b c : Bool) → (a || (b || c)) ≡ ((a || b) || c)
    or-assoc true b c = refl
    or-assoc false b c = refl

node-sym : (u v : NodeId) → node_eq u v ≡ node_eq v u
node-sym (Site i) (Site k) = grind (arith, nat_tests)
node-sym (Serializer i) (Serializer k) = grind (arith, nat_tests)
node-sym (Site i) (Serializer k) = refl
node-sym (Serializer i) (Site k) = refl

-- a path goes on over an edge
pub goes-on : (t : TreeShape) (u x v : NodeId) (nodes : List NodeId) → Path t u x nodes → is_edge t x v ≡ true → has node_eq nodes v ≡ false → Path t u v (nodes ++ v ∷ [])
goes-on t u x v nodes (stays {v = y}) edge none = steps edge (rw (node-sym v y, or-false) ((or_parts _ _ none).0)) stays
goes-on t u x v nodes (steps {u = y} {x = z} {nodes = ns} first new rest) edge none =
    let apart = or_parts _ _ none in
    steps first (rw (has-append ns v y, new, node-sym v y) apart.0) (goes-on t z x v ns rest edge apart.1)

-- serializers of numbers below one
abbrev pub Lower : ℕ → List NodeId → Type 0
Lower m [] = Unit {0}
Lower m (n ∷ nodes) = ((z : ℕ) × (n ≡ Serializer z) × (z < m)) × Lower m nodes

pub lower-more : (m k : ℕ) (nodes : List NodeId) → m ≤ k → Lower m nodes → Lower k nodes
lower-more m k [] most low = tt
lower-more m k (n ∷ nodes) most low = ((low.0.0, low.0.1, let l : low.0.0 < k = omega (arith, low.0.2) in l), lower-more m k nodes most low.1)

pub lower-push : (m z : ℕ) (nodes : List NodeId) → Lower m nodes → z < m → Lower m (nodes ++ Serializer z ∷ [])
lower-push m z [] low less = ((z, refl, less), tt)
lower-push m z (n ∷ nodes) low less = (low.0, lower-push m z nodes low.1 less)

pub lower-free : (m z : ℕ) (nodes : List NodeId) → Lower m nodes → m ≤ z → has node_eq nodes (Serializer z) ≡ false
lower-free m z [] low most = refl
lower-free m z (n ∷ nodes) low most =
    let other : node_eq n (Serializer z) ≡ false = rw low.0.1 (ne_eqb low.0.0 z (omega (arith, low.0.2))) in
    rw (other, lower-free m z nodes low.1 most) refl

pub lower-no-site : (m i : ℕ) (nodes : List NodeId) → Lower m nodes → has node_eq nodes (Site i) ≡ false
lower-no-site m i [] low = refl
lower-no-site m i (n ∷ nodes) low =
    let other : node_eq n (Site i) ≡ false = rw low.0.1 refl in
    rw (other, lower-no-site m i nodes low.1) refl

pub seat-up : (t : TreeShape) (i : ℕ) → is_edge t (Site i) (Serializer (seat_of t i)) ≡ true
unfolding over
seat-up t i = edge-up t (Site i) (seat_of t i) refl

pub seat-down : (t : TreeShape) (i : ℕ) → is_edge t (Serializer (seat_of t i)) (Site i) ≡ true
unfolding over
seat-down t i = edge-down t (Site i) (seat_of t i) refl

pub parent-up : (t : TreeShape) (z p : ℕ) → parent_of t.parents z ≡ Some p → is_edge t (Serializer z) (Serializer p) ≡ true
unfolding over
parent-up t z p is = edge-up t (Serializer z) p is

pub parent-down : (t : TreeShape) (z p : ℕ) → parent_of t.parents z ≡ Some p → is_edge t (Serializer p) (Serializer z) ≡ true
unfolding over
parent-down t z p is = edge-down t (Serializer z) p is

pub reverse_push : (xs : List NodeId) (x : NodeId) → reverse (xs ++ x ∷ []) ≡ x ∷ reverse xs
reverse_push xs x = reverse-append xs (x ∷ [])

-- whatever path leads from one end to the other, over no greater number, makes the whole path
pub record Completes (t : TreeShape) (from to : NodeId) (way back : List NodeId) (here there : ℕ) : Type 0 where
  pub whole : (rest : List NodeId) → Path t (Serializer here) (Serializer there) rest → Lower (max here there + 1) rest → Path t from to ((way ++ rest) ++ reverse back)

pub begun : (t : TreeShape) (i k : ℕ) (way back : List NodeId) (here there : ℕ) → i ≢ k → way ≡ Site i ∷ [] → back ≡ Site k ∷ [] → here ≡ seat_of t i → there ≡ seat_of t k →
    Completes t (Site i) (Site k) way back here there
begun t i k way back here there apart one other a b =
    rw (one, other, a, b) (record {
      whole = λ rest path low.
          let down = goes-on t (Serializer (seat_of t i)) (Serializer (seat_of t k)) (Site k) rest path (seat-down t k) (lower-no-site _ k rest low) in
          let new : has node_eq (rest ++ Site k ∷ []) (Site i) ≡ false = rw (has-append rest (Site k) (Site i), lower-no-site _ i rest low) (ne_eqb k i (λ e. apart (sym e))) in
          steps (seat-up t i) new down;
    })

one-more : (way rest back : List NodeId) (x : NodeId) → ((way ++ x ∷ rest) ++ back) ≡ (((way ++ x ∷ []) ++ rest) ++ back)
one-more way rest back x = ap (λ l. l ++ back) (sym (append_assoc way (x ∷ []) rest))

pub up-here : (t : TreeShape) (from to : NodeId) (way more back : List NodeId) (here there p : ℕ) → Completes t from to way back here there → there < here → parent_of t.parents here ≡ Some p → p < here →
    more ≡ way ++ Serializer here ∷ [] → Completes t from to more back p there
up-here t from to way more back here there p old less is falls e =
    rw e (record {
      whole = λ rest path low.
          let free = lower-free _ here rest low (omega arith) in
          let low2 : Lower (max here there + 1) rest = lower-more _ _ rest (omega arith) low in
          let done = old.whole (Serializer here ∷ rest) (steps (parent-up t here p is) free path) ((here, refl, omega arith), low2) in
          subst (Path t from to) (one-more way rest (reverse back) (Serializer here)) done;
    })

last-more : (way rest back : List NodeId) (x : NodeId) → ((way ++ (rest ++ x ∷ [])) ++ reverse back) ≡ ((way ++ rest) ++ reverse (back ++ x ∷ []))
last-more way rest back x =
    ap (λ l. l ++ reverse back) (sym (append_assoc way rest (x ∷ []))) ∙ (append_assoc (way ++ rest) (x ∷ []) (reverse back) ∙ ap (λ l. (way ++ rest) ++ l) (sym (reverse_push back x)))

pub up-there : (t : TreeShape) (from to : NodeId) (way back more : List NodeId) (here there p : ℕ) → Completes t from to way back here there → here < there → parent_of t.parents there ≡ Some p → p < there →
    more ≡ back ++ Serializer there ∷ [] → Completes t from to way more here p
up-there t from to way back more here there p old less is falls e =
    rw e (record {
      whole = λ rest path low.
          let free = lower-free _ there rest low (omega arith) in
          let low2 : Lower (max here there + 1) rest = lower-more _ _ rest (omega arith) low in
          let done = old.whole (rest ++ Serializer there ∷ []) (goes-on t _ _ (Serializer there) rest path (parent-down t there p is) free) (lower-push _ there rest low2 (omega arith)) in
          subst (Path t from to) (last-more way rest back (Serializer there)) done;
    })

pub met : (t : TreeShape) (from to : NodeId) (way back more all : List NodeId) (here there : ℕ) → Completes t from to way back here there → here ≡ there → more ≡ way ++ Serializer here ∷ [] → all ≡ more ++ reverse back → Path t from to all
met t from to way back more all here there old same e f =
    rw (f, e) (old.whole (Serializer here ∷ []) (subst (λ (n : ℕ). Path t (Serializer here) (Serializer n) (Serializer here ∷ [])) same stays) ((here, refl, omega arith), tt))
