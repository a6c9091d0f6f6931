-- The labels put on all outgoing links together, counted link by link and pair by pair.
use Rattle.std.proofs.Common.{◌≡◌, ◌<◌, ℕ, zero, suc, ◌+◌, Bool, true, false, ◌&&◌, not, ◌==◌, cond, List, [], ◌∷◌, ◌++◌, length, filter, map, take, sum_by, refl, sym, ap, subst, ◌∙◌, inl, inr, arith}
use Rattle.std.proofs.lemmas.List.Sums.{sum_by-append}
use Rattle.std.specs.List.{list_any}
use Rattle.std.proofs.lemmas.Bool.Decides.{nat_tests}
use Rattle.sat_label.specs.declared.label.Label.{Label}
use Rattle.sat_label.specs.declared.node.NodeId.{NodeId}
use Rattle.sat_label.specs.declared.node.NodeId.TheVariants.{Site, Serializer}
use Rattle.sat_label.specs.Order.{node_eq}
use Rattle.sat_label.specs.Words.{below}
use Rattle.sat_label.specs.Members.{In}
use Rattle.sat_label.proofs.Members.{In-left, In-right, In-parts, In-filter, into-filter}
use Rattle.sat_tree.specs.Shape.{TreeShape}
use Rattle.sat_tree.specs.Cut.{IsTree, is_edge, beyond, neighbours}
use Rattle.sat_tree.proofs.Trees.{cuttable, edge-end}
use Rattle.sat_act.specs.Deployed.{Deployed}
use Rattle.sat_act.specs.Headline.{HasTrees}
use Rattle.sat_act.specs.Parts.{tree_of, entered, goes_beyond, is_target}
use Rattle.sat_laws.proofs.Links.{entered-in}
use Rattle.sat_chain_laws.specs.Rows.{Pair, labels_from}
use Rattle.sat_chain_laws.specs.Chains.{ChainEntry, seq, applied, plain}
use Rattle.sat_chain_laws.specs.ChainAnswers.{goes_on, goes_to}
use Rattle.sat_chain_laws.specs.Goals.{going, ways, TotalsTellApplied, SeatsAll}
use Rattle.sat_chain_laws.proofs.Lists.{prefix-in, labels-in, some_is}
use Rattle.sat_chain_laws.proofs.Rows.{either}
use Rattle.sat_chain_laws.proofs.Held.{Held, Good, links_in, links-are}
use Rattle.sat_chain_laws.proofs.Tells.{any-one, any-of, and-both, both-and, onward, tells}

-- ---- two ways to count

sum-cons : {X : Type 0} (f : X → ℕ) (x : X) (xs : List X) → sum_by f (x ∷ xs) ≡ f x + sum_by f xs
sum-cons f x xs = let e : sum_by f (x ∷ xs) ≡ sum_by f (x ∷ []) + sum_by f xs = sum_by-append f (x ∷ []) xs in let k : sum_by f (x ∷ []) ≡ f x = omega arith in omega arith

sum-none : {X : Type 0} (vs : List X) → sum_by (λ (v : X). 0) vs ≡ 0
sum-none [] = refl
sum-none {X} (v ∷ vs) = let e : sum_by (λ (v : X). 0) (v ∷ vs) ≡ 0 + sum_by (λ (v : X). 0) vs = sum-cons (λ (v : X). 0) v vs in let k : sum_by (λ (v : X). 0) vs ≡ 0 = sum-none vs in omega arith

-- one pair more
with-pair : {X Y : Type 0} (g : X → Y → Bool) (p : Y) (ps : List Y) (vs : List X) →
    sum_by (λ v. length (filter (g v) (p ∷ ps))) vs ≡ length (filter (λ v. g v p) vs) + sum_by (λ v. length (filter (g v) ps)) vs
with-pair g p ps [] = omega arith
with-pair {X} g p ps (v ∷ vs) = go (g v p) refl (sum-cons (λ v. length (filter (g v) (p ∷ ps))) v vs) (sum-cons (λ v. length (filter (g v) ps)) v vs) (with-pair g p ps vs)
  where
    go : (b : Bool) → g v p ≡ b →
        sum_by (λ (v : X). length (filter (g v) (p ∷ ps))) (v ∷ vs) ≡ length (filter (g v) (p ∷ ps)) + sum_by (λ (v : X). length (filter (g v) (p ∷ ps))) vs →
        sum_by (λ (v : X). length (filter (g v) ps)) (v ∷ vs) ≡ length (filter (g v) ps) + sum_by (λ (v : X). length (filter (g v) ps)) vs →
        sum_by (λ (v : X). length (filter (g v) (p ∷ ps))) vs ≡ length (filter (λ (v : X). g v p) vs) + sum_by (λ (v : X). length (filter (g v) ps)) vs →
        sum_by (λ (v : X). length (filter (g v) (p ∷ ps))) (v ∷ vs) ≡ length (filter (λ (v : X). g v p) (v ∷ vs)) + sum_by (λ (v : X). length (filter (g v) ps)) (v ∷ vs)
    go true w a b c =
        let x : length (filter (g v) (p ∷ ps)) ≡ suc (length (filter (g v) ps)) = ap (λ (b : Bool). length (cond b (p ∷ filter (g v) ps) (filter (g v) ps))) w in
        let y : length (filter (λ (v : X). g v p) (v ∷ vs)) ≡ suc (length (filter (λ (v : X). g v p) vs)) = ap (λ (b : Bool). length (cond b (v ∷ filter (λ (v : X). g v p) vs) (filter (λ (v : X). g v p) vs))) w in
        omega arith
    go false w a b c =
        let x : length (filter (g v) (p ∷ ps)) ≡ length (filter (g v) ps) = ap (λ (b : Bool). length (cond b (p ∷ filter (g v) ps) (filter (g v) ps))) w in
        let y : length (filter (λ (v : X). g v p) (v ∷ vs)) ≡ length (filter (λ (v : X). g v p) vs) = ap (λ (b : Bool). length (cond b (v ∷ filter (λ (v : X). g v p) vs) (filter (λ (v : X). g v p) vs))) w in
        omega arith

both-ways : {X Y : Type 0} (g : X → Y → Bool) (vs : List X) (ps : List Y) → sum_by (λ v. length (filter (g v) ps)) vs ≡ sum_by (λ p. length (filter (λ v. g v p) vs)) ps
both-ways g vs [] = sum-none vs
both-ways {X} {Y} g vs (p ∷ ps) =
    let a : sum_by (λ (v : X). length (filter (g v) (p ∷ ps))) vs ≡ length (filter (λ (v : X). g v p) vs) + sum_by (λ (v : X). length (filter (g v) ps)) vs = with-pair g p ps vs in
    let b : sum_by (λ (p : Y). length (filter (λ (v : X). g v p) vs)) (p ∷ ps) ≡ length (filter (λ (v : X). g v p) vs) + sum_by (λ (p : Y). length (filter (λ (v : X). g v p) vs)) ps = sum-cons (λ (p : Y). length (filter (λ (v : X). g v p) vs)) p ps in
    let c : sum_by (λ (v : X). length (filter (g v) ps)) vs ≡ sum_by (λ (p : Y). length (filter (λ (v : X). g v p) vs)) ps = both-ways g vs ps in
    omega arith

sum-same : {X : Type 0} (f g : X → ℕ) (vs : List X) → ((v : X) → In vs v → f v ≡ g v) → sum_by f vs ≡ sum_by g vs
sum-same f g [] e = refl
sum-same f g (v ∷ vs) e =
    let a : sum_by f (v ∷ vs) ≡ f v + sum_by f vs = sum-cons f v vs in
    let b : sum_by g (v ∷ vs) ≡ g v + sum_by g vs = sum-cons g v vs in
    let c : sum_by f vs ≡ sum_by g vs = sum-same f g vs (λ x i. e x (inr i)) in
    let k : f v ≡ g v = e v (inl refl) in
    omega arith

-- ---- each pair goes on to a node that is there

In-map : {X Y : Type 0} (f : X → Y) (xs : List X) (x : X) → In xs x → In (map f xs) (f x)
In-map f [] x i = absurd i
In-map f (y ∷ xs) x (inl e) = inl (ap f e)
In-map f (y ∷ xs) x (inr i) = inr (In-map f xs x i)

In-below : (n k : ℕ) → k < n → In (below n) k
In-below zero k lt = absurd (omega arith)
In-below (suc n) k lt = elim (either n k) [
  | inl up ↦ In-right (below n) (n ∷ []) k (inl (omega arith))
  | inr more ↦ In-left (below n) (n ∷ []) k (In-below n k (omega arith))
]

below-In : (n k : ℕ) → In (below n) k → k < n
below-In zero k i = absurd i
below-In (suc n) k i = elim (In-parts (below n) (n ∷ []) k i) [ inl w ↦ later (below-In n k w) | inr w ↦ here w ]
  where
    later : k < n → k < suc n
    later lt = omega arith

    here : In (n ∷ []) k → k < suc n
    here (inl e) = omega arith
    here (inr w) = absurd w

-- a neighbour beyond which a site lies is a node of the tree
is-neighbour : (t : TreeShape) → IsTree t → (z k : ℕ) (v : NodeId) → k < length t.seats → is_edge t (Serializer z) v ≡ true → beyond t (Serializer z) v (Site k) ≡ true → In (neighbours t z) v
unfolding neighbours
is-neighbour t tree z k (Site i) lt e far = go (k == i) refl
  where
    go : (b : Bool) → (k == i) ≡ b → In (filter (λ n. is_edge t (Serializer z) n) (map Site (below (length t.seats)) ++ map Serializer (below (length t.parents)))) (Site i)
    go true w =
        let same : k ≡ i = grind (arith, nat_tests) in
        into-filter (λ n. is_edge t (Serializer z) n) (map Site (below (length t.seats)) ++ map Serializer (below (length t.parents))) (Site i)
        (In-left (map Site (below (length t.seats))) (map Serializer (below (length t.parents))) (Site i) (In-map Site (below (length t.seats)) i (In-below (length t.seats) i (omega arith)))) e
    go false w =
        absurd (let out : beyond t (Serializer z) (Site i) (Site k) ≡ false = (cuttable t tree).leaf (Serializer z) i k e (λ same. let x : (k == i) ≡ true = grind (arith, nat_tests) in cc) in cc)
is-neighbour t tree z k (Serializer y) lt e far =
    into-filter (λ n. is_edge t (Serializer z) n) (map Site (below (length t.seats)) ++ map Serializer (below (length t.parents))) (Serializer y)
    (In-right (map Site (below (length t.seats))) (map Serializer (below (length t.parents))) (Serializer y) (In-map Serializer (below (length t.parents)) y (In-below (length t.parents) y (edge-end t tree (Serializer z) y e)))) e

some-length : {X : Type 0} (xs : List X) (x : X) → In xs x → 0 < length xs
some-length [] x i = absurd i
some-length (y ∷ xs) x i = omega arith

some-way : (d : Deployed) (t : TreeShape) → IsTree t → length t.seats ≡ d.sites → (z : ℕ) (p : Pair) → is_edge t p.from (Serializer z) ≡ true → goes_beyond d t p.from (Serializer z) p.label ≡ true → 0 < ways d t z p
unfolding goes_beyond goes_to
some-way d t tree all z p e far =
    let one = any-one (λ k. is_target d p.label k && beyond t p.from (Serializer z) (Site k)) (below d.sites) far in
    let both = and-both (is_target d p.label one.0) (beyond t p.from (Serializer z) (Site one.0)) one.2 in
    let w = onward t tree p.from z one.0 e both.1 in
    let low : one.0 < d.sites = below-In d.sites one.0 one.1 in
    let goes : goes_on d t z w.0 p ≡ true = both-and (not (node_eq p.from w.0)) (list_any (λ k. is_target d p.label k && beyond t (Serializer z) w.0 (Site k)) (below d.sites))
    (ap not w.2)
    (any-of (λ k. is_target d p.label k && beyond t (Serializer z) w.0 (Site k)) (below d.sites) one.0 one.1 (both-and (is_target d p.label one.0) (beyond t (Serializer z) w.0 (Site one.0)) both.0 w.3)) in
    some-length (filter (λ v. goes_on d t z v p) (neighbours t z)) w.0
    (into-filter (λ v. goes_on d t z v p) (neighbours t z) w.0 (is-neighbour t tree z one.0 w.0 (omega (arith, low, all)) w.1 w.3) goes)

neighbour-edge : (t : TreeShape) (z : ℕ) (v : NodeId) → In (neighbours t z) v → is_edge t (Serializer z) v ≡ true
unfolding neighbours
neighbour-edge t z v i = (In-filter (λ n. is_edge t (Serializer z) n) (map Site (below (length t.seats)) ++ map Serializer (below (length t.parents))) v i).1

pub totals : (d : Deployed) (r : ℕ) (c : List ChainEntry) → HasTrees d → SeatsAll d → Held d r c → TotalsTellApplied d r c
unfolding goes_to
totals d r c trees all held e z k t xs has living = (
  (λ p i.
      let good : Good d (plain r c) r e z (seq r c e z) = held.rows e z in
      let near = good.near k xs p living i in
      let edge : is_edge t p.from (Serializer z) ≡ true = subst (λ (s : TreeShape). is_edge s p.from (Serializer z) ≡ true) (some_is near.0 t (sym near.1 ∙ has)) near.2 in
      let there : In (links_in d (plain r c) e z (tree_of d e) p.from) p.label =
      prefix-in (labels_from p.from xs) (links_in d (plain r c) e z (tree_of d e) p.from) p.label (good.from k xs p.from living) (labels-in xs p i) in
      let put = entered-in d (plain r c) e t p.from (Serializer z) p.label (subst (λ (ls : List Label). In ls p.label) (links-are d (plain r c) e z t p.from has) there) in
      some-way d t (trees e t has) (all e t has) z p edge put.3),
  sym (both-ways (λ v p. goes_on d t z v p) (neighbours t z) (take (applied c e z) xs))
      ∙ sum-same (λ v. going d t z v (take (applied c e z) xs)) (λ v. length (entered d (plain r c) e t (Serializer z) v)) (neighbours t z)
      (λ v i. (tells d r c trees held e z k t xs has living).1 v (neighbour-edge t z v i)),
)
