-- The ends of a node's links: an edge of a tree, or a lane, has one place at both of its nodes.
use Rattle.std.proofs.Common.{◌≡◌, ◌<◌, ◌≤◌, ℕ, ◌+◌, ◌-◌, zero, suc, Bool, true, false, ◌==◌, nat_lt, List, [], ◌∷◌, ◌++◌, length, map, get_or, Option, Some, None, slice_get, if◌then◌else◌, refl, sym, ap, ◌∙◌, subst, arith, inl, inr}
use Rattle.std.specs.List.{flat_map}
use Rattle.std.proofs.lemmas.List.{length-map}
use Rattle.sat_label.proofs.Members.{In-left, In-right, In-get, In-parts, into-filter}
use Rattle.sat_label.proofs.Numbers.{length-below, get-front, get-after, below-get, get-map}
use Rattle.sat_label.proofs.Truth.{same-number, same-test}
use Rattle.sat_label.specs.Members.{In}
use Rattle.sat_label.specs.Words.{below}
use Rattle.sat_label.specs.declared.node.NodeId.{NodeId}
use Rattle.sat_label.specs.declared.node.NodeId.TheVariants.{Site, Serializer}
use Rattle.sat_label.specs.declared.node.NodeName.TheVariants as named
use Rattle.sat_tree.specs.Shape.{TreeShape}
use Rattle.sat_tree.specs.Cut.{is_edge, neighbours, seat_of, IsNode}
use Rattle.sat_act.specs.declared.deployment.Plan.{Plan}
use Rattle.sat_act.specs.declared.deployment.Plan.TheVariants as plan
use Rattle.sat_act.specs.Deployed.{Deployed}
use Rattle.sat_act.specs.Parts.{tree_of, planned_tree}
use Rattle.sat_laws.proofs.Labels.{some_is}
use Rattle.sat_laws.proofs.Links.{In-place}
use Rattle.sat_machines.specs.Layout.{Link, Bulk, Edge, peer, Planted, planted, trees_of, serial_links, links_at, links_of, label_links, label_link}
use Rattle.sat_opened.specs.Opened.{tree_names, serial_names}
use Rattle.sat_opened.proofs.Numbers.{same-is, differ, less-is, not-less, above-is}

-- ---- trees

abbrev planted_at : ℕ → TreeShape → Planted
planted_at e t = record { epoch = e; tree = t }

plus-none : (f : ℕ) → f ≡ f + 0
plus-none f = omega arith

plus-more : (f n : ℕ) → (f + 1) + n ≡ f + suc n
plus-more f n = omega arith

plus-after : (k m : ℕ) → (k + 1) + m ≡ k + suc m
plus-after k m = omega arith

-- where a tree of some plans stands among their trees, and which end it has
record Stands (f k : ℕ) (plans : List Plan) (n : ℕ) (t : TreeShape) : Type 0 where
  index : ℕ
  there : slice_get (planted f plans) index ≡ Some (planted_at (f + n) t)
  at : get_or (label_links k plans) n 0 ≡ k + index

tree-is : (s t : TreeShape) → Some (plan.Tree s) ≡ Some (plan.Tree t) → s ≡ t
tree-is s t e = cc

stands-first : (f k : ℕ) (plans : List Plan) (s t : TreeShape) → s ≡ t → Stands f k (plan.Tree s ∷ plans) zero t
stands-first f k plans s t e = record { index = 0; there = λ i. Some (planted_at (plus-none f i) (e i)); at = plus-none k }

stands-stamp : (f k : ℕ) (plans : List Plan) (n : ℕ) (t : TreeShape) → Stands (f + 1) k plans n t → Stands f k (plan.Stamp ∷ plans) (suc n) t
stands-stamp f k plans n t s = record { index = s.index; there = s.there ∙ ap (λ (e : ℕ). Some (planted_at e t)) (plus-more f n); at = s.at }

stands-tree : (f k : ℕ) (plans : List Plan) (x : TreeShape) (n : ℕ) (t : TreeShape) → Stands (f + 1) (k + 1) plans n t → Stands f k (plan.Tree x ∷ plans) (suc n) t
stands-tree f k plans x n t s = record { index = suc s.index; there = s.there ∙ ap (λ (e : ℕ). Some (planted_at e t)) (plus-more f n); at = s.at ∙ plus-after k s.index }

stands : (f k : ℕ) (plans : List Plan) (n : ℕ) (t : TreeShape) → slice_get plans n ≡ Some (plan.Tree t) → Stands f k plans n t
stands f k [] n t e = absurd (cc)
stands f k (plan.Stamp ∷ plans) zero t e = absurd (cc)
stands f k (plan.Tree s ∷ plans) zero t e = stands-first f k plans s t (tree-is s t e)
stands f k (plan.Stamp ∷ plans) (suc n) t e = stands-stamp f k plans n t (stands (f + 1) k plans n t e)
stands f k (plan.Tree x ∷ plans) (suc n) t e = stands-tree f k plans x n t (stands (f + 1) (k + 1) plans n t e)

-- the links of a serializer of one of the trees
not-later : (f n : ℕ) → f ≡ f + suc n → ⊥
not-later f n e = omega arith

choose-true : {X : Type 0} (b : Bool) (x y : X) → b ≡ true → (if b then x else y) ≡ x
choose-true true x y e = refl
choose-true false x y e = absurd (cc)

choose-false : {X : Type 0} (b : Bool) (x y : X) → b ≡ false → (if b then x else y) ≡ y
choose-false true x y e = absurd (cc)
choose-false false x y e = refl

links-stand : (f : ℕ) (plans : List Plan) (n z : ℕ) (t : TreeShape) → slice_get plans n ≡ Some (plan.Tree t) → links_at (planted f plans) (f + n) z ≡ serial_links (planted_at (f + n) t) z
links-stand f [] n z t e = absurd (cc)
links-stand f (plan.Stamp ∷ plans) zero z t e = absurd (cc)
links-stand f (plan.Tree s ∷ plans) zero z t e =
    choose-true (f == f + zero) (serial_links (planted_at f s) z) (links_at (planted (f + 1) plans) (f + zero) z) (ap (λ (k : ℕ). f == k) (sym (plus-none f)) ∙ same-number f) ∙
    (λ i. serial_links (planted_at (plus-none f i) (tree-is s t e i)) z)
links-stand f (plan.Stamp ∷ plans) (suc n) z t e =
    subst (λ (k : ℕ). links_at (planted (f + 1) plans) k z ≡ serial_links (planted_at k t) z) (plus-more f n) (links-stand (f + 1) plans n z t e)
links-stand f (plan.Tree x ∷ plans) (suc n) z t e =
    choose-false (f == f + suc n) (serial_links (planted_at f x) z) (links_at (planted (f + 1) plans) (f + suc n) z) (differ f (f + suc n) (not-later f n)) ∙
    subst (λ (k : ℕ). links_at (planted (f + 1) plans) k z ≡ serial_links (planted_at k t) z) (plus-more f n) (links-stand (f + 1) plans n z t e)

-- the plan of an epoch with a tree
record IsPlanned (d : Deployed) (e : ℕ) (t : TreeShape) : Type 0 where
  epoch : 1 + (e - 1) ≡ e
  plan_is : slice_get d.plans (e - 1) ≡ Some (plan.Tree t)

from-one : (e : ℕ) → (e == 0) ≡ false → 1 + (e - 1) ≡ e
from-one zero n = absurd (cc)
from-one (suc e) n = omega arith

plan-of : (o : Option Plan) (t : TreeShape) → ◌≡◌ {A = Option TreeShape} (elim o [ None ↦ None | Some p ↦ elim p [ plan.Stamp ↦ None | plan.Tree tree ↦ Some tree ] ]) (Some t) → o ≡ Some (plan.Tree t)
plan-of None t e = absurd (cc)
plan-of (Some plan.Stamp) t e = absurd (cc)
plan-of (Some (plan.Tree s)) t e = ap (λ (s : TreeShape). Some (plan.Tree s)) (some_is s t e)

planned : (d : Deployed) (e : ℕ) (t : TreeShape) → tree_of d e ≡ Some t → IsPlanned d e t
unfolding tree_of
planned d e t is = go (e == 0) refl is
  where
    go : (b : Bool) → (e == 0) ≡ b → (if b then None else planned_tree d.plans (e - 1)) ≡ Some t → IsPlanned d e t
    go true w is = absurd (cc)
    go false w is = record { epoch = from-one e w; plan_is = plan-of (slice_get d.plans (e - 1)) t is }

-- where the tree of an epoch stands among all, and which end a site has for it
pub record TreeAt (d : Deployed) (e : ℕ) (t : TreeShape) : Type 0 where
  pub index : ℕ
  pub there : slice_get (trees_of d) index ≡ Some (record { epoch = e; tree = t })
  pub end : label_link d e ≡ (d.sites - 1) + index
  pub links : (z : ℕ) → links_at (trees_of d) e z ≡ serial_links (record { epoch = e; tree = t }) z

pub tree-at : (d : Deployed) (e : ℕ) (t : TreeShape) → tree_of d e ≡ Some t → TreeAt d e t
tree-at d e t is =
    let p : IsPlanned d e t = planned d e t is in
    let s : Stands 1 (d.sites - 1) d.plans (e - 1) t = stands 1 (d.sites - 1) d.plans (e - 1) t p.plan_is in
    record {
      index = s.index;
      there = s.there ∙ ap (λ (e : ℕ). Some (planted_at e t)) p.epoch;
      end = s.at;
      links = λ z. subst (λ (k : ℕ). links_at (trees_of d) k z ≡ serial_links (planted_at k t) z) p.epoch (links-stand 1 d.plans (e - 1) z t p.plan_is);
    }

-- two epochs with trees have one end exactly where they are one
same-index : (k m n : ℕ) → k + m ≡ k + n → m ≡ n
same-index k m n e = omega arith

pub one-end : (d : Deployed) (f e : ℕ) (s t : TreeShape) → tree_of d f ≡ Some s → tree_of d e ≡ Some t → (label_link d f == label_link d e) ≡ (f == e)
one-end d f e s t a b = same-test (label_link d f == label_link d e) (f == e) back forth
  where
    x : TreeAt d f s
    x = tree-at d f s a

    y : TreeAt d e t
    y = tree-at d e t b

    back : (label_link d f == label_link d e) ≡ true → (f == e) ≡ true
    back w =
        let same : x.index ≡ y.index = same-index (d.sites - 1) x.index y.index (sym x.end ∙ (same-is (label_link d f) (label_link d e) w ∙ y.end)) in
        let one : planted_at f s ≡ planted_at e t = some_is (planted_at f s) (planted_at e t) (sym x.there ∙ (ap (slice_get (trees_of d)) same ∙ y.there)) in
        ap (λ (p : Planted). f == p.epoch) (sym one) ∙ same-number f

    forth : (f == e) ≡ true → (label_link d f == label_link d e) ≡ true
    forth w = ap (λ (k : ℕ). label_link d f == label_link d k) (sym (same-is f e w)) ∙ same-number (label_link d f)

-- ---- the links of nodes

-- of a site to another
bulk-length : (d : Deployed) (i : ℕ) → length (map (λ k. Bulk i (peer i k)) (below (d.sites - 1))) ≡ d.sites - 1
bulk-length d i = length-map (below (d.sites - 1)) (λ k. Bulk i (peer i k)) ∙ length-below (d.sites - 1)

pub bulk-end : (d : Deployed) (i k : ℕ) → k < d.sites - 1 → slice_get (links_of d (named.Site i)) k ≡ Some (Bulk i (peer i k))
bulk-end d i k lt =
    get-front (map (λ k. Bulk i (peer i k)) (below (d.sites - 1))) (map (λ p. Edge p.epoch (Site i) (Serializer (seat_of p.tree i))) (trees_of d)) k (subst (λ (n : ℕ). k < n) (sym (bulk-length d i)) lt) ∙
    get-map (λ k. Bulk i (peer i k)) (below (d.sites - 1)) k k (below-get (d.sites - 1) k lt)

-- of a site into the tree of an epoch
pub tree-end : (d : Deployed) (i e : ℕ) (t : TreeShape) → tree_of d e ≡ Some t → slice_get (links_of d (named.Site i)) (label_link d e) ≡ Some (Edge e (Site i) (Serializer (seat_of t i)))
tree-end d i e t is =
    let p : TreeAt d e t = tree-at d e t is in
    ap (λ (k : ℕ). slice_get (links_of d (named.Site i)) k) (p.end ∙ ap (λ (n : ℕ). n + p.index) (sym (bulk-length d i))) ∙
    (get-after (map (λ k. Bulk i (peer i k)) (below (d.sites - 1))) (map (λ p. Edge p.epoch (Site i) (Serializer (seat_of p.tree i))) (trees_of d)) p.index ∙
    get-map (λ p. Edge p.epoch (Site i) (Serializer (seat_of p.tree i))) (trees_of d) p.index (planted_at e t) p.there)

-- of a serializer to a neighbour
pub serial-end : (d : Deployed) (e z k : ℕ) (t : TreeShape) (v : NodeId) → tree_of d e ≡ Some t → slice_get (neighbours t z) k ≡ Some v → slice_get (links_of d (named.Serializer e z)) k ≡ Some (Edge e (Serializer z) v)
serial-end d e z k t v is at =
    ap (λ (ls : List Link). slice_get ls k) ((tree-at d e t is).links z) ∙ get-map (λ v. Edge e (Serializer z) v) (neighbours t z) k v at

-- each node of a tree that has an edge with a serializer is one of its neighbours
pub in-below : {X : Type 0} (f : ℕ → X) (n k : ℕ) → k < n → In (map f (below n)) (f k)
in-below f n k lt = In-get (map f (below n)) k (f k) (get-map f (below n) k k (below-get n k lt))

among-nodes : (t : TreeShape) (v : NodeId) → IsNode t v → In (map Site (below (length t.seats)) ++ map Serializer (below (length t.parents))) v
among-nodes t (Site i) n = In-left (map Site (below (length t.seats))) (map Serializer (below (length t.parents))) (Site i) (in-below Site (length t.seats) i n)
among-nodes t (Serializer z) n = In-right (map Site (below (length t.seats))) (map Serializer (below (length t.parents))) (Serializer z) (in-below Serializer (length t.parents) z n)

pub neighbour-there : (t : TreeShape) (z : ℕ) (v : NodeId) → IsNode t v → is_edge t (Serializer z) v ≡ true → (k : ℕ) × (slice_get (neighbours t z) k ≡ Some v)
unfolding neighbours
neighbour-there t z v n e = In-place (neighbours t z) v (into-filter (λ n. is_edge t (Serializer z) n) (map Site (below (length t.seats)) ++ map Serializer (below (length t.parents))) v (among-nodes t v n) e)

-- at a site i, the end of this number is that of the link with site j
pub record IsEnd (d : Deployed) (i j k : ℕ) : Type 0 where
  pub within : k < d.sites - 1
  pub peer : peer i k ≡ j

low : (i j : ℕ) → nat_lt j i ≡ true → j < i
low i j e = less-is j i e

less-here : (i j n : ℕ) → i < n → j < i → j < n - 1
less-here i j n a b = omega arith

more-here : (i j n : ℕ) → j < n → i < j → j - 1 < n - 1
more-here i j n a b = omega arith

after-end : (i j : ℕ) → i < j → (nat_lt (j - 1) i ≡ false) × ((j - 1) + 1 ≡ j)
after-end i j lt = (not-less (j - 1) i (up i j lt), back i j lt)
  where
    up : (i j : ℕ) → i < j → i ≤ j - 1
    up i j lt = omega arith

    back : (i j : ℕ) → i < j → (j - 1) + 1 ≡ j
    back i j lt = omega arith

pub end-at : (d : Deployed) (i j : ℕ) → i < d.sites → j < d.sites → (j == i) ≡ false → (k : ℕ) × IsEnd d i j k
end-at d i j a b ne = go (nat_lt j i) refl
  where
    go : (t : Bool) → nat_lt j i ≡ t → (k : ℕ) × IsEnd d i j k
    go true e = (j, record { within = less-here i j d.sites a (low i j e); peer = choose-true (nat_lt j i) j (j + 1) e })
    go false e =
        let lt : i < j = above-is i j e ne in
        (j - 1, record { within = more-here i j d.sites b lt; peer = choose-false (nat_lt (j - 1) i) (j - 1) ((j - 1) + 1) (after-end i j lt).0 ∙ (after-end i j lt).1 })

-- ---- names

pub in-flat : {X Y : Type 0} (f : X → List Y) (xs : List X) (x : X) (y : Y) → In xs x → In (f x) y → In (flat_map f xs) y
in-flat f [] x y i j = absurd i
in-flat {X} {Y} f (z ∷ xs) x y (inl e) j = In-left (f z) (flat_map f xs) y (subst (λ (x : X). In (f x) y) (sym e) j)
in-flat f (z ∷ xs) x y (inr i) j = In-right (f z) (flat_map f xs) y (in-flat f xs x y i j)

pub serial-named : (d : Deployed) (e z : ℕ) (t : TreeShape) → tree_of d e ≡ Some t → z < length t.parents → In (serial_names d) (named.Serializer e z)
serial-named d e z t is lt =
    let p : TreeAt d e t = tree-at d e t is in
    in-flat tree_names (trees_of d) (planted_at e t) (named.Serializer e z) (In-get (trees_of d) p.index (planted_at e t) p.there) (in-below (named.Serializer e) (length t.parents) z lt)

pub site-named : (n i : ℕ) → i < n → In (map named.Site (below n)) (named.Site i)
site-named n i lt = in-below named.Site n i lt

pub in-mapped : {X Y : Type 0} (f : X → Y) (xs : List X) (y : Y) → In (map f xs) y → (x : X) × In xs x × (f x ≡ y)
in-mapped f [] y i = absurd i
in-mapped f (x ∷ xs) y (inl e) = (x, inl refl, e)
in-mapped {X} {Y} f (x ∷ xs) y (inr i) = (let w : (x : X) × In xs x × (f x ≡ y) = in-mapped f xs y i in (w.0, inr w.1, w.2))

pub in-less : (n k : ℕ) → In (below n) k → k < n
in-less zero k i = absurd i
in-less (suc n) k i = elim (In-parts (below n) (n ∷ []) k i) [
  | inl a ↦ step n k (in-less n k a)
  | inr b ↦ elim b [ inl e ↦ last n k e | inr z ↦ absurd z ]
]
  where
    step : (n k : ℕ) → k < n → k < suc n
    step n k lt = omega arith

    last : (n k : ℕ) → n ≡ k → k < suc n
    last n k e = omega arith

site-same : (i j : ℕ) → named.Site i ≡ named.Site j → i ≡ j
site-same i j e = cc

pub site-below : (n i : ℕ) → In (map named.Site (below n)) (named.Site i) → i < n
site-below n i m =
    let w : (x : ℕ) × In (below n) x × (named.Site x ≡ named.Site i) = in-mapped named.Site (below n) (named.Site i) m in
    subst (λ (k : ℕ). k < n) (site-same w.0 i w.2) (in-less n w.0 w.1)
