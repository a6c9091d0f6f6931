-- A tree of serializers can be cut at its edges.
use Rattle.std.specs.Prelude.{◌≡◌, ◌+◌, ◌-◌, ◌⊎◌, ◌<◌, ◌≤◌, ℕ, zero, suc, Bool, true, false, not, List, [], ◌∷◌, Option, Some, None, refl, ◌==◌, if◌then◌else◌, length}
use Rattle.std.proofs.Common.{sym, subst, arith, inl, inr, ap, ◌∙◌}
use Rattle.std.proofs.lemmas.Bool.{eqb-true, eq-eqb, or_cases, or_left, or_right, not-true, not-false, false_from_ne_true, both_ways}
use Rattle.sat_label.specs.declared.node.NodeId.{NodeId}
use Rattle.sat_label.specs.declared.node.NodeId.TheVariants.{Site, Serializer}
use Rattle.sat_label.specs.Order.{node_eq}
use Rattle.sat_label.specs.Words.{has}
use Rattle.sat_tree.specs.Shape.{TreeShape}
use Rattle.sat_tree.specs.Cut.{IsTree, parent_of, chain, seat_of, above, under, over, hangs_on, is_edge, beyond}
use Rattle.sat_label.proofs.SameNodes.{same-node, node-self}
use Rattle.sat_tree.specs.Laws.{IsCuttable}

pub data Chain (ps : List (Option ℕ)) : ℕ → ℕ → Type 0 where
  here : {z : ℕ} → Chain ps z z
  up : {z c : ℕ} (p : ℕ) → parent_of ps z ≡ Some p → Chain ps p c → Chain ps z c

pub some_is : {X : Type 0} (x y : X) → Some x ≡ Some y → x ≡ y
some_is x y e = cc

-- the chain as a list holds just what the relation says
pub has-chain : (f : ℕ) (ps : List (Option ℕ)) (z c : ℕ) → has ◌==◌ (chain f ps z) c ≡ true → Chain ps z c
unfolding chain
has-chain zero ps z c e = elim (or_cases (z == c) false e) [ inl w ↦ subst (λ (y : ℕ). Chain ps z y) (eqb-true z c w) here | inr w ↦ absurd (cc) ]
has-chain (suc f) ps z c e =
    elim (or_cases (z == c) (has ◌==◌ (elim (parent_of ps z) [ None ↦ [] | Some p ↦ chain f ps p ]) c) e) [
      | inl w ↦ subst (λ (y : ℕ). Chain ps z y) (eqb-true z c w) here
      | inr w ↦ go (parent_of ps z) refl w (λ p. has-chain f ps p c)
    ]
  where
    go : (o : Option ℕ) → parent_of ps z ≡ o → has ◌==◌ (elim o [ None ↦ [] | Some p ↦ chain f ps p ]) c ≡ true → ((p : ℕ) → has ◌==◌ (chain f ps p) c ≡ true → Chain ps p c) → Chain ps z c
    go None k w old = absurd (cc)
    go (Some p) k w old = up p k (old p w)

pub chain-has : (t : TreeShape) → IsTree t → (f z c : ℕ) → z ≤ f → Chain t.parents z c → has ◌==◌ (chain f t.parents z) c ≡ true
unfolding chain
chain-has t v zero z c le (here {z = y}) = or_left (y == y) false (eq-eqb y y refl)
chain-has t v zero z c le (up {z = y} p e k) = absurd (let w : p < y = v.down y p e in omega arith)
chain-has t v (suc f) z c le (here {z = y}) = or_left (y == y) _ (eq-eqb y y refl)
chain-has t v (suc f) z c le (up {z = y} {c = c'} p e k) =
    or_right (y == c') (has ◌==◌ (elim (parent_of t.parents y) [ None ↦ [] | Some p ↦ chain f t.parents p ]) c')
    (subst (λ (o : Option ℕ). has ◌==◌ (elim o [ None ↦ [] | Some p ↦ chain f t.parents p ]) c' ≡ true) (sym e) (chain-has t v f p c' (let w : p < y = v.down y p e in omega arith) k))

pub rank : (t : TreeShape) → IsTree t → (z c : ℕ) → Chain t.parents z c → c ≤ z
rank t v z c (here {z = y}) = omega arith
rank t v z c (up {z = y} {c = c'} p e k) = let w : p < y = v.down y p e in let r : c' ≤ p = rank t v p c' k in omega arith

further : (ps : List (Option ℕ)) (a y z : ℕ) → Chain ps a y → parent_of ps y ≡ Some z → Chain ps a z
further ps a y z (here {z = b}) e = up z e here
further ps a y z (up p k c) e = up p k (further ps p y z c e)

joined : (ps : List (Option ℕ)) (a y z : ℕ) → Chain ps a y → Chain ps a z → Chain ps y z ⊎ Chain ps z y
joined ps a y z here k = inl k
joined ps a y z (up p e c) here = inr (up p e c)
joined ps a y z (up {z = b} p e c) (up q f k) = joined ps p y z c (subst (λ (n : ℕ). Chain ps n z) (some_is q p (sym f ∙ e)) k)

last-step : (ps : List (Option ℕ)) (a z : ℕ) → Chain ps a z → (a ≡ z) ⊎ ((y : ℕ) × Chain ps a y × (parent_of ps y ≡ Some z))
last-step ps a z here = inl refl
last-step ps a z (up {z = b} p e c) =
    elim (last-step ps p z c) [ inl s ↦ inr (b, here, e ∙ ap (λ (n : ℕ). Some n) s) | inr w ↦ inr (w.0, up p e w.1, w.2) ]

to-root : (t : TreeShape) → IsTree t → (f z : ℕ) → z ≤ f → z < length t.parents → Chain t.parents z 0
to-root t v zero z le b = subst (λ (n : ℕ). Chain t.parents z n) (let w : z ≡ 0 = omega arith in w) here
to-root t v (suc f) zero le b = here
to-root t v (suc f) (suc z) le b =
    let p : (p : ℕ) × (parent_of t.parents (suc z) ≡ Some p) = v.hung (suc z) (omega arith) b in
    let w : p.0 < suc z = v.down (suc z) p.0 p.1 in
    up p.0 p.1 (to-root t v f p.0 (omega arith) (omega arith))

-- ---- nodes

abbrev anchor : TreeShape → NodeId → ℕ
anchor t (Site i) = seat_of t i
anchor t (Serializer z) = z

-- n is u, or a serializer above it
abbrev Under : TreeShape → NodeId → NodeId → Type 0
Under t (Site i) u = u ≡ Site i
Under t (Serializer c) u = Chain t.parents (anchor t u) c

abbrev Hangs : TreeShape → NodeId → NodeId → Type 0
Hangs t v u = (z : ℕ) × (u ≡ Serializer z) × (over t v ≡ Some z)

under-of : (t : TreeShape) (n u : NodeId) → under t n u ≡ true → Under t n u
unfolding under above
under-of t (Site i) u e = sym (same-node (Site i) u e)
under-of t (Serializer c) (Site i) e = has-chain (length t.parents) t.parents (seat_of t i) c e
under-of t (Serializer c) (Serializer z) e = has-chain (length t.parents) t.parents z c e

of-under : (t : TreeShape) → IsTree t → (n u : NodeId) → anchor t u < length t.parents → Under t n u → under t n u ≡ true
unfolding under above
of-under t v (Site i) u b e = subst (λ (x : NodeId). node_eq (Site i) x ≡ true) (sym e) (node-self (Site i))
of-under t v (Serializer c) (Site i) b k = chain-has t v (length t.parents) (seat_of t i) c (omega arith) k
of-under t v (Serializer c) (Serializer z) b k = chain-has t v (length t.parents) z c (omega arith) k

-- what hangs on a node is under what the node is under, or is itself
over-split : (t : TreeShape) → IsTree t → (c v : NodeId) (z : ℕ) → over t v ≡ Some z → Under t c v → (c ≡ v) ⊎ Under t c (Serializer z)
unfolding over
over-split t w (Site k) v z e u = inl (sym u)
over-split t w (Serializer c) (Site i) z e u = inr (subst (λ (n : ℕ). Chain t.parents n c) (some_is (seat_of t i) z e) u)
over-split t w (Serializer c) (Serializer y) z e u = go y e u
  where
    go : (y : ℕ) → parent_of t.parents y ≡ Some z → Chain t.parents y c → (Serializer c ≡ Serializer y) ⊎ Chain t.parents z c
    go y e here = inl refl
    go y e (up p f k) = inr (subst (λ (n : ℕ). Chain t.parents n c) (some_is p z (sym f ∙ e)) k)

over-under : (t : TreeShape) (c v : NodeId) (z : ℕ) → over t v ≡ Some z → Under t c (Serializer z) → Under t c v
unfolding over
over-under t (Site k) v z e u = absurd (cc)
over-under t (Serializer c) (Site i) z e u = subst (λ (n : ℕ). Chain t.parents n c) (sym (some_is (seat_of t i) z e)) u
over-under t (Serializer c) (Serializer y) z e u = up z e u

self-under : (t : TreeShape) (v : NodeId) → Under t v v
self-under t (Site i) = refl
self-under t (Serializer z) = here

not-over : (t : TreeShape) → IsTree t → (v : NodeId) (z : ℕ) → over t v ≡ Some z → Under t v (Serializer z) → ⊥
unfolding over
not-over t w (Site i) z e u = cc
not-over t w (Serializer y) z e u = let a : z < y = w.down y z e in let b : y ≤ z = rank t w z y u in omega arith

under-over : (t : TreeShape) (c x : NodeId) (z : ℕ) → over t c ≡ Some z → Under t c x → Under t (Serializer z) x
unfolding over
under-over t (Site i) x z e u = subst (λ (y : NodeId). Chain t.parents (anchor t y) z) (sym u) (subst (λ (n : ℕ). Chain t.parents (seat_of t i) n) (some_is (seat_of t i) z e) here)
under-over t (Serializer y) x z e u = further t.parents (anchor t x) y z u e

apart : (t : TreeShape) → IsTree t → (c c' x : NodeId) (z : ℕ) → over t c ≡ Some z → over t c' ≡ Some z → Under t c x → Under t c' x → c ≡ c'
unfolding over
apart t w (Site i) (Site k) x z e f a b = sym a ∙ b
apart t w (Site i) (Serializer y) x z e f a b =
    let k : Chain t.parents (seat_of t i) y = subst (λ (n : NodeId). Chain t.parents (anchor t n) y) a b in
    let r : y ≤ seat_of t i = rank t w (seat_of t i) y k in
    let s : z < y = w.down y z f in
    let q : seat_of t i ≡ z = some_is (seat_of t i) z e in
    absurd (omega arith)
apart t w (Serializer y) (Site i) x z e f a b =
    let k : Chain t.parents (seat_of t i) y = subst (λ (n : NodeId). Chain t.parents (anchor t n) y) b a in
    let r : y ≤ seat_of t i = rank t w (seat_of t i) y k in
    let s : z < y = w.down y z e in
    let q : seat_of t i ≡ z = some_is (seat_of t i) z f in
    absurd (omega arith)
apart t w (Serializer y) (Serializer u) x z e f a b = elim (joined t.parents (anchor t x) y u a b) [ inl k ↦ go y u e f k | inr k ↦ sym (go u y f e k) ]
  where
    go : (y u : ℕ) → parent_of t.parents y ≡ Some z → parent_of t.parents u ≡ Some z → Chain t.parents y u → Serializer y ≡ Serializer u
    go y u e f here = refl
    go y u e f (up p g k) =
        let r : u ≤ z = rank t w z u (subst (λ (n : ℕ). Chain t.parents n u) (some_is p z (sym g ∙ e)) k) in
        let s : z < u = w.down u z f in
        absurd (omega arith)

child : (t : TreeShape) (z s : ℕ) → Under t (Serializer z) (Site s) → (c : NodeId) × (over t c ≡ Some z) × Under t c (Site s)
unfolding over
child t z s k =
    elim (last-step t.parents (seat_of t s) z k) [
      | inl e ↦ (Site s, ap (λ (n : ℕ). Some n) e, refl)
      | inr w ↦ (Serializer w.0, w.2, w.1)
    ]

-- ---- edges

hangs-of : (t : TreeShape) (v u : NodeId) → hangs_on t v u ≡ true → Hangs t v u
unfolding hangs_on
hangs-of t v (Site i) e = absurd (cc)
hangs-of t v (Serializer z) e = go (over t v) refl e
  where
    go : (o : Option ℕ) → over t v ≡ o → has ◌==◌ (elim o [ None ↦ [] | Some p ↦ p ∷ [] ]) z ≡ true → Hangs t v (Serializer z)
    go None k e = absurd (cc)
    go (Some p) k e = (z, refl, k ∙ ap (λ (n : ℕ). Some n) (eqb-true p z (elim (or_cases (p == z) false e) [ inl w ↦ w | inr w ↦ absurd (cc) ])))

of-hangs : (t : TreeShape) (v : NodeId) (z : ℕ) → over t v ≡ Some z → hangs_on t v (Serializer z) ≡ true
unfolding hangs_on
of-hangs t v z e = subst (λ (o : Option ℕ). has ◌==◌ (elim o [ None ↦ [] | Some p ↦ p ∷ [] ]) z ≡ true) (sym e) (or_left (z == z) false (eq-eqb z z refl))

data Edge (t : TreeShape) (u v : NodeId) : Type 0 where
  to_child : (z : ℕ) → u ≡ Serializer z → over t v ≡ Some z → Edge t u v
  to_parent : (z : ℕ) → v ≡ Serializer z → over t u ≡ Some z → Edge t u v

edge-of : (t : TreeShape) (u v : NodeId) → is_edge t u v ≡ true → Edge t u v
unfolding is_edge
edge-of t u v e =
    elim (or_cases (hangs_on t u v) (hangs_on t v u) e) [
      | inl w ↦ (let h : Hangs t u v = hangs-of t u v w in to_parent h.0 h.1 h.2)
      | inr w ↦ (let h : Hangs t v u = hangs-of t v u w in to_child h.0 h.1 h.2)
    ]

pub edge-down : (t : TreeShape) (v : NodeId) (z : ℕ) → over t v ≡ Some z → is_edge t (Serializer z) v ≡ true
unfolding is_edge
edge-down t v z e = or_right (hangs_on t (Serializer z) v) (hangs_on t v (Serializer z)) (of-hangs t v z e)

pub edge-up : (t : TreeShape) (v : NodeId) (z : ℕ) → over t v ≡ Some z → is_edge t v (Serializer z) ≡ true
unfolding is_edge
edge-up t v z e = or_left (hangs_on t v (Serializer z)) (hangs_on t (Serializer z) v) (of-hangs t v z e)

over-down : (t : TreeShape) → IsTree t → (a b : ℕ) → over t (Serializer a) ≡ Some b → b < a
unfolding over
over-down t w a b k = w.down a b k

module _ (t : TreeShape) (w : IsTree t) where
  -- the numbers on an edge are those of serializers
  over-bound : (v : NodeId) (z : ℕ) → over t v ≡ Some z → (z < length t.parents) × (anchor t v < length t.parents)
  unfolding over
  over-bound (Site i) z e = let a : seat_of t i ≡ z = some_is (seat_of t i) z e in let b : seat_of t i < length t.parents = w.seats i in (omega arith, b)
  over-bound (Serializer y) z e = let a : z < y = w.down y z e in let b : y < length t.parents = w.inner y z e in (omega arith, b)

  no-both : (u v : NodeId) (z : ℕ) → v ≡ Serializer z → over t u ≡ Some z → hangs_on t v u ≡ false
  no-both u v z e f = false_from_ne_true (hangs_on t v u) (λ h. go (hangs-of t v u h))
    where
      go : Hangs t v u → ⊥
      go h =
          let a : h.0 < z = over-down t w z h.0 (subst (λ (n : NodeId). over t n ≡ Some h.0) e h.2) in
          let b : z < h.0 = over-down t w h.0 z (subst (λ (n : NodeId). over t n ≡ Some z) h.1 f) in
          omega arith

  -- what lies beyond an edge to a child, and beyond one to a parent
  beyond-child : (u v k : NodeId) (z : ℕ) → u ≡ Serializer z → over t v ≡ Some z → beyond t u v k ≡ under t v k
  unfolding beyond
  beyond-child u v k z e f = ap (λ (b : Bool). if b then under t v k else not (under t u k)) (subst (λ (n : NodeId). hangs_on t v n ≡ true) (sym e) (of-hangs t v z f))

  beyond-parent : (u v k : NodeId) (z : ℕ) → v ≡ Serializer z → over t u ≡ Some z → beyond t u v k ≡ not (under t u k)
  unfolding beyond
  beyond-parent u v k z e f = ap (λ (b : Bool). if b then under t v k else not (under t u k)) (no-both u v z e f)

  edge-bound : (u v : NodeId) → Edge t u v → (anchor t u < length t.parents) × (anchor t v < length t.parents)
  edge-bound u v (to_child z e f) = let b : (z < length t.parents) × (anchor t v < length t.parents) = over-bound v z f in (subst (λ (n : NodeId). anchor t n < length t.parents) (sym e) b.0, b.1)
  edge-bound u v (to_parent z e f) = let b : (z < length t.parents) × (anchor t u < length t.parents) = over-bound u z f in (b.1, subst (λ (n : NodeId). anchor t n < length t.parents) (sym e) b.0)

  not-not : (b : Bool) → b ≡ not (not b)
  not-not true = refl
  not-not false = refl

  -- the two sides of an edge
  pub other-side : (u v k : NodeId) → is_edge t u v ≡ true → beyond t u v k ≡ not (beyond t v u k)
  other-side u v k e = go (edge-of t u v e)
    where
      go : Edge t u v → beyond t u v k ≡ not (beyond t v u k)
      go (to_child z a f) = beyond-child u v k z a f ∙ not-not (under t v k) ∙ ap (λ (b : Bool). not b) (sym (beyond-parent v u k z a f))
      go (to_parent z a f) = beyond-parent u v k z a f ∙ ap (λ (b : Bool). not b) (sym (beyond-child v u k z a f))

  pub edge-end : (u : NodeId) (z : ℕ) → is_edge t u (Serializer z) ≡ true → z < length t.parents
  edge-end u z e = (edge-bound u (Serializer z) (edge-of t u (Serializer z) e)).1

  pub seat-only : (u : NodeId) (j : ℕ) → is_edge t u (Site j) ≡ true → u ≡ Serializer (seat_of t j)
  unfolding over
  seat-only u j e = go (edge-of t u (Site j) e)
    where
      go : Edge t u (Site j) → u ≡ Serializer (seat_of t j)
      go (to_child z a f) = a ∙ ap (λ (n : ℕ). Serializer n) (sym (some_is (seat_of t j) z f))
      go (to_parent z a f) = absurd (cc)

  -- how far an edge is from where a label enters that goes over it: the edges that lead up come before those that lead down
  number : NodeId → ℕ
  number (Site i) = length t.parents
  number (Serializer z) = z

  pub depth : NodeId → NodeId → ℕ
  depth p q = if hangs_on t p q then length t.parents - number p else (length t.parents + 1) + number p

  depth-up : (p q : NodeId) (z : ℕ) → q ≡ Serializer z → over t p ≡ Some z → depth p q ≡ length t.parents - number p
  unfolding depth
  depth-up p q z e f = ap (λ (b : Bool). if b then length t.parents - number p else (length t.parents + 1) + number p) (subst (λ (n : NodeId). hangs_on t p n ≡ true) (sym e) (of-hangs t p z f))

  depth-down : (p q : NodeId) (z : ℕ) → p ≡ Serializer z → over t q ≡ Some z → depth p q ≡ (length t.parents + 1) + number p
  unfolding depth
  depth-down p q z e f = ap (λ (b : Bool). if b then length t.parents - number p else (length t.parents + 1) + number p) (no-both q p z e f)

  number-below : (x : NodeId) (z : ℕ) → over t x ≡ Some z → z < number x
  unfolding number
  number-below (Site i) z e = (over-bound (Site i) z e).0
  number-below (Serializer y) z e = over-down t w y z e

  number-is : (p : NodeId) (z : ℕ) → p ≡ Serializer z → number p ≡ z
  unfolding number
  number-is p z e = ap (λ (n : NodeId). number n) e

  pub depth-falls : (x p q : NodeId) → is_edge t x p ≡ true → is_edge t p q ≡ true → (x ≡ q → ⊥) → depth x p < depth p q
  depth-falls x p q e f n = go (edge-of t x p e) (edge-of t p q f)
    where
      go : Edge t x p → Edge t p q → depth x p < depth p q
      go (to_parent z a b) (to_parent y c k) =
          let r : depth x p ≡ length t.parents - number x = depth-up x p z a b in
          let s : depth p q ≡ length t.parents - number p = depth-up p q y c k in
          let i : number p ≡ z = number-is p z a in
          let j : z < number x = number-below x z b in
          let m : z < length t.parents = (over-bound x z b).0 in
          omega arith
      go (to_parent z a b) (to_child y c k) =
          let r : depth x p ≡ length t.parents - number x = depth-up x p z a b in
          let s : depth p q ≡ (length t.parents + 1) + number p = depth-down p q y c k in
          omega arith
      go (to_child z a b) (to_child y c k) =
          let r : depth x p ≡ (length t.parents + 1) + number x = depth-down x p z a b in
          let s : depth p q ≡ (length t.parents + 1) + number p = depth-down p q y c k in
          let i : number x ≡ z = number-is x z a in
          let j : z < number p = number-below p z b in
          omega arith
      go (to_child z a b) (to_parent y c k) = absurd (n (a ∙ ap (λ (m : ℕ). Serializer m) (some_is z y (sym b ∙ k)) ∙ sym c))

  never : (n u : NodeId) → anchor t u < length t.parents → under t n u ≡ false → Under t n u → ⊥
  never n u b e k = both_ways (under t n u) e (of-under t w n u b k)

  law-far : (p q : NodeId) → Edge t p q → beyond t p q q ≡ true
  law-far p q (to_child z e f) = beyond-child p q q z e f ∙ of-under t w q q (over-bound q z f).1 (self-under t q)
  law-far p q (to_parent z e f) = beyond-parent p q q z e f ∙ ap not (false_from_ne_true (under t p q) (λ k. not-over t w p z f (subst (λ (n : NodeId). Under t p n) e (under-of t p q k))))

  same-over : (v : NodeId) (y z : ℕ) → over t v ≡ Some y → over t v ≡ Some z → Serializer y ≡ Serializer z
  same-over v y z a b = ap (λ (n : ℕ). Serializer n) (some_is y z (sym a ∙ b))

  law-parts : (a x p q : NodeId) → Edge t a x → Edge t p q → beyond t p q x ≡ true → beyond t p q a ≡ false → (p ≡ a) × (q ≡ x)
  law-parts a x p q g (to_child r e f) b c =
      go g (under-of t q x (sym (beyond-child p q x r e f) ∙ b)) (never q a (edge-bound a x g).0 (sym (beyond-child p q a r e f) ∙ c))
    where
      go : Edge t a x → Under t q x → (Under t q a → ⊥) → (p ≡ a) × (q ≡ x)
      go (to_child y i j) k n =
          elim (over-split t w q x y j k) [
            | inl s ↦ (e ∙ same-over q r y f (subst (λ (m : NodeId). over t m ≡ Some y) (sym s) j) ∙ sym i, s)
            | inr l ↦ absurd (n (subst (λ (m : NodeId). Under t q m) (sym i) l))
          ]
      go (to_parent y i j) k n = absurd (n (over-under t q a y j (subst (λ (m : NodeId). Under t q m) i k)))
  law-parts a x p q g (to_parent r e f) b c =
      go g (under-of t p a (not-false (under t p a) (sym (beyond-parent p q a r e f) ∙ c))) (never p x (edge-bound a x g).1 (not-true (under t p x) (sym (beyond-parent p q x r e f) ∙ b)))
    where
      go : Edge t a x → Under t p a → (Under t p x → ⊥) → (p ≡ a) × (q ≡ x)
      go (to_child y i j) k n = absurd (n (over-under t p x y j (subst (λ (m : NodeId). Under t p m) i k)))
      go (to_parent y i j) k n =
          elim (over-split t w p a y j k) [
            | inl s ↦ (s, e ∙ same-over p r y f (subst (λ (m : NodeId). over t m ≡ Some y) (sym s) j) ∙ sym i)
            | inr l ↦ absurd (n (subst (λ (m : NodeId). Under t p m) (sym i) l))
          ]

  law-through : (u v x : NodeId) (k : ℕ) → Edge t u v → Edge t v x → (x ≡ u → ⊥) → beyond t v x (Site k) ≡ true → beyond t u v (Site k) ≡ true
  law-through u v x k (to_child z e f) (to_child y i j) n b =
      let s : Under t x (Site k) = under-of t x (Site k) (sym (beyond-child v x (Site k) y i j) ∙ b) in
      beyond-child u v (Site k) z e f ∙ of-under t w v (Site k) (w.seats k) (subst (λ (m : NodeId). Under t m (Site k)) (sym i) (under-over t x (Site k) y j s))
  law-through u v x k (to_child z e f) (to_parent y i j) n b = absurd (n (i ∙ same-over v y z j f ∙ sym e))
  law-through u v x k (to_parent z e f) (to_child y i j) n b =
      let s : Under t x (Site k) = under-of t x (Site k) (sym (beyond-child v x (Site k) y i j) ∙ b) in
      beyond-parent u v (Site k) z e f ∙ ap not (false_from_ne_true (under t u (Site k)) (λ q. n (apart t w x u (Site k) y j (f ∙ ap (λ (m : ℕ). Some m) (ser z y (sym e ∙ i))) s (under-of t u (Site k) q))))
    where
      ser : (a b : ℕ) → Serializer a ≡ Serializer b → a ≡ b
      ser a b e = cc
  law-through u v x k (to_parent z e f) (to_parent y i j) n b =
      beyond-parent u v (Site k) z e f ∙ ap not (false_from_ne_true (under t u (Site k)) (λ q.
      never v (Site k) (w.seats k) (not-true (under t v (Site k)) (sym (beyond-parent v x (Site k) y i j) ∙ b)) (subst (λ (m : NodeId). Under t m (Site k)) (sym e) (under-over t u (Site k) z f (under-of t u (Site k) q)))))

  law-leaf : (p : NodeId) (j k : ℕ) → Edge t p (Site j) → (k ≡ j → ⊥) → beyond t p (Site j) (Site k) ≡ false
  law-leaf p j k (to_child z e f) n = beyond-child p (Site j) (Site k) z e f ∙ false_from_ne_true (under t (Site j) (Site k)) (λ q. n (site k j (under-of t (Site j) (Site k) q)))
    where
      site : (a b : ℕ) → Site a ≡ Site b → a ≡ b
      site a b e = cc
  law-leaf p j k (to_parent z e f) n = absurd (cc)

  First : NodeId → NodeId → ℕ → Type 0
  First u y s = (x : NodeId) × (is_edge t x u ≡ true) × (beyond t x u (Site s) ≡ false) × ((k : ℕ) → beyond t u y (Site k) ≡ true → beyond t x u (Site k) ≡ true)

  over-hung : (z p : ℕ) → parent_of t.parents z ≡ Some p → over t (Serializer z) ≡ Some p
  unfolding over
  over-hung z p e = e

  first-child : (z s : ℕ) (y : NodeId) → Under t (Serializer z) (Site s) → ((c : NodeId) → over t c ≡ Some z → Under t c (Site s) → (k : ℕ) → beyond t (Serializer z) y (Site k) ≡ true → Under t c (Site k) → ⊥) → First (Serializer z) y s
  unfolding First
  first-child z s y q off =
      let c : (c : NodeId) × (over t c ≡ Some z) × Under t c (Site s) = child t z s q in (
        c.0,
        edge-up t c.0 z c.1,
        beyond-parent c.0 (Serializer z) (Site s) z refl c.1 ∙ ap not (of-under t w c.0 (Site s) (w.seats s) c.2),
        λ k b. beyond-parent c.0 (Serializer z) (Site k) z refl c.1 ∙ ap not (false_from_ne_true (under t c.0 (Site k)) (λ u. off c.0 c.1 c.2 k b (under-of t c.0 (Site k) u))),
      )

  first-down : (z s : ℕ) (y : NodeId) → over t y ≡ Some z → beyond t (Serializer z) y (Site s) ≡ false → First (Serializer z) y s
  unfolding First
  first-down z s y f b = go (under t (Serializer z) (Site s)) refl
    where
      out : under t y (Site s) ≡ false
      out = sym (beyond-child (Serializer z) y (Site s) z refl f) ∙ b

      up_to_parent : under t (Serializer z) (Site s) ≡ false → First (Serializer z) y s
      up_to_parent e =
          let zb : z < length t.parents = (over-bound y z f).0 in
          let pos : 0 < z = positive z (λ q. never (Serializer z) (Site s) (w.seats s) e (subst (λ (m : ℕ). Chain t.parents (seat_of t s) m) (sym q) (to-root t w (length t.parents) (seat_of t s) (let a : seat_of t s < length t.parents = w.seats s in omega arith) (w.seats s)))) in
          let p : (p : ℕ) × (parent_of t.parents z ≡ Some p) = w.hung z pos zb in
          let o : over t (Serializer z) ≡ Some p.0 = over-hung z p.0 p.1 in (
            Serializer p.0,
            edge-down t (Serializer z) p.0 o,
            beyond-child (Serializer p.0) (Serializer z) (Site s) p.0 refl o ∙ e,
            λ k q. beyond-child (Serializer p.0) (Serializer z) (Site k) p.0 refl o ∙ of-under t w (Serializer z) (Site k) (w.seats k) (under-over t y (Site k) z f (under-of t y (Site k) (sym (beyond-child (Serializer z) y (Site k) z refl f) ∙ q))),
          )
        where
          positive : (n : ℕ) → (n ≡ 0 → ⊥) → 0 < n
          positive n q = grind arith

      go : (c : Bool) → under t (Serializer z) (Site s) ≡ c → First (Serializer z) y s
      go true e =
          first-child z s y (under-of t (Serializer z) (Site s) e)
          (λ c o u k b' v. let same : y ≡ c = apart t w y c (Site k) z f o (under-of t y (Site k) (sym (beyond-child (Serializer z) y (Site k) z refl f) ∙ b')) v in
          never y (Site s) (w.seats s) out (subst (λ (m : NodeId). Under t m (Site s)) (sym same) u))
      go false e = up_to_parent e

  first-up : (u y : NodeId) (r s : ℕ) → y ≡ Serializer r → over t u ≡ Some r → beyond t u y (Site s) ≡ false → (Site s ≡ u → ⊥) → First u y s
  first-up (Site i) y r s e f b n = absurd (n (under-of t (Site i) (Site s) (not-false (under t (Site i) (Site s)) (sym (beyond-parent (Site i) y (Site s) r e f) ∙ b))))
  first-up (Serializer z) y r s e f b n =
      first-child z s y (under-of t (Serializer z) (Site s) (not-false (under t (Serializer z) (Site s)) (sym (beyond-parent (Serializer z) y (Site s) r e f) ∙ b)))
      (λ c o u k b' v. never (Serializer z) (Site k) (w.seats k) (not-true (under t (Serializer z) (Site k)) (sym (beyond-parent (Serializer z) y (Site k) r e f) ∙ b')) (under-over t c (Site k) z o v))

  law-first : (u y : NodeId) (s : ℕ) → Edge t u y → beyond t u y (Site s) ≡ false → (Site s ≡ u → ⊥) → First u y s
  law-first u y s (to_child z e f) b n = subst (λ (m : NodeId). First m y s) (sym e) (first-down z s y f (subst (λ (m : NodeId). beyond t m y (Site s) ≡ false) e b))
  law-first u y s (to_parent r e f) b n = first-up u y r s e f b n

  law-back : (p q : NodeId) → Edge t p q → is_edge t q p ≡ true
  law-back p q (to_child z e f) = subst (λ (m : NodeId). is_edge t q m ≡ true) (sym e) (edge-up t q z f)
  law-back p q (to_parent z e f) = subst (λ (m : NodeId). is_edge t m p ≡ true) (sym e) (edge-down t p z f)

  -- a tree can be cut at its edges
  pub cuttable : IsCuttable t
  unfolding First
  cuttable = record {
    far = λ p q g. law-far p q (edge-of t p q g);
    parts = λ a x p q g k b c. law-parts a x p q (edge-of t a x g) (edge-of t p q k) b c;
    first = λ u y s g b n. law-first u y s (edge-of t u y g) b n;
    through = λ u v x k g f n b. law-through u v x k (edge-of t u v g) (edge-of t v x f) n b;
    back = λ p q g. law-back p q (edge-of t p q g);
    leaf = λ p j k g n. law-leaf p j k (edge-of t p (Site j) g) n;
  }
