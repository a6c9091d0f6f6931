-- Sums that stop at 2^64 - 1, and sums of what agrees.
use Rattle.std.specs.Prelude.{◌≡◌, ◌<◌, ◌+◌, ◌-◌, ◌^◌, ℕ, zero, suc, Bool, true, false, min, List, [], ◌∷◌, length, take, get_or, map, filter, refl}
use Rattle.std.proofs.Common.{sym, ap, ◌∙◌, arith}
use Rattle.std.specs.List.{All, sum_by}
use Rattle.std.proofs.lemmas.List.Sums.{sum_by-cons, sum_by_push, sum_by_more}
use Rattle.std.proofs.lemmas.List.Elements.{All-nil, All-cons, All-head, All-tail, All-append, All-map, All-push, All-weaker}
use Rattle.sat_label.specs.declared.node.NodeId.{NodeId}
use Rattle.sat_label.specs.declared.node.NodeId.TheVariants.{Site, Serializer}
use Rattle.sat_label.specs.Words.{below}
use Rattle.sat_tree.specs.Shape.{TreeShape}
use Rattle.sat_tree.specs.Cut.{neighbours, is_edge, IsNode}
use Rattle.sat_act.specs.Settling.{capped}
use Rattle.sat_serial.specs.Routes.{IsNeighbour}

-- ---- sums that stop

both-stop : (a b m : ℕ) → min (min a m + min b m) m ≡ min (a + b) m
both-stop a b m = omega arith

one-stops : (a b m : ℕ) → min (min a m + b) m ≡ min (a + b) m
one-stops a b m = omega arith

pub cap-both : (a b x y : ℕ) → x ≡ capped a → y ≡ capped b → min (x + y) (2 ^ 64 - 1) ≡ capped (a + b)
cap-both a b x y e f = (λ i. min (e i + f i) (2 ^ 64 - 1)) ∙ both-stop a b (2 ^ 64 - 1)

pub cap-one : (a b x y : ℕ) → x ≡ capped a → y ≡ b → min (x + y) (2 ^ 64 - 1) ≡ capped (a + b)
cap-one a b x y e f = (λ i. min (e i + f i) (2 ^ 64 - 1)) ∙ one-stops a b (2 ^ 64 - 1)

pub sum-more : (f : ℕ → ℕ) (n : ℕ) → sum_by f (below (n + 1)) ≡ sum_by f (below n) + f n
sum-more f n = ap (λ (m : ℕ). sum_by f (below m)) (let e : n + 1 ≡ suc n = omega arith in e) ∙ sum_by_push f (below n) n

-- one number more, which stops itself
pub sum-stops : (f : ℕ → ℕ) (n x y r : ℕ) → x ≡ capped (sum_by f (below n)) → y ≡ capped (f n) → r ≡ min (x + y) (2 ^ 64 - 1) → r ≡ capped (sum_by f (below (n + 1)))
sum-stops f n x y r e g h = h ∙ (cap-both (sum_by f (below n)) (f n) x y e g ∙ sym (ap capped (sum-more f n)))

-- one number more, which doesn't
pub sum-adds : (f : ℕ → ℕ) (n x y r : ℕ) → x ≡ capped (sum_by f (below n)) → y ≡ f n → r ≡ min (x + y) (2 ^ 64 - 1) → r ≡ capped (sum_by f (below (n + 1)))
sum-adds f n x y r e g h = h ∙ (cap-one (sum_by f (below n)) (f n) x y e g ∙ sym (ap capped (sum-more f n)))

-- one member of a list more
pub sum-takes : {X : Type 0} (f : X → ℕ) (xs : List X) (i x y r : ℕ) (d : X) → i < length xs → x ≡ capped (sum_by f (take i xs)) → y ≡ f (get_or xs i d) → r ≡ min (x + y) (2 ^ 64 - 1) →
    r ≡ capped (sum_by f (take (i + 1) xs))
sum-takes f xs i x y r d low e g h = h ∙ (cap-one (sum_by f (take i xs)) (f (get_or xs i d)) x y e g ∙ sym (ap capped (sum_by_more f xs i d low)))

-- ---- sums of what agrees

pub sums-agree : {X : Type 0} (P : X → Type 0) (f g : X → ℕ) (xs : List X) → All P xs → ((x : X) → P x → f x ≡ g x) → sum_by f xs ≡ sum_by g xs
sums-agree P f g [] all same = refl
sums-agree P f g (x ∷ xs) all same =
    sum_by-cons f x xs ∙ ((λ i. same x (All-head P x xs all) i + sums-agree P f g xs (All-tail P x xs all) same i) ∙ sym (sum_by-cons g x xs))

All-below : (n : ℕ) → All (λ k. k < n) (below n)
All-below zero = All-nil (λ k. k < 0)
All-below (suc n) = All-push (λ k. k < suc n) (below n) n (All-weaker (λ k. k < n) (λ k. k < suc n) (λ k under. omega arith) (below n) (All-below n)) (omega arith)

-- two functions that agree on the numbers below n
pub below-agree : (f g : ℕ → ℕ) (n : ℕ) → ((k : ℕ) → k < n → f k ≡ g k) → sum_by f (below n) ≡ sum_by g (below n)
below-agree f g n same = sums-agree (λ k. k < n) f g (below n) (All-below n) same

All-filtered : {X : Type 0} (p : X → Bool) (P Q : X → Type 0) → ((x : X) → P x → p x ≡ true → Q x) → (xs : List X) → All P xs → All Q (filter p xs)
All-filtered p P Q then [] all = All-nil Q
All-filtered p P Q then (x ∷ xs) all = go (p x) refl (All-filtered p P Q then xs (All-tail P x xs all))
  where
    go : (b : Bool) → p x ≡ b → All Q (filter p xs) → All Q (filter p (x ∷ xs))
    go true is rest = rw (is, filter) (All-cons Q x (filter p xs) (then x (All-head P x xs all) is) rest)
    go false is rest = rw (is, filter) rest

All-neighbours : (t : TreeShape) (z : ℕ) → All (IsNeighbour t z) (neighbours t z)
unfolding neighbours
All-neighbours t z =
    All-filtered (is_edge t (Serializer z)) (IsNode t) (IsNeighbour t z) (λ n node is. record { node = node; edge = is }) _
    (All-append (IsNode t) (map Site (below (length t.seats))) (map Serializer (below (length t.parents)))
    (All-map (IsNode t) Site (below (length t.seats)) (All-below (length t.seats)))
    (All-map (IsNode t) Serializer (below (length t.parents)) (All-below (length t.parents))))

-- two functions that agree on the neighbours of a serializer
pub neighbours-agree : (f g : NodeId → ℕ) (t : TreeShape) (z : ℕ) → ((v : NodeId) → IsNeighbour t z v → f v ≡ g v) → sum_by f (neighbours t z) ≡ sum_by g (neighbours t z)
neighbours-agree f g t z same = sums-agree (IsNeighbour t z) f g (neighbours t z) (All-neighbours t z) same
