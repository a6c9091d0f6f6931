-- Lists, how they begin, and their places.
use Rattle.std.proofs.Common.{◌≡◌, ◌⊎◌, ◌<◌, ◌≤◌, ℕ, zero, suc, ◌+◌, Bool, true, false, cond, List, [], ◌∷◌, ◌++◌, length, filter, take, Some, slice_get, refl, sym, ap, subst, inl, inr, ◌∙◌, if◌then◌else◌, append_assoc, append-nil, arith, length-append}
use Rattle.std.proofs.lemmas.List.Elements.{filter-append}
use Rattle.sat_label.specs.declared.label.Label.{Label}
use Rattle.sat_label.specs.declared.node.NodeId.{NodeId}
use Rattle.sat_label.specs.Order.{node_eq}
use Rattle.sat_label.specs.Members.{In}
use Rattle.sat_label.proofs.Members.{In-left}
use Rattle.sat_label.proofs.SameNodes.{node-self}
use Rattle.sat_chain_laws.specs.Rows.{Pair, IsPrefix, labels_from}

pub some_is : {X : Type 0} (x y : X) → Some x ≡ Some y → x ≡ y
some_is x y e = cc

pub prefix-self : {X : Type 0} (xs : List X) → IsPrefix xs xs
prefix-self xs = ([], sym (append-nil xs))

pub prefix-nil : {X : Type 0} (xs : List X) → IsPrefix [] xs
prefix-nil xs = (xs, refl)

pub prefix-more : {X : Type 0} (xs ys : List X) → IsPrefix xs (xs ++ ys)
prefix-more xs ys = (ys, refl)

pub prefix-trans : {X : Type 0} (xs ys zs : List X) → IsPrefix xs ys → IsPrefix ys zs → IsPrefix xs zs
prefix-trans {X} xs ys zs p q = (p.0 ++ q.0, q.1 ∙ ap (λ (l : List X). l ++ q.0) p.1 ∙ append_assoc xs p.0 q.0)

pub place-at : {X : Type 0} (ys more : List X) (p : X) → slice_get (ys ++ p ∷ more) (length ys) ≡ Some p
place-at [] more p = refl
place-at (y ∷ ys) more p = place-at ys more p

at-seam : {X : Type 0} (ys rest : List X) (p : X) → slice_get (ys ++ rest) (length ys) ≡ Some p → (more : List X) × (rest ≡ p ∷ more)
at-seam [] [] p e = absurd (cc)
at-seam {X} [] (x ∷ xs) p e = (xs, ap (λ (y : X). y ∷ xs) (some_is x p e))
at-seam (y ∷ ys) rest p e = at-seam ys rest p e

-- a list that begins so, and has p next, begins so with p
pub prefix-grow : {X : Type 0} (ys xs : List X) (p : X) → IsPrefix ys xs → slice_get xs (length ys) ≡ Some p → IsPrefix (ys ++ p ∷ []) xs
prefix-grow {X} ys xs p q e =
    let w : (more : List X) × (q.0 ≡ p ∷ more) = at-seam ys q.0 p (subst (λ (l : List X). slice_get l (length ys) ≡ Some p) q.1 e) in
    (w.0, q.1 ∙ ap (λ (l : List X). ys ++ l) w.1 ∙ sym (append_assoc ys (p ∷ []) w.0))

pub prefix-place : {X : Type 0} (ys xs : List X) (p : X) → IsPrefix (ys ++ p ∷ []) xs → slice_get xs (length ys) ≡ Some p
prefix-place {X} ys xs p q =
    subst (λ (l : List X). slice_get l (length ys) ≡ Some p) (sym (q.1 ∙ append_assoc ys (p ∷ []) q.0)) (place-at ys q.0 p)

pub prefix-length : {X : Type 0} (ys xs : List X) → IsPrefix ys xs → length ys ≤ length xs
prefix-length ys xs q = let e : length xs ≡ length ys + length q.0 = ap length q.1 ∙ length-append ys q.0 in omega arith

pub prefix-in : {X : Type 0} (ys xs : List X) (x : X) → IsPrefix ys xs → In ys x → In xs x
prefix-in {X} ys xs x q i = subst (λ (l : List X). In l x) (sym q.1) (In-left ys q.0 x i)

-- ---- the labels that came from a neighbour

pub labels-append : (u : NodeId) (xs ys : List Pair) → labels_from u (xs ++ ys) ≡ labels_from u xs ++ labels_from u ys
unfolding labels_from
labels-append u [] ys = refl
labels-append u (p ∷ ps) ys = go (node_eq p.from u) (labels-append u ps ys)
  where
    go : (b : Bool) → labels_from u (ps ++ ys) ≡ labels_from u ps ++ labels_from u ys →
        (if b then p.label ∷ labels_from u (ps ++ ys) else labels_from u (ps ++ ys)) ≡ (if b then p.label ∷ labels_from u ps else labels_from u ps) ++ labels_from u ys
    go true e = ap (λ (l : List Label). p.label ∷ l) e
    go false e = e

pub labels-prefix : (u : NodeId) (ys xs : List Pair) → IsPrefix ys xs → IsPrefix (labels_from u ys) (labels_from u xs)
labels-prefix u ys xs q = (labels_from u q.0, ap (labels_from u) q.1 ∙ labels-append u ys q.0)

pub labels-own : (p : Pair) → labels_from p.from (p ∷ []) ≡ p.label ∷ []
unfolding labels_from
labels-own p = ap (λ (b : Bool). if b then p.label ∷ [] else []) (node-self p.from)

pub labels-other : (u : NodeId) (p : Pair) → node_eq p.from u ≡ false → labels_from u (p ∷ []) ≡ []
unfolding labels_from
labels-other u p e = ap (λ (b : Bool). if b then p.label ∷ [] else []) e

pub labels-in : (xs : List Pair) (p : Pair) → In xs p → In (labels_from p.from xs) p.label
unfolding labels_from
labels-in [] p i = absurd i
labels-in (q ∷ qs) p i = go (labels-in qs p) (node_eq q.from p.from) refl i
  where
    go : (In qs p → In (labels_from p.from qs) p.label) → (b : Bool) → node_eq q.from p.from ≡ b → (q ≡ p) ⊎ In qs p → In (if b then q.label ∷ labels_from p.from qs else labels_from p.from qs) p.label
    go rest true e (inl s) = inl (ap (λ (r : Pair). r.label) s)
    go rest true e (inr j) = inr (rest j)
    go rest false e (inl s) = absurd (let k : node_eq q.from p.from ≡ true = subst (λ (r : Pair). node_eq q.from r.from ≡ true) s (node-self q.from) in cc)
    go rest false e (inr j) = rest j

-- ---- two places in one list

-- what stands between two places begins with what stands at the first
pub between : {X : Type 0} (xs : List X) (a b : ℕ) → a < b → b ≤ length xs → (p : X) × (more : List X) × (slice_get xs a ≡ Some p) × (take b xs ≡ take a xs ++ p ∷ more)
between [] a b lt le = absurd (omega (arith, lt, le))
between (x ∷ xs) zero zero lt le = absurd (omega arith)
between (x ∷ xs) zero (suc b) lt le = (x, take b xs, refl, refl)
between (x ∷ xs) (suc a) zero lt le = absurd (omega arith)
between {X} (x ∷ xs) (suc a) (suc b) lt le =
    let w : (p : X) × (more : List X) × (slice_get xs a ≡ Some p) × (take b xs ≡ take a xs ++ p ∷ more) = between xs a b (omega arith) (omega arith) in
    (w.0, w.1, w.2, ap (λ (l : List X). x ∷ l) w.3)

-- fewer pass before a place where one passes than up to a later place
pub fewer : {X : Type 0} (g : X → Bool) (xs more : List X) (p : X) → g p ≡ true → length (filter g xs) < length (filter g (xs ++ p ∷ more))
fewer {X} g xs more p e =
    let k : length (filter g (xs ++ p ∷ more)) ≡ length (filter g xs) + length (filter g (p ∷ more)) = ap length (filter-append g xs (p ∷ more)) ∙ length-append (filter g xs) (filter g (p ∷ more)) in
    let n : length (filter g (p ∷ more)) ≡ suc (length (filter g more)) = ap (λ (b : Bool). length (cond b (p ∷ filter g more) (filter g more))) e in
    omega arith
