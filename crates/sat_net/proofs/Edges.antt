-- The edges of a tree, and which labels leave a site.
use Rattle.std.specs.Prelude.{◌≡◌, ◌⊎◌, ◌<◌, ℕ, Bool, true, false, not, ◌&&◌, ◌||◌, ◌==◌, [], ◌∷◌, length, Option, Some, None, slice_get, unwrap_or, refl}
use Rattle.std.proofs.Common.{sym, subst, ap, ◌∙◌, arith, inl, inr}
use Rattle.std.proofs.lemmas.Bool.{and_parts, cases_Bool, eqb-true, ne_eqb, or_cases}
use Rattle.sat_label.proofs.Truth.{or-false, same-number}
use Rattle.sat_label.specs.declared.label.Label.{Label}
use Rattle.sat_label.specs.declared.node.NodeId.{NodeId}
use Rattle.sat_label.specs.declared.node.NodeId.TheVariants.{Site, Serializer}
use Rattle.sat_label.specs.Words.{has}
use Rattle.sat_sites.specs.Interested.{Interested, is_for}
use Rattle.sat_tree.specs.Shape.{TreeShape}
use Rattle.sat_tree.specs.Cut.{parent_of, seat_of, over, hangs_on, is_edge, under, beyond, IsTree}
use Rattle.sat_serial.specs.Routes.{leads}
use Rattle.sat_serial.proofs.Ways.{some-below, below-some}

or-swap : (a b : Bool) → (a || b) ≡ (b || a)
or-swap true true = refl
or-swap true false = refl
or-swap false true = refl
or-swap false false = refl

pub turned-edge : (t : TreeShape) (u v : NodeId) → is_edge t u v ≡ is_edge t v u
unfolding is_edge
turned-edge t u v = or-swap (hangs_on t u v) (hangs_on t v u)

-- a site's edge is that to its seat
site-edge : (t : TreeShape) (i z : ℕ) → is_edge t (Site i) (Serializer z) ≡ (seat_of t i == z)
unfolding is_edge hangs_on over
site-edge t i z = or-false ((seat_of t i == z) || false) ∙ or-false (seat_of t i == z)

-- two sites have none
pub no-edge : (t : TreeShape) (i k : ℕ) → is_edge t (Site i) (Site k) ≡ false
unfolding is_edge hangs_on
no-edge t i k = refl

pub at-seat : (t : TreeShape) (i z : ℕ) → is_edge t (Site i) (Serializer z) ≡ true → seat_of t i ≡ z
at-seat t i z e = eqb-true (seat_of t i) z (sym (site-edge t i z) ∙ e)

pub to-seat : (t : TreeShape) (i : ℕ) → is_edge t (Site i) (Serializer (seat_of t i)) ≡ true
to-seat t i = site-edge t i (seat_of t i) ∙ same-number (seat_of t i)

pub from-seat : (t : TreeShape) (i : ℕ) → is_edge t (Serializer (seat_of t i)) (Site i) ≡ true
from-seat t i = turned-edge t (Serializer (seat_of t i)) (Site i) ∙ to-seat t i

pub read-seat : (t : TreeShape) (i r : ℕ) → Some r ≡ slice_get t.seats i → r ≡ seat_of t i
unfolding seat_of
read-seat t i r e = ap (λ (o : Option ℕ). unwrap_or o 0) e

parent-edge : (t : TreeShape) (y z : ℕ) (o : Option ℕ) → parent_of t.parents y ≡ o → has ◌==◌ (elim o [ None ↦ [] | Some p ↦ p ∷ [] ]) z ≡ true → parent_of t.parents y ≡ Some z
parent-edge t y z None e f = absurd (cc)
parent-edge t y z (Some p) e f = e ∙ ap (λ (n : ℕ). Some n) (eqb-true p z (sym (or-false (p == z)) ∙ f))

hangs-parent : (t : TreeShape) (y z : ℕ) → hangs_on t (Serializer y) (Serializer z) ≡ true → parent_of t.parents y ≡ Some z
unfolding hangs_on over
hangs-parent t y z e = parent-edge t y z (parent_of t.parents y) refl e

edge-parents : (t : TreeShape) (y z : ℕ) → is_edge t (Serializer y) (Serializer z) ≡ true → (parent_of t.parents y ≡ Some z) ⊎ (parent_of t.parents z ≡ Some y)
unfolding is_edge
edge-parents t y z e = elim (or_cases (hangs_on t (Serializer y) (Serializer z)) (hangs_on t (Serializer z) (Serializer y)) e) [
  | inl f ↦ inl (hangs-parent t y z f)
  | inr f ↦ inr (hangs-parent t z y f)
]

-- the two ends of an edge between serializers differ, and the far one is a serializer of the tree
pub record AreApart (t : TreeShape) (y z : ℕ) : Type 0 where
  pub apart : (y == z) ≡ false
  pub second : z < length t.parents

pub apart : (t : TreeShape) (y z : ℕ) → IsTree t → is_edge t (Serializer y) (Serializer z) ≡ true → AreApart t y z
apart t y z k e = elim (edge-parents t y z e) [
  | inl f ↦ let d : z < y = k.down y z f in let i : y < length t.parents = k.inner y z f in record { apart = ne_eqb y z (λ s. absurd (omega arith)); second = omega arith }
  | inr f ↦ let d : y < z = k.down z y f in let i : z < length t.parents = k.inner z y f in record { apart = ne_eqb y z (λ s. absurd (omega arith)); second = i }
]

-- a serializer at the end of an edge is one of the tree
pub edge-within : (t : TreeShape) (u : NodeId) (z : ℕ) → IsTree t → is_edge t u (Serializer z) ≡ true → z < length t.parents
edge-within t (Site i) z k f = let s : seat_of t i ≡ z = at-seat t i z f in let q : seat_of t i < length t.parents = k.seats i in omega arith
edge-within t (Serializer y) z k f = (apart t y z k f).second

-- ---- where a label leads

-- beyond a site's own edge lie all other sites
beyond-out : (t : TreeShape) (i z k : ℕ) → beyond t (Site i) (Serializer z) (Site k) ≡ not (i == k)
unfolding beyond hangs_on under
beyond-out t i z k = refl

not-self : (a : Interested) (l : Label) (i k : ℕ) → is_for a l i ≡ false → is_for a l k ≡ true → (i == k) ≡ false
not-self a l i k no_ ok = ne_eqb i k (λ same. absurd (let e : is_for a l k ≡ false = subst (λ (n : ℕ). is_for a l n ≡ false) same no_ in cc))

pub leaves : (a : Interested) (t : TreeShape) (i z k : ℕ) (l : Label) → is_for a l i ≡ false → k < a.sites → is_for a l k ≡ true → leads a t (Site i) (Serializer z) l ≡ true
unfolding leads
leaves a t i z k l own lt f =
    let ne : (i == k) ≡ false = not-self a l i k own f in
    below-some (λ k. is_for a l k && beyond t (Site i) (Serializer z) (Site k)) a.sites k lt (rw (f, beyond-out t i z k, ne) refl)

pub stays : (a : Interested) (t : TreeShape) (u v : NodeId) (l : Label) → ((k : ℕ) → k < a.sites → is_for a l k ≡ true → ⊥) → leads a t u v l ≡ false
unfolding leads
stays a t u v l none = elim (cases_Bool (leads a t u v l)) [
  | inl e ↦ absurd (let s : (k : ℕ) × (k < a.sites) × ((is_for a l k && beyond t u v (Site k)) ≡ true) = some-below (λ k. is_for a l k && beyond t u v (Site k)) a.sites e in none s.0 s.1 (and_parts (is_for a l s.0) (beyond t u v (Site s.0)) s.2).0)
  | inr e ↦ e
]
