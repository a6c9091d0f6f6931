-- Members of lists.
use Rattle.std.specs.Prelude.{◌≡◌, ◌⊎◌, ℕ, zero, suc, Bool, true, false, ◌||◌, List, [], ◌∷◌, ◌++◌, filter, Some, slice_get, refl, cond}
use Rattle.std.proofs.Common.{sym, subst, inl, inr, ap, ◌∙◌}
use Rattle.std.proofs.lemmas.Bool.{or_left, or_right}
use Rattle.sat_label.specs.declared.label.Label.{Label}
use Rattle.sat_label.specs.Order.{label_eq}
use Rattle.sat_label.specs.Words.{has}
use Rattle.sat_label.specs.Members.{In}
use Rattle.sat_label.proofs.Orders.{label_eq-self, same-label}

pub In-left : {X : Type 0} (xs ys : List X) (x : X) → In xs x → In (xs ++ ys) x
In-left [] ys x i = absurd i
In-left (y ∷ xs) ys x (inl e) = inl e
In-left (y ∷ xs) ys x (inr i) = inr (In-left xs ys x i)

pub In-right : {X : Type 0} (xs ys : List X) (x : X) → In ys x → In (xs ++ ys) x
In-right [] ys x i = i
In-right (y ∷ xs) ys x i = inr (In-right xs ys x i)

pub In-parts : {X : Type 0} (xs ys : List X) (x : X) → In (xs ++ ys) x → In xs x ⊎ In ys x
In-parts [] ys x i = inr i
In-parts (y ∷ xs) ys x (inl e) = inl (inl e)
In-parts (y ∷ xs) ys x (inr i) = elim (In-parts xs ys x i) [ inl a ↦ inl (inr a) | inr b ↦ inr b ]

pub In-get : {X : Type 0} (xs : List X) (n : ℕ) (x : X) → slice_get xs n ≡ Some x → In xs x
In-get [] n x e = absurd (cc)
In-get (y ∷ xs) zero x e = inl (cc)
In-get (y ∷ xs) (suc n) x e = inr (In-get xs n x e)

In-cond : {X : Type 0} (p : X → Bool) (y x : X) (ys xs : List X) (b : Bool) → p y ≡ b → (In ys x → In xs x × (p x ≡ true)) → In (cond b (y ∷ ys) ys) x → In (y ∷ xs) x × (p x ≡ true)
In-cond p y x ys xs true e rest (inl k) = (inl k, ap p (sym k) ∙ e)
In-cond p y x ys xs true e rest (inr j) = let w : In xs x × (p x ≡ true) = rest j in (inr w.0, w.1)
In-cond p y x ys xs false e rest j = let w : In xs x × (p x ≡ true) = rest j in (inr w.0, w.1)

pub In-filter : {X : Type 0} (p : X → Bool) (xs : List X) (x : X) → In (filter p xs) x → In xs x × (p x ≡ true)
In-filter p [] x i = absurd i
In-filter p (y ∷ xs) x i = In-cond p y x (filter p xs) xs (p y) refl (In-filter p xs x) i

into-cond : {X : Type 0} (p : X → Bool) (y x : X) (ys : List X) (b : Bool) → p y ≡ b → p x ≡ true → (y ≡ x) ⊎ In ys x → In (cond b (y ∷ ys) ys) x
into-cond p y x ys true e k i = i
into-cond p y x ys false e k (inl w) = absurd (let q : p y ≡ p x = ap p w in cc)
into-cond p y x ys false e k (inr i) = i

pub into-filter : {X : Type 0} (p : X → Bool) (xs : List X) (x : X) → In xs x → p x ≡ true → In (filter p xs) x
into-filter p [] x i k = absurd i
into-filter p (y ∷ xs) x (inl e) k = into-cond p y x (filter p xs) (p y) refl k (inl e)
into-filter p (y ∷ xs) x (inr i) k = into-cond p y x (filter p xs) (p y) refl k (inr (into-filter p xs x i k))

-- ---- labels in a list, by the test

has-step : (l m : Label) (ms : List Label) (b : Bool) → label_eq m l ≡ b → (has label_eq ms l ≡ true → In ms l) → (b || has label_eq ms l) ≡ true → In (m ∷ ms) l
has-step l m ms true e rest k = inl (same-label m l e)
has-step l m ms false e rest k = inr (rest k)

pub has-in : (ms : List Label) (l : Label) → has label_eq ms l ≡ true → In ms l
has-in [] l e = absurd (cc)
has-in (m ∷ ms) l e = has-step l m ms (label_eq m l) refl (has-in ms l) e

pub in-has : (ms : List Label) (l : Label) → In ms l → has label_eq ms l ≡ true
in-has [] l i = absurd i
in-has (m ∷ ms) l (inl e) = or_left (label_eq m l) (has label_eq ms l) (subst (λ (x : Label). label_eq m x ≡ true) e (label_eq-self m))
in-has (m ∷ ms) l (inr i) = or_right (label_eq m l) (has label_eq ms l) (in-has ms l i)
