-- Members of lists, by their numbers.
use Rattle.std.proofs.Common.{◌≡◌, ◌≢◌, ℕ, zero, suc, ◌+◌, ◌<◌, ◌≤◌, List, [], ◌∷◌, ◌++◌, length, slice_set, map, Some, slice_get, refl, sym, ap, ◌∙◌, subst, arith, ⊎_elim, ◌⊎◌, inl, inr}
use Rattle.std.proofs.lemmas.Bool.{cases_eq}
use Rattle.std.proofs.lemmas.List.{length-set}
use Rattle.std.proofs.lemmas.Option.{slice_get_within}
use Rattle.sat_node.specs.Links.{Each, OnlyAt, Both}

-- a member after another was replaced
pub get_set : {X : Type 0} (xs : List X) (i j : ℕ) (y x : X) → slice_get (slice_set xs i y) j ≡ Some x → ((j ≡ i) × (y ≡ x)) ⊎ ((j ≢ i) × (slice_get xs j ≡ Some x))
get_set [] i j y x e = absurd (cc)
get_set (a ∷ as') zero zero y x e = inl (refl, cc (e))
get_set (a ∷ as') zero (suc j) y x e = inr ((λ h. omega arith), e)
get_set (a ∷ as') (suc i) zero y x e = inr ((λ h. omega arith), e)
get_set (a ∷ as') (suc i) (suc j) y x e = ⊎_elim (λ t. inl (ap suc t.0, t.1)) (λ t. let n = t.0 in inr ((λ h. n (omega arith)), t.1)) (get_set as' i j y x e)

-- the last of a list, or one before it
pub get_next : {X : Type 0} (xs : List X) (y x : X) (k : ℕ) → slice_get (xs ++ y ∷ []) k ≡ Some x → (slice_get xs k ≡ Some x) ⊎ (y ≡ x)
get_next [] y x zero e = inr (cc (e))
get_next [] y x (suc k) e = absurd (cc (e))
get_next (a ∷ as') y x zero e = inl e
get_next (a ∷ as') y x (suc k) e = get_next as' y x k e

-- one member was replaced
pub replaced : {X : Type 0} (R : X → X → Type 0) (xs : List X) (link : ℕ) (old new : X) → slice_get xs link ≡ Some old → R old new → OnlyAt link R xs (slice_set xs link new)
replaced {X} R xs link old new at_old holds = (length-set xs link new, each) where
  each : (k : ℕ) (o : X) → slice_get (slice_set xs link new) k ≡ Some o → (p : X) × (slice_get xs k ≡ Some p) × ((k ≢ link → o ≡ p) × (k ≡ link → R p o))
  each k o at =
      ⊎_elim
      (λ (x : (k ≡ link) × (new ≡ o)). (old, ap (slice_get xs) x.0 ∙ at_old, ((λ h. absurd (h x.0)), (λ h. subst (R old) x.1 holds))))
      (λ (x : (k ≢ link) × (slice_get xs k ≡ Some o)). (o, x.1, ((λ h. refl), (λ h. absurd (x.0 h)))))
      (get_set xs link k new o at)

-- what holds of each member holds after one was replaced
pub each_set : {X : Type 0} (P : ℕ → X → Type 0) (xs : List X) (link : ℕ) (new : X) → Each xs P → P link new → Each (slice_set xs link new) P
each_set {X} P xs link new all here k x at =
    ⊎_elim
    (λ (e : (k ≡ link) × (new ≡ x)). subst (λ (y : ℕ × X). P y.0 y.1) (λ d. (sym e.0 d, e.1 d)) here)
    (λ (e : (k ≢ link) × (slice_get xs k ≡ Some x)). all k x e.1)
    (get_set xs link k new x at)

-- where the member of this number has other facts than the others
pub each_but : {X : Type 0} (P Q : ℕ → X → Type 0) (xs : List X) (link : ℕ) (new : X) → Each xs P → ((k : ℕ) (x : X) → k ≢ link → P k x → Q k x) → Q link new → Each (slice_set xs link new) Q
each_but {X} P Q xs link new all others here k x at =
    ⊎_elim
    (λ (e : (k ≡ link) × (new ≡ x)). subst (λ (y : ℕ × X). Q y.0 y.1) (λ d. (sym e.0 d, e.1 d)) here)
    (λ (e : (k ≢ link) × (slice_get xs k ≡ Some x)). others k x e.0 (all k x e.1))
    (get_set xs link k new x at)

-- the places of a list stay where the replaced member has the old one's
pub places_set : {X : Type 0} (f : X → ℕ) (xs : List X) (link : ℕ) (old new : X) → slice_get xs link ≡ Some old → f new ≡ f old → map f (slice_set xs link new) ≡ map f xs
places_set f [] link old new at same = refl
places_set f (x ∷ xs) zero old new at same = (let e : x ≡ old = cc (at) in ap (λ n. n ∷ map f xs) (same ∙ ap f (sym e)))
places_set f (x ∷ xs) (suc link) old new at same = ap (λ l. f x ∷ l) (places_set f xs link old new at same)

-- a member of a list with one behind it, and that one
pub get_front : {X : Type 0} (xs : List X) (y x : X) (k : ℕ) → slice_get xs k ≡ Some x → slice_get (xs ++ y ∷ []) k ≡ Some x
get_front [] y x k at = absurd (cc (at))
get_front (a ∷ as') y x zero at = at
get_front (a ∷ as') y x (suc k) at = get_front as' y x k at

pub get_last : {X : Type 0} (xs : List X) (y : X) (n : ℕ) → length xs ≡ n → slice_get (xs ++ y ∷ []) n ≡ Some y
get_last [] y zero e = refl
get_last [] y (suc n) e = absurd (omega arith)
get_last (a ∷ as') y zero e = absurd (omega arith)
get_last (a ∷ as') y (suc n) e = get_last as' y n (omega arith)

pub both_same : {X : Type 0} (R : ℕ → X → X → Type 0) (a : List X) → ((k : ℕ) (x : X) → R k x x) → Both R a a
both_same R a same = (refl, λ k y at. (y, at, same k y))

-- two changes, one behind the other
pub both_then : {X : Type 0} (R S T : ℕ → X → X → Type 0) (a b c : List X) → ((k : ℕ) (x y z : X) → R k x y → S k y z → T k x z) → Both R a b → Both S b c → Both T a c
both_then R S T a b c step ab bc = (bc.0 ∙ ab.0, λ k z at. let h = bc.1 k z at in let g = ab.1 k h.0 h.1 in (g.0, g.1, step k g.0 h.0 z g.2 h.2))

-- and one of a single member behind it
pub both_only : {X : Type 0} (S : ℕ → X → X → Type 0) (R : X → X → Type 0) (n : ℕ) (a b c : List X) → ((k : ℕ) (x y z : X) → S k x y → R y z → S k x z) → Both S a b → OnlyAt n R b c → Both S a c
both_only {X} S R n a b c step ab bc = (bc.0 ∙ ab.0, each) where
  each : (k : ℕ) (z : X) → slice_get c k ≡ Some z → (x : X) × (slice_get a k ≡ Some x) × S k x z
  each k z at =
      let h = bc.1 k z at in
      let g = ab.1 k h.0 h.1 in
      ⊎_elim (λ (is : k ≡ n). (g.0, g.1, step k g.0 h.0 z g.2 (h.2.1 is))) (λ (no : k ≢ n). (g.0, g.1, subst (λ (w : X). S k g.0 w) (sym (h.2.0 no)) g.2)) (cases_eq k n)

-- what holds of each member, where one was changed
pub each_only : {X : Type 0} (P Q : ℕ → X → Type 0) (R : X → X → Type 0) (n : ℕ) (b c : List X) → ((k : ℕ) (x : X) → k ≢ n → P k x → Q k x) → ((y z : X) → R y z → Q n z) → Each b P → OnlyAt n R b c → Each c Q
each_only {X} P Q R n b c stays new all bc k z at =
    let h = bc.1 k z at in
    ⊎_elim (λ (is : k ≡ n). subst (λ (j : ℕ). Q j z) (sym is) (new h.0 z (h.2.1 is))) (λ (no : k ≢ n). subst (Q k) (sym (h.2.0 no)) (stays k h.0 no (all k h.0 h.1))) (cases_eq k n)

-- what goes over from each member to the one that it became
pub each_both : {X : Type 0} (R : ℕ → X → X → Type 0) (P Q : ℕ → X → Type 0) (a b : List X) → ((k : ℕ) (x y : X) → R k x y → P k x → Q k y) → Both R a b → Each a P → Each b Q
each_both R P Q a b goes ab all k y at = (let h = ab.1 k y at in goes k h.0 y h.2 (all k h.0 h.1))

-- the members from the n-th on changed so, and no other did
abbrev pub From : {X : Type 0} → ℕ → (ℕ → X → X → Type 0) → List X → List X → Type 0
From {X} n R old new =
    (length new ≡ length old) × ((k : ℕ) (y : X) → slice_get new k ≡ Some y → (x : X) × (slice_get old k ≡ Some x) × ((n ≤ k → R k x y) × (k < n → y ≡ x)))

pub from_none : {X : Type 0} (R : ℕ → X → X → Type 0) (n : ℕ) (a : List X) → length a ≡ n → From n R a a
from_none R n a all = (refl, λ k y at. (y, at, ((λ l. absurd (let w = slice_get_within a k y at in omega arith)), (λ l. refl))))

pub from_more : {X : Type 0} (R : ℕ → X → X → Type 0) (n m : ℕ) (a b c : List X) → m ≡ n + 1 → From m R a b → OnlyAt n (R n) b c → From n R a c
from_more {X} R n m a b c next ab bc = (bc.0 ∙ ab.0, each) where
  each : (k : ℕ) (z : X) → slice_get c k ≡ Some z → (x : X) × (slice_get a k ≡ Some x) × ((n ≤ k → R k x z) × (k < n → z ≡ x))
  each k z at =
      let h = bc.1 k z at in
      let g = ab.1 k h.0 h.1 in
      let above : n ≤ k → R k g.0 z = λ le.
      ⊎_elim
      (λ (is : k ≡ n).
      let under : k < m = omega arith in
      let old : h.0 ≡ g.0 = g.2.1 under in
      subst (λ (x : X). R k x z) old (subst (λ (j : ℕ). R j h.0 z) (sym is) (h.2.1 is)))
      (λ (no : k ≢ n).
      let over : m ≤ k = (let differ : k ≡ n → ⊥ = no in omega arith) in
      subst (λ (y : X). R k g.0 y) (sym (h.2.0 no)) (g.2.0 over))
      (cases_eq k n) in
      let below : k < n → z ≡ g.0 = λ less.
      let no : k ≢ n = λ e. omega arith in
      let under : k < m = omega arith in
      h.2.0 no ∙ g.2.1 under in
      (g.0, g.1, (above, below))

pub from_all : {X : Type 0} (R : ℕ → X → X → Type 0) (n : ℕ) (a b : List X) → n ≡ 0 → From n R a b → Both R a b
from_all R n a b none ab = (ab.0, λ k y at. let h = ab.1 k y at in let le : n ≤ k = omega arith in (h.0, h.1, h.2.0 le))

-- what holds of the n-th member of what was there before
pub from_at : {X : Type 0} (R : ℕ → X → X → Type 0) (P : ℕ → X → Type 0) (n m : ℕ) (a b : List X) → m ≡ n + 1 → From m R a b → Each a P → Each b (λ k x. k ≡ n → P n x)
from_at {X} R P n m a b next ab all k y at is =
    let h = ab.1 k y at in
    let under : k < m = omega arith in
    subst (λ (j : ℕ). P j y) is (subst (P k) (sym (h.2.1 under)) (all k h.0 h.1))
