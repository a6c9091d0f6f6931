-- Members of two lists, by their numbers.
use Rattle.std.proofs.Common.{◌≡◌, ◌≢◌, ℕ, ◌+◌, ◌<◌, ◌≤◌, List, length, Some, slice_get, inl, inr, refl, sym, ◌∙◌, subst, arith}
use Rattle.std.proofs.lemmas.Bool.{cases_eq}
use Rattle.std.proofs.lemmas.Option.{slice_get_within}
use Rattle.sat_node.specs.Links.{OnlyAt}
use Rattle.sat_passes.specs.Members.{Both}

-- of two changes of one member
pub only_then : {X : Type 0} (R S T : X → X → Type 0) (link : ℕ) (a b c : List X) → ((x y z : X) → R x y → S y z → T x z) → OnlyAt link R a b → OnlyAt link S b c → OnlyAt link T a c
only_then {X} R S T link a b c step ab bc = (bc.0 ∙ ab.0, each) where
  each : (k : ℕ) (z : X) → slice_get c k ≡ Some z → (x : X) × (slice_get a k ≡ Some x) × ((k ≢ link → z ≡ x) × (k ≡ link → T x z))
  each k z at =
      let h = bc.1 k z at in
      let g = ab.1 k h.0 h.1 in
      (g.0, g.1, ((λ n. h.2.0 n ∙ g.2.0 n), (λ e. step g.0 h.0 z (g.2.1 e) (h.2.1 e))))

-- where nothing changed
pub only_same : {X : Type 0} (R : X → X → Type 0) (link : ℕ) (a : List X) → ((x : X) → R x x) → OnlyAt link R a a
only_same R link a same = (refl, λ k y at. (y, at, ((λ n. refl), (λ e. same y))))

-- a weaker relation
pub only_as : {X : Type 0} (R S : X → X → Type 0) (link : ℕ) (a b : List X) → ((x y : X) → R x y → S x y) → OnlyAt link R a b → OnlyAt link S a b
only_as R S link a b weaker ab = (ab.0, λ k y at. let h = ab.1 k y at in (h.0, h.1, (h.2.0, (λ e. weaker h.0 y (h.2.1 e)))))

-- the first n members changed so, and no other did
abbrev pub First : {X : Type 0} → ℕ → (ℕ → X → X → Type 0) → List X → List X → Type 0
First {X} n R old new =
    (length new ≡ length old) × ((k : ℕ) (y : X) → slice_get new k ≡ Some y → (x : X) × (slice_get old k ≡ Some x) × ((k < n → R k x y) × (n ≤ k → y ≡ x)))

pub first_none : {X : Type 0} (R : ℕ → X → X → Type 0) (a : List X) → First 0 R a a
first_none R a = (refl, λ k y at. (y, at, ((λ l. absurd (omega arith)), (λ l. refl))))

pub first_more : {X : Type 0} (R S : ℕ → X → X → Type 0) (n : ℕ) (a b c : List X) → ((k : ℕ) (x y : X) → R k x y → S k x y) → First n R a b → OnlyAt n (S n) b c → First (n + 1) S a c
first_more {X} R S n a b c weaker ab bc = (bc.0 ∙ ab.0, each) where
  each : (k : ℕ) (z : X) → slice_get c k ≡ Some z → (x : X) × (slice_get a k ≡ Some x) × ((k < n + 1 → S k x z) × (n + 1 ≤ k → z ≡ x))
  each k z at =
      let h = bc.1 k z at in
      let g = ab.1 k h.0 h.1 in
      let below : k < n + 1 → S k g.0 z = λ less. elim (cases_eq k n) [
        | inl same ↦
            let le : n ≤ k = omega arith in
            let is : h.0 ≡ g.0 = g.2.1 le in
            subst (λ (x : X). S k x z) is (subst (λ (m : ℕ). S m h.0 z) (sym same) (h.2.1 same))
        | inr other ↦
            let under : k < n = omega arith in
            let no : k ≢ n = λ e. omega arith in
            subst (λ (y : X). S k g.0 y) (sym (h.2.0 no)) (weaker k g.0 h.0 (g.2.0 under))
      ] in
      let above : n + 1 ≤ k → z ≡ g.0 = λ le.
      let no : k ≢ n = λ e. omega arith in
      let le' : n ≤ k = omega arith in
      h.2.0 no ∙ g.2.1 le' in
      (g.0, g.1, (below, above))

pub first_all : {X : Type 0} (R : ℕ → X → X → Type 0) (n : ℕ) (a b : List X) → length a ≡ n → First n R a b → Both R a b
first_all {X} R n a b all ab = (ab.0, each) where
  each : (k : ℕ) (y : X) → slice_get b k ≡ Some y → (x : X) × (slice_get a k ≡ Some x) × R k x y
  each k y at =
      let h = ab.1 k y at in
      let within : k < length b = slice_get_within b k y at in
      let same = ab.0 in
      let less : k < n = omega arith in
      (h.0, h.1, h.2.0 less)
