-- A list of lists, and a change of one place of one of them.
use Rattle.std.proofs.Common.{◌≡◌, ◌⊎◌, ◌<◌, ℕ, ◌==◌, ◌&&◌, Bool, true, false, List, length, set, slice_get, Option, Some, None, IsSome, inl, inr, refl, sym, ap, subst, ◌∙◌, arith}
use Rattle.std.proofs.lemmas.Bool.Decides.{nat_tests}
use Rattle.sat_chain_laws.proofs.Lists.{some_is}
use Rattle.sat_chain.specs.Chained.{ChainSeen}
use Rattle.sat_chain.specs.Stands.{chain_at, with_chain}
use Rattle.sat_chain.proofs.Sets.{get-set, set-there, set-cases, within}

-- the list that a place leads to
abbrev in_row : Option (List ChainSeen) → ℕ → Option ChainSeen
in_row o z = elim o [ None ↦ None | Some row ↦ slice_get row z ]

abbrev with_row : List (List ChainSeen) → ℕ → ℕ → ChainSeen → Option (List ChainSeen) → List (List ChainSeen)
with_row chains n z x o = elim o [ None ↦ chains | Some row ↦ set chains n (set row z x) ]

pub at-of : (chains : List (List ChainSeen)) (n z : ℕ) (ch : ChainSeen) → chain_at chains n z ≡ Some ch → (row : List ChainSeen) × (slice_get chains n ≡ Some row) × (slice_get row z ≡ Some ch)
at-of chains n z ch e = go (slice_get chains n) refl e
  where
    go : (o : Option (List ChainSeen)) → slice_get chains n ≡ o → in_row o z ≡ Some ch → (row : List ChainSeen) × (slice_get chains n ≡ Some row) × (slice_get row z ≡ Some ch)
    go None w e = absurd (cc)
    go (Some row) w e = (row, w, e)

pub there : (chains : List (List ChainSeen)) (n z : ℕ) → IsSome (chain_at chains n z) → (ch : ChainSeen) × (chain_at chains n z ≡ Some ch)
there chains n z some = go (chain_at chains n z) refl some
  where
    go : (o : Option ChainSeen) → chain_at chains n z ≡ o → IsSome o → (ch : ChainSeen) × (chain_at chains n z ≡ Some ch)
    go None w some = absurd (cc)
    go (Some ch) w some = (ch, w)

pub with-is : (chains : List (List ChainSeen)) (n z : ℕ) (x : ChainSeen) (row : List ChainSeen) → slice_get chains n ≡ Some row → with_chain chains n z x ≡ set chains n (set row z x)
with-is chains n z x row e = ap (with_row chains n z x) e

-- the new one stands at its place
pub with-there : (chains : List (List ChainSeen)) (n z : ℕ) (ch x : ChainSeen) → chain_at chains n z ≡ Some ch → chain_at (with_chain chains n z x) n z ≡ Some x
with-there chains n z ch x e =
    let w : (row : List ChainSeen) × (slice_get chains n ≡ Some row) × (slice_get row z ≡ Some ch) = at-of chains n z ch e in
    ap (λ (cs : List (List ChainSeen)). chain_at cs n z) (with-is chains n z x w.0 w.1)
    ∙ ap (λ (o : Option (List ChainSeen)). in_row o z) (get-set chains n (set w.0 z x) (within chains n w.0 w.1))
    ∙ get-set w.0 z x (within w.0 z ch w.2)

-- and every other one stays
pub with-cases : (chains : List (List ChainSeen)) (n z : ℕ) (ch x : ChainSeen) (m y : ℕ) (v : ChainSeen) → chain_at chains n z ≡ Some ch → chain_at (with_chain chains n z x) m y ≡ Some v →
    ((n ≡ m) × (z ≡ y) × (x ≡ v)) ⊎ ((((n == m) && (z == y)) ≡ false) × (chain_at chains m y ≡ Some v))
with-cases chains n z ch x m y v had e =
    let w : (row : List ChainSeen) × (slice_get chains n ≡ Some row) × (slice_get row z ≡ Some ch) = at-of chains n z ch had in
    at-row w.0 w.1 (sym (ap (λ (cs : List (List ChainSeen)). chain_at cs m y) (with-is chains n z x w.0 w.1)) ∙ e)
  where
    no-left : (b : Bool) → (false && b) ≡ false
    no-left b = refl

    no-right : (a b : Bool) → b ≡ false → (a && b) ≡ false
    no-right true b e = e
    no-right false b e = refl

    in-list : (row : List ChainSeen) → slice_get chains n ≡ Some row → (qs : List ChainSeen) → slice_get (set chains n (set row z x)) m ≡ Some qs → slice_get qs y ≡ Some v →
        ((n ≡ m) × (z ≡ y) × (x ≡ v)) ⊎ ((((n == m) && (z == y)) ≡ false) × (chain_at chains m y ≡ Some v))
    in-list row is qs at e = elim (set-cases chains n m (set row z x) qs at) [
      | inl s ↦ elim (set-cases row z y x v (subst (λ (rs : List ChainSeen). slice_get rs y ≡ Some v) (sym s.1) e)) [
        | inl t ↦ inl (s.0, t.0, t.1)
        | inr t ↦ inr (no-right (n == m) (z == y) t.0, ap (λ (k : ℕ). chain_at chains k y) (sym s.0) ∙ ap (λ (o : Option (List ChainSeen)). in_row o y) is ∙ t.1)
      ]
      | inr s ↦ inr (ap (λ (b : Bool). b && (z == y)) s.0 ∙ no-left (z == y), ap (λ (o : Option (List ChainSeen)). in_row o y) s.1 ∙ e)
    ]

    at-row : (row : List ChainSeen) → slice_get chains n ≡ Some row → chain_at (set chains n (set row z x)) m y ≡ Some v → ((n ≡ m) × (z ≡ y) × (x ≡ v)) ⊎ ((((n == m) && (z == y)) ≡ false) × (chain_at chains m y ≡ Some v))
    at-row row is e = let q : (qs : List ChainSeen) × (slice_get (set chains n (set row z x)) m ≡ Some qs) × (slice_get qs y ≡ Some v) = at-of (set chains n (set row z x)) m y v e in in-list row is q.0 q.1 q.2

-- where one stood, one stands
pub with-some : (chains : List (List ChainSeen)) (n z : ℕ) (ch x : ChainSeen) (m y : ℕ) (v : ChainSeen) → chain_at chains n z ≡ Some ch → chain_at chains m y ≡ Some v → (u : ChainSeen) × (chain_at (with_chain chains n z x) m y ≡ Some u)
with-some chains n z ch x m y v had e =
    let w : (row : List ChainSeen) × (slice_get chains n ≡ Some row) × (slice_get row z ≡ Some ch) = at-of chains n z ch had in
    let q : (row : List ChainSeen) × (slice_get chains m ≡ Some row) × (slice_get row y ≡ Some v) = at-of chains m y v e in
    let r : (u : ChainSeen) × (chain_at (set chains n (set w.0 z x)) m y ≡ Some u) = go w.0 w.1 q.0 q.1 q.2 (n == m) refl in
    (r.0, ap (λ (cs : List (List ChainSeen)). chain_at cs m y) (with-is chains n z x w.0 w.1) ∙ r.1)
  where
    go : (row : List ChainSeen) → slice_get chains n ≡ Some row → (qs : List ChainSeen) → slice_get chains m ≡ Some qs → slice_get qs y ≡ Some v → (b : Bool) → (n == m) ≡ b →
        (u : ChainSeen) × (chain_at (set chains n (set row z x)) m y ≡ Some u)
    go row is qs at here true t =
        let same : n ≡ m = grind (arith, nat_tests) in
        let rows : qs ≡ row = some_is qs row (sym at ∙ ap (slice_get chains) (sym same) ∙ is) in
        let placed : slice_get (set chains n (set row z x)) m ≡ Some (set row z x) = ap (slice_get (set chains n (set row z x))) (sym same) ∙ get-set chains n (set row z x) (within chains n row is) in
        inside (z == y) refl row placed (subst (λ (rs : List ChainSeen). slice_get rs y ≡ Some v) rows here)
      where
        inside : (b : Bool) → (z == y) ≡ b → (row : List ChainSeen) → slice_get (set chains n (set row z x)) m ≡ Some (set row z x) → slice_get row y ≡ Some v → (u : ChainSeen) × (chain_at (set chains n (set row z x)) m y ≡ Some u)
        inside true u row placed here =
            let s : z ≡ y = grind (arith, nat_tests) in
            (x, ap (λ (o : Option (List ChainSeen)). in_row o y) placed ∙ ap (slice_get (set row z x)) (sym s) ∙ get-set row z x (subst (λ (k : ℕ). k < length row) (sym s) (within row y v here)))
        inside false u row placed here = (v, ap (λ (o : Option (List ChainSeen)). in_row o y) placed ∙ set-there row z y x u ∙ here)
    go row is qs at here false t = (v, ap (λ (o : Option (List ChainSeen)). in_row o y) (set-there chains n m (set row z x) t ∙ at) ∙ here)
