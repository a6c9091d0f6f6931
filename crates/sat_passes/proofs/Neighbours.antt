-- No two neighbours of a serializer are one.
use Rattle.std.proofs.Common.{◌≡◌, ◌≢◌, ℕ, zero, suc, ◌≤◌, Bool, true, false, List, [], ◌∷◌, ◌++◌, length, map, filter, Some, slice_get, inl, inr, refl, sym, ap, ◌∙◌, subst, append_assoc, arith}
use Rattle.std.proofs.lemmas.Bool.{cases_Bool}
use Rattle.std.proofs.lemmas.List.{append-nil, map-append}
use Rattle.sat_label.specs.declared.node.NodeId.{NodeId}
use Rattle.sat_label.specs.declared.node.NodeId.TheVariants.{Site, Serializer}
use Rattle.sat_label.specs.Words.{below}
use Rattle.sat_tree.specs.Shape.{TreeShape}
use Rattle.sat_tree.specs.Cut.{is_edge, neighbours}

-- it is none of these
abbrev Away : NodeId → List NodeId → Type 0
Away u [] = Unit {0}
Away u (v ∷ vs) = (u ≢ v) × Away u vs

abbrev Apart : List NodeId → Type 0
Apart [] = Unit {0}
Apart (v ∷ vs) = Away v vs × Apart vs

away-at : (u v : NodeId) (vs : List NodeId) (k : ℕ) → Away u vs → slice_get vs k ≡ Some v → u ≢ v
away-at u v [] k away at = absurd (cc (at))
away-at u v (w ∷ ws) zero away at = subst (λ (x : NodeId). u ≢ x) (let e : w ≡ v = cc (at) in e) away.0
away-at u v (w ∷ ws) (suc k) away at = away-at u v ws k away.1 at

apart-at : (vs : List NodeId) (i j : ℕ) (u v : NodeId) → Apart vs → slice_get vs i ≡ Some u → slice_get vs j ≡ Some v → i ≢ j → u ≢ v
apart-at [] i j u v apart ui vj differ = absurd (cc (ui))
apart-at (w ∷ ws) zero zero u v apart ui vj differ = absurd (differ refl)
apart-at (w ∷ ws) zero (suc j) u v apart ui vj differ = subst (λ (x : NodeId). x ≢ v) (let e : w ≡ u = cc (ui) in e) (away-at w v ws j apart.0 vj)
apart-at (w ∷ ws) (suc i) zero u v apart ui vj differ = λ e. away-at w u ws i apart.0 ui ((let f : w ≡ v = cc (vj) in f) ∙ sym e)
apart-at (w ∷ ws) (suc i) (suc j) u v apart ui vj differ = apart-at ws i j u v apart.1 ui vj (λ e. differ (ap suc e))

away-filter : (p : NodeId → Bool) (u : NodeId) (vs : List NodeId) → Away u vs → Away u (filter p vs)
away-filter p u [] away = tt
away-filter p u (v ∷ vs) away = elim (cases_Bool (p v)) [
  | inl yes' ↦ rw yes' (away.0, away-filter p u vs away.1)
  | inr differ' ↦ rw differ' (away-filter p u vs away.1)
]

apart-filter : (p : NodeId → Bool) (vs : List NodeId) → Apart vs → Apart (filter p vs)
apart-filter p [] apart = tt
apart-filter p (v ∷ vs) apart = elim (cases_Bool (p v)) [
  | inl yes' ↦ rw yes' (away-filter p v vs apart.0, apart-filter p vs apart.1)
  | inr differ' ↦ rw differ' (apart-filter p vs apart.1)
]

away-next : (u v : NodeId) (vs : List NodeId) → Away u vs → u ≢ v → Away u (vs ++ v ∷ [])
away-next u v [] away differ = (differ, tt)
away-next u v (w ∷ ws) away differ = (away.0, away-next u v ws away.1 differ)

apart-next : (v : NodeId) (vs : List NodeId) → Apart vs → Away v vs → Apart (vs ++ v ∷ [])
apart-next v [] apart away = (tt, tt)
apart-next v (w ∷ ws) apart away = (away-next w v ws apart.0 (λ e. away.0 (sym e)), apart-next v ws apart.1 away.1)

away-append : (u : NodeId) (vs ws : List NodeId) → Away u vs → Away u ws → Away u (vs ++ ws)
away-append u [] ws a b = b
away-append u (v ∷ vs) ws a b = (a.0, away-append u vs ws a.1 b)

abbrev number-in : NodeId → ℕ
number-in (Site i) = i
number-in (Serializer z) = z

away-sites : (n m : ℕ) → m ≤ n → Away (Site n) (map Site (below m))
away-sites n zero le = tt
away-sites n (suc m) le =
    subst (Away (Site n)) (sym (map-append Site (below m) (m ∷ [])))
    (away-next (Site n) (Site m) (map Site (below m)) (away-sites n m (omega arith)) (λ e. let same : n ≡ m = ap number-in e in omega arith))

away-serializers : (n m : ℕ) → m ≤ n → Away (Serializer n) (map Serializer (below m))
away-serializers n zero le = tt
away-serializers n (suc m) le =
    subst (Away (Serializer n)) (sym (map-append Serializer (below m) (m ∷ [])))
    (away-next (Serializer n) (Serializer m) (map Serializer (below m)) (away-serializers n m (omega arith)) (λ e. let same : n ≡ m = ap number-in e in omega arith))

abbrev is-site : NodeId → Bool
is-site (Site i) = true
is-site (Serializer z) = false

away-kinds : (n m : ℕ) → Away (Serializer n) (map Site (below m))
away-kinds n zero = tt
away-kinds n (suc m) =
    subst (Away (Serializer n)) (sym (map-append Site (below m) (m ∷ [])))
    (away-next (Serializer n) (Site m) (map Site (below m)) (away-kinds n m) (λ e. let wrong : false ≡ true = ap is-site e in absurd (cc (wrong))))

apart-sites : (n : ℕ) → Apart (map Site (below n))
apart-sites zero = tt
apart-sites (suc n) = subst Apart (sym (map-append Site (below n) (n ∷ []))) (apart-next (Site n) (map Site (below n)) (apart-sites n) (away-sites n n (omega arith)))

apart-nodes : (n m : ℕ) → Apart (map Site (below n) ++ map Serializer (below m))
apart-nodes n zero = subst Apart (sym (append-nil (map Site (below n)))) (apart-sites n)
apart-nodes n (suc m) =
    subst Apart (append_assoc (map Site (below n)) (map Serializer (below m)) (Serializer m ∷ []) ∙ ap (λ (vs : List NodeId). map Site (below n) ++ vs) (sym (map-append Serializer (below m) (m ∷ []))))
    (apart-next (Serializer m) (map Site (below n) ++ map Serializer (below m)) (apart-nodes n m)
    (away-append (Serializer m) (map Site (below n)) (map Serializer (below m)) (away-kinds m n) (away-serializers m m (omega arith))))

pub neighbours_apart : (t : TreeShape) (z i j : ℕ) (u v : NodeId) → slice_get (neighbours t z) i ≡ Some u → slice_get (neighbours t z) j ≡ Some v → i ≢ j → u ≢ v
unfolding neighbours
neighbours_apart t z i j u v ui vj differ =
    apart-at (neighbours t z) i j u v (apart-filter (λ n. is_edge t (Serializer z) n) (map Site (below (length t.seats)) ++ map Serializer (below (length t.parents))) (apart-nodes (length t.seats) (length t.parents))) ui vj differ
