-- The parts of payloads.
use Rattle.std.specs.Prelude.{ℕ, zero, suc, ◌≡◌, ◌<◌, List, [], ◌∷◌, map, get_or, set, length, Option, Some, None, refl}
use Rattle.std.proofs.Common.{ap, sym, ◌∙◌, subst, arith}
use Rattle.std.proofs.lemmas.List.{map-set}
use Rattle.sat_label.specs.declared.label.Label.{Label}
use Rattle.sat_label.specs.Versions.{Version}
use Rattle.sat_bulk.specs.Payloads.{HasLabel, HaveLabel, part_of, payload_of, value_of, version_for, version_in}

-- ---- parts that were made

made-labels : (l : Label) (values : List (List ℕ)) → HaveLabel l (map (part_of l) values)
made-labels l [] n = tt
made-labels l (v ∷ vs) zero = refl
made-labels l (v ∷ vs) (suc n) = made-labels l vs n

made-values : (l : Label) (values : List (List ℕ)) → map value_of (map (part_of l) values) ≡ map (λ (v : List ℕ). Some v) values
made-values l [] = refl
made-values l (v ∷ vs) = ap (λ (rest : List (Option (List ℕ))). Some v ∷ rest) (made-values l vs)

-- ---- the same parts elsewhere

pub same_labels : (k l : Label) (xs ys : List (Option Version)) → k ≡ l → xs ≡ ys → HaveLabel l ys → HaveLabel k xs
same_labels k l xs ys a b have = subst (λ (m : Label). HaveLabel m xs) (sym a) (subst (λ (zs : List (Option Version)). HaveLabel l zs) (sym b) have)

pub same_payload : (k l : Label) (xs ys : List (Option Version)) → k ≡ l → xs ≡ ys → payload_of k xs ≡ payload_of l ys
same_payload k l xs ys a b = ap (λ (m : Label). payload_of m xs) a ∙ ap (λ (zs : List (Option Version)). payload_of l zs) b

pub made_labels : (k l : Label) (values : List (List ℕ)) (xs ys : List (Option Version)) → k ≡ l → xs ≡ ys → ys ≡ map (part_of l) values → HaveLabel k xs
made_labels k l values xs ys a b c = same_labels k l xs _ a (b ∙ c) (made-labels l values)

pub made_payload : (k l : Label) (values : List (List ℕ)) (xs ys : List (Option Version)) → k ≡ l → xs ≡ ys → ys ≡ map (part_of l) values →
    payload_of k xs ≡ record { label = l; values = map (λ (v : List ℕ). Some v) values }
made_payload k l values xs ys a b c =
    same_payload k l xs _ a (b ∙ c) ∙ ap (λ (vs : List (Option (List ℕ))). record { label = l; values = vs }) (made-values l values)

-- ---- parts of values that are there

parts-labels : (l : Label) (values : List (Option (List ℕ))) → HaveLabel l (map (version_for l) values)
parts-labels l [] n = tt
parts-labels l (None ∷ vs) zero = tt
parts-labels l (Some v ∷ vs) zero = refl
parts-labels l (v ∷ vs) (suc n) = parts-labels l vs n

part-value : (l : Label) (v : Option (List ℕ)) → value_of (version_for l v) ≡ v
part-value l None = refl
part-value l (Some v) = refl

parts-values : (l : Label) (values : List (Option (List ℕ))) → map value_of (map (version_for l) values) ≡ values
parts-values l [] = refl
parts-values l (v ∷ vs) = λ i. part-value l v i ∷ parts-values l vs i

pub part-labels : (k l : Label) (values : List (Option (List ℕ))) (xs ys : List (Option Version)) → k ≡ l → xs ≡ ys → ys ≡ map (version_for l) values → HaveLabel k xs
part-labels k l values xs ys a b c = same_labels k l xs _ a (b ∙ c) (parts-labels l values)

pub part-payload : (k l : Label) (values : List (Option (List ℕ))) (xs ys : List (Option Version)) → k ≡ l → xs ≡ ys → ys ≡ map (version_for l) values →
    payload_of k xs ≡ record { label = l; values = values }
part-payload k l values xs ys a b c =
    same_payload k l xs _ a (b ∙ c) ∙ ap (λ (vs : List (Option (List ℕ))). record { label = l; values = vs }) (parts-values l values)

-- ---- a part that is taken out

taken : (l : Label) (part : Option Version) → HasLabel l part → part ≡ version_for l (value_of part)
taken l None has = refl
taken l (Some v) has = ap (λ (k : Label). Some (record { label = k; value = v.value })) has

value-at : (parts : List (Option Version)) (n : ℕ) → get_or (map value_of parts) n None ≡ value_of (get_or parts n None)
value-at [] n = refl
value-at (p ∷ ps) zero = refl
value-at (p ∷ ps) (suc n) = value-at ps n

pub taken_at : (l : Label) (parts : List (Option Version)) (n : ℕ) → HaveLabel l parts → get_or parts n None ≡ version_in (payload_of l parts) n
taken_at l parts n have = taken l (get_or parts n None) (have n) ∙ ap (version_for l) (sym (value-at parts n))

pub left-at : (l : Label) (parts now : List (Option Version)) (n : ℕ) → now ≡ set parts n None → payload_of l now ≡ record (payload_of l parts) { values = set (payload_of l parts).values n None }
left-at l parts now n e = ap (λ (ps : List (Option Version)). payload_of l ps) e ∙ ap (λ (vs : List (Option (List ℕ))). record { label = l; values = vs }) (map-set value_of parts n None)

left-labels : (l : Label) (parts : List (Option Version)) (n : ℕ) → HaveLabel l parts → HaveLabel l (set parts n None)
left-labels l [] n have k = tt
left-labels l (p ∷ ps) zero have zero = tt
left-labels l (p ∷ ps) zero have (suc k) = have (suc k)
left-labels l (p ∷ ps) (suc n) have zero = have zero
left-labels l (p ∷ ps) (suc n) have (suc k) = left-labels l ps n (λ m. have (suc m)) k

pub labels_left : (l : Label) (parts now : List (Option Version)) (n : ℕ) → HaveLabel l parts → now ≡ set parts n None → HaveLabel l now
labels_left l parts now n have e = subst (λ (ps : List (Option Version)). HaveLabel l ps) (sym e) (left-labels l parts n have)

-- ---- a value that is looked at

-- the one value of a payload of one item
pub only_value : (v : Version) (n : ℕ) → n < 1 → get_or (Some v.value ∷ []) n None ≡ Some v.value
only_value v zero lt = refl
only_value v (suc n) lt = absurd (omega arith)

-- the value of a part that is there, and that of one that is not
pub value_there : (parts : List (Option Version)) (n : ℕ) (part : Option Version) (v : List ℕ) → part ≡ get_or parts n part → n < length parts → value_of part ≡ Some v → get_or (map value_of parts) n None ≡ Some v
value_there (p ∷ ps) zero part v at lt is = ap value_of (sym at) ∙ is
value_there (p ∷ ps) (suc n) part v at lt is = value_there ps n part v at (omega arith) is
value_there [] n part v at lt is = absurd (omega arith)

pub value_away : (parts : List (Option Version)) (n : ℕ) (part : Option Version) → part ≡ get_or parts n part → n < length parts → value_of part ≡ None → get_or (map value_of parts) n None ≡ None
value_away (p ∷ ps) zero part at lt is = ap value_of (sym at) ∙ is
value_away (p ∷ ps) (suc n) part at lt is = value_away ps n part at (omega arith) is
value_away [] n part at lt is = absurd (omega arith)
