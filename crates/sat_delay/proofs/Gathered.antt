-- Rows of results, gathered one by one.
use Rattle.std.proofs.Common.{ℕ, zero, suc, ◌≡◌, ◌<◌, ◌≤◌, ◌+◌, ◌-◌, ◌⊎◌, inl, inr, List, [], ◌∷◌, ◌++◌, length, Result, Ok, Err, get_or, length-append, add-one, zero-add, refl, arith, ap, ◌∙◌, sym, subst}
use Rattle.std.proofs.Math.Nat.{eq-or-lt_of_le}
use Rattle.std.proofs.lemmas.List.{get_or_append_left}
use Rattle.std.proofs.Math.Seq.{get_or-append_seam}
use Rattle.sat_delay.specs.declared.fault.DelayFault.{DelayFault}
use Rattle.sat_delay.specs.Reading.{gathered, added}

pub gathered_start : {X : Type 0} (part : ℕ → Result X DelayFault) → gathered part 0 ≡ Ok []
unfolding gathered
gathered_start part = refl

pub gathered_more : {X : Type 0} (part : ℕ → Result X DelayFault) (n : ℕ) (xs : List X) (x : X) → gathered part n ≡ Ok xs → part n ≡ Ok x → gathered part (n + 1) ≡ Ok (xs ++ x ∷ [])
unfolding gathered
gathered_more part n xs x front next = rw (add-one, gathered, front, next) refl

here : {X : Type 0} (part : ℕ → Result X DelayFault) (n : ℕ) (xs : List X) (fault : DelayFault) → gathered part n ≡ Ok xs → part n ≡ Err fault → gathered part (suc n) ≡ Err fault
unfolding gathered
here part n xs fault front next = rw (gathered, front, next) refl

stays : {X : Type 0} (part : ℕ → Result X DelayFault) (n m : ℕ) (fault : DelayFault) → gathered part n ≡ Err fault → gathered part (m + n) ≡ Err fault
unfolding gathered
stays part n zero fault front = rw zero-add front
stays part n (suc m) fault front = let e : suc m + n ≡ suc (m + n) = omega arith in rw (e, gathered, stays part n m fault front) refl

pub gathered_stops : {X : Type 0} (part : ℕ → Result X DelayFault) (n m : ℕ) (xs : List X) (fault : DelayFault) → gathered part n ≡ Ok xs → part n ≡ Err fault → n < m → gathered part m ≡ Err fault
gathered_stops part n m xs fault front next below =
    let e : (m - suc n) + suc n ≡ m = omega arith in
    rw (← e) (stays part (suc n) (m - suc n) fault (here part n xs fault front next))

-- what was gathered is as long as it should be, and has each part at its place
pub record IsGathered {X : Type 0} (part : ℕ → Result X DelayFault) (n : ℕ) (xs : List X) : Type 0 where
  pub whole : length xs ≡ n
  pub parts : (k : ℕ) (d : X) → k < n → part k ≡ Ok (get_or xs k d)

one_more : {X : Type 0} (part : ℕ → Result X DelayFault) (n : ℕ) (xs : List X) (x : X) → IsGathered part n xs → part n ≡ Ok x → IsGathered part (suc n) (xs ++ x ∷ [])
one_more {X} part n xs x front next = record {
  whole = let e = front.whole in omega (arith, length-append xs (x ∷ []));
  parts = λ k d below. by_place k d (eq-or-lt_of_le (let most : k ≤ n = omega arith in most));
}
  where
    by_place : (k : ℕ) (d : X) → (k ≡ n) ⊎ (k < n) → part k ≡ Ok (get_or (xs ++ x ∷ []) k d)
    by_place k d (inl same) =
        let at : get_or (xs ++ x ∷ []) k d ≡ x = rw (same, ← front.whole) (get_or-append_seam xs x [] d) in
        ap part same ∙ next ∙ ap Ok (sym at)
    by_place k d (inr below) =
        let inside : k < length xs = rw front.whole below in
        front.parts k d below ∙ ap Ok (sym (get_or_append_left xs (x ∷ []) d k inside))

pub is_gathered : {X : Type 0} (part : ℕ → Result X DelayFault) (n : ℕ) (xs : List X) → gathered part n ≡ Ok xs → IsGathered part n xs
unfolding gathered
is_gathered part zero xs e =
    let none : [] ≡ xs = cc in
    record { whole = sym (ap length none); parts = λ k d below. absurd (omega arith) }
is_gathered {X} part (suc n) xs e = go (gathered part n) (part n) refl refl e (λ ys front. is_gathered part n ys front)
  where
    go : (front : Result (List X) DelayFault) (next : Result X DelayFault) → gathered part n ≡ front → part n ≡ next → added front next ≡ Ok xs → ((ys : List X) → gathered part n ≡ Ok ys → IsGathered part n ys) → IsGathered part (suc n) xs
    go (Ok ys) (Ok y) front next whole before =
        let same : ys ++ y ∷ [] ≡ xs = cc in
        subst (IsGathered part (suc n)) same (one_more part n ys y (before ys front) next)
    go (Ok ys) (Err fault) front next whole before = absurd (cc)
    go (Err fault) next front here whole before = absurd (cc)
