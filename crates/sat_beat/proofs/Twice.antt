-- A refresh by later fronts, of beats that were refreshed by earlier ones.
use Rattle.std.specs.Prelude.{◌≡◌, ◌≤◌, ℕ, ◌+◌, Bool, true, false, nat_le, List, [], ◌∷◌, Option, Some, None, if◌then◌else◌, refl}
use Rattle.std.proofs.Common.{arith, sym, ◌∙◌, ap, subst, inl, inr}
use Rattle.std.proofs.lemmas.Bool.{le-leb, leb-true}
use Rattle.sat_label.specs.Members.{In}
use Rattle.sat_beat.specs.declared.Beat.{Beat}
use Rattle.sat_beat.specs.Beats.{TakenBeats, is_complete, newest, above, forward, refreshed, RisesFrom, next_number, IsTaken, NoneFell}
use Rattle.sat_beat.proofs.Complete.{stays-complete}
use Rattle.sat_beat.proofs.Newest.{or_else, alone}
use Rattle.sat_beat.proofs.Passed.{above-all, above-rises, before, rises-in, newest-in}

abbrev kept : Option (ℕ × Beat) → List (ℕ × Beat) → TakenBeats
kept best later = record { best = best; later = later }

-- beats up to a number that is no more than another's are passed over by both
above-above : (m n : ℕ) → m ≤ n → (bs : List (ℕ × Beat)) → above n (above m bs) ≡ above n bs
above-above m n le [] = refl
above-above m n le (b ∷ bs) = go (nat_le b.0 m) refl (above-above m n le bs)
  where
    reach : (x y z : ℕ) → x ≤ y → y ≤ z → x ≤ z
    reach x y z p q = omega arith

    go : (t : Bool) → nat_le b.0 m ≡ t → above n (above m bs) ≡ above n bs → above n (if t then above m bs else b ∷ bs) ≡ above n (b ∷ bs)
    go true e rest =
        let low : nat_le b.0 n ≡ true = le-leb b.0 n (reach b.0 m n (leb-true b.0 m e) le) in
        rest ∙ sym (ap (λ (t : Bool). if t then above n bs else b ∷ bs) low)
    go false e rest = refl

-- the newest is a beat that is complete, or one behind it
newest-from : (fronts : List ℕ) (n : ℕ) (bs : List (ℕ × Beat)) (b : ℕ × Beat) → RisesFrom n bs → In bs b → is_complete fronts b.1 ≡ true →
    newest fronts bs ≡ or_else (newest fronts (above b.0 bs)) (Some b)
newest-from fronts n [] b rises m e = absurd m
newest-from fronts n (c ∷ cs) b rises (inl same) e =
    let here : is_complete fronts c.1 ≡ true = subst (λ (x : ℕ × Beat). is_complete fronts x.1 ≡ true) (sym same) e in
    let whole : above c.0 (c ∷ cs) ≡ cs = ap (λ (t : Bool). if t then above c.0 cs else c ∷ cs) (le-leb c.0 c.0 (self c.0)) ∙ above-all c.0 cs rises.1 in
    let first : newest fronts (c ∷ cs) ≡ or_else (newest fronts (above c.0 (c ∷ cs))) (Some c) =
    ap (λ (t : Bool). or_else (newest fronts cs) (if t then Some c else None)) here
    ∙ ap (λ (xs : List (ℕ × Beat)). or_else (newest fronts xs) (Some c)) (sym whole) in
    subst (λ (x : ℕ × Beat). newest fronts (c ∷ cs) ≡ or_else (newest fronts (above x.0 (c ∷ cs))) (Some x)) same first
  where
    self : (k : ℕ) → k ≤ k
    self k = omega arith
newest-from fronts n (c ∷ cs) b rises (inr m) e =
    let up : c.0 + 1 ≤ b.0 = rises-in (c.0 + 1) cs b rises.1 m in
    let past : above b.0 (c ∷ cs) ≡ above b.0 cs = ap (λ (t : Bool). if t then above b.0 cs else c ∷ cs) (le-leb c.0 b.0 (before c.0 b.0 up)) in
    ap (λ (o : Option (ℕ × Beat)). or_else o (alone fronts c)) (newest-from fronts (c.0 + 1) cs b rises.1 m e)
    ∙ once (newest fronts (above b.0 cs)) (alone fronts c)
    ∙ ap (λ (xs : List (ℕ × Beat)). or_else (newest fronts xs) (Some b)) (sym past)
  where
    once : (o p : Option (ℕ × Beat)) → or_else (or_else o (Some b)) p ≡ or_else o (Some b)
    once None p = refl
    once (Some x) p = refl

-- where no front fell, what an earlier refresh did is done by the later one too
pub refreshed-twice : (was fronts : List ℕ) (t : TakenBeats) → NoneFell was fronts → IsTaken t → refreshed fronts (refreshed was t) ≡ refreshed fronts t
refreshed-twice was fronts t none rises = go (newest was t.later) refl
  where
    on : (b : ℕ × Beat) (o : Option (ℕ × Beat)) → newest fronts (above b.0 t.later) ≡ o → forward (kept (Some b) (above b.0 t.later)) o ≡ forward t (or_else o (Some b))
    on b None e = refl
    on b (Some c) e =
        let up : b.0 + 1 ≤ c.0 = rises-in (b.0 + 1) (above b.0 t.later) c (above-rises (next_number t.best) b.0 t.later rises) (newest-in fronts (above b.0 t.later) c e).0 in
        ap (kept (Some c)) (above-above b.0 c.0 (before b.0 c.0 up) t.later)

    go : (o : Option (ℕ × Beat)) → newest was t.later ≡ o → refreshed fronts (forward t o) ≡ refreshed fronts t
    go None e = refl
    go (Some b) e =
        let found : In t.later b × (is_complete was b.1 ≡ true) = newest-in was t.later b e in
        let whole : is_complete fronts b.1 ≡ true = stays-complete was fronts b.1 none found.1 in
        on b (newest fronts (above b.0 t.later)) refl
        ∙ ap (forward t) (sym (newest-from fronts (next_number t.best) t.later b rises found.0 whole))
