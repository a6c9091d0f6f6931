-- The newest complete beat.
use Rattle.std.specs.Prelude.{◌≡◌, ℕ, Bool, true, false, List, [], ◌∷◌, ◌++◌, Option, Some, None, if◌then◌else◌, refl}
use Rattle.std.proofs.Common.{ap, ◌∙◌}
use Rattle.sat_beat.specs.declared.Beat.{Beat}
use Rattle.sat_beat.specs.Beats.{is_complete, newest}

abbrev pub or_else : Option (ℕ × Beat) → Option (ℕ × Beat) → Option (ℕ × Beat)
or_else o p = elim o [ Some c ↦ Some c | None ↦ p ]

abbrev pub alone : List ℕ → ℕ × Beat → Option (ℕ × Beat)
alone fronts b = if is_complete fronts b.1 then Some b else None

-- the last beat is the newest, if it is complete, else one before it
newest-end : (fronts : List ℕ) (bs : List (ℕ × Beat)) (b : ℕ × Beat) → newest fronts (bs ++ b ∷ []) ≡ or_else (alone fronts b) (newest fronts bs)
newest-end fronts [] b = go (is_complete fronts b.1)
  where
    go : (t : Bool) → (if t then Some b else None) ≡ or_else (if t then Some b else None) None
    go true = refl
    go false = refl
newest-end fronts (c ∷ bs) b = ap (λ (o : Option (ℕ × Beat)). or_else o (alone fronts c)) (newest-end fronts bs b) ∙ assoc (alone fronts b) (newest fronts bs) (alone fronts c)
  where
    assoc : (o p q : Option (ℕ × Beat)) → or_else (or_else o p) q ≡ or_else o (or_else p q)
    assoc None p q = refl
    assoc (Some x) p q = refl

pub newest_last : (fronts : List ℕ) (xs bs : List (ℕ × Beat)) (b : ℕ × Beat) → xs ≡ bs ++ b ∷ [] → is_complete fronts b.1 ≡ true → newest fronts xs ≡ Some b
newest_last fronts xs bs b is t = ap (newest fronts) is ∙ (newest-end fronts bs b ∙ ap (λ (c : Bool). or_else (if c then Some b else None) (newest fronts bs)) t)

pub newest_before : (fronts : List ℕ) (xs bs : List (ℕ × Beat)) (b : ℕ × Beat) → xs ≡ bs ++ b ∷ [] → is_complete fronts b.1 ≡ false → newest fronts xs ≡ newest fronts bs
newest_before fronts xs bs b is t = ap (newest fronts) is ∙ (newest-end fronts bs b ∙ ap (λ (c : Bool). or_else (if c then Some b else None) (newest fronts bs)) t)
