-- The last of the later beats tells of all, and a beat that is the best at once.
use Rattle.std.specs.Prelude.{◌≡◌, ◌≤◌, ◌<◌, ◌-◌, ◌+◌, ◌||◌, ◌==◌, ℕ, Bool, true, false, List, [], ◌∷◌, ◌++◌, length, take, slice_get, Option, Some, None, if◌then◌else◌, refl}
use Rattle.std.proofs.Common.{arith, sym, ◌∙◌, ap, subst, inl, inr}
use Rattle.std.proofs.lemmas.Bool.{le-leb}
use Rattle.std.proofs.lemmas.Bool.Decides.{nat_tests}
use Rattle.std.proofs.lemmas.List.{take_all, take_more}
use Rattle.std.proofs.lemmas.Option.{get_or_from_slice_get, slice_get_within}
use Rattle.sat_label.specs.Members.{In}
use Rattle.sat_label.proofs.Members.{In-right}
use Rattle.sat_beat.specs.declared.Beat.{Beat}
use Rattle.sat_beat.specs.declared.beats.BeatTake.TheVariants.{New, Old}
use Rattle.sat_beat.specs.Beats.{TakenBeats, are_reached, is_complete, forward, refreshed, is_old, has_beat, take_answer, after_take, RisesFrom}
use Rattle.sat_beat.specs.Rising.{AreBelow, CountsRise, RisesOn, RisesTo}
use Rattle.sat_beat.proofs.Passed.{before, rises-in}
use Rattle.sat_beat.proofs.Rising.{last-most}

-- ---- the last one

ends-with : (bs : List (ℕ × Beat)) (b : ℕ × Beat) → slice_get bs (length bs - 1) ≡ Some b → bs ≡ take (length bs - 1) bs ++ b ∷ []
ends-with bs b e =
    sym (take_all (length bs - 1 + 1) bs (reach (length bs)))
    ∙ (take_more bs (length bs - 1) b (slice_get_within bs (length bs - 1) b e)
    ∙ ap (λ (x : ℕ × Beat). take (length bs - 1) bs ++ x ∷ []) (get_or_from_slice_get bs (length bs - 1) b b e))
  where
    reach : (n : ℕ) → n ≤ n - 1 + 1
    reach n = omega arith

up-to-last : (low : ℕ) (xs : List (ℕ × Beat)) (b c : ℕ × Beat) → RisesFrom low (xs ++ b ∷ []) → In (xs ++ b ∷ []) c → c.0 ≤ b.0
up-to-last low [] b c rises (inl e) = subst (λ (x : ℕ × Beat). x.0 ≤ b.0) e (self b.0)
  where
    self : (n : ℕ) → n ≤ n
    self n = omega arith
up-to-last low [] b c rises (inr m) = absurd m
up-to-last low (x ∷ xs) b c rises (inl e) =
    subst (λ (y : ℕ × Beat). y.0 ≤ b.0) e (before x.0 b.0 (rises-in (x.0 + 1) (xs ++ b ∷ []) b rises.1 (In-right xs (b ∷ []) b (inl refl))))
up-to-last low (x ∷ xs) b c rises (inr m) = up-to-last (x.0 + 1) xs b c rises.1 m

-- where the last one has a number below, all have
pub last_below : (low : ℕ) (bs : List (ℕ × Beat)) (b : ℕ × Beat) (n : ℕ) → RisesFrom low bs → slice_get bs (length bs - 1) ≡ Some b → b.0 < n → AreBelow bs n
last_below low bs b n rises e lt c m =
    let split : bs ≡ take (length bs - 1) bs ++ b ∷ [] = ends-with bs b e in
    let le : c.0 ≤ b.0 = up-to-last low (take (length bs - 1) bs) b c (subst (λ (xs : List (ℕ × Beat)). RisesFrom low xs) split rises) (subst (λ (xs : List (ℕ × Beat)). In xs c) split m) in
    omega arith

-- where its counts are reached, those of all are
pub last_rises : (bs : List (ℕ × Beat)) (b : ℕ × Beat) (n : ℕ) (beat : Beat) → CountsRise bs → slice_get bs (length bs - 1) ≡ Some b → are_reached b.1.counts beat.counts ≡ true → RisesTo bs n beat
last_rises bs b n beat rise e r c m lt =
    let split : bs ≡ take (length bs - 1) bs ++ b ∷ [] = ends-with bs b e in
    last-most [] (take (length bs - 1) bs) b c beat (subst (λ (xs : List (ℕ × Beat)). CountsRise xs) split rise) r (subst (λ (xs : List (ℕ × Beat)). In xs c) split m)

-- where all are below a number, none has it, and none stands above
pub none_has : (bs : List (ℕ × Beat)) (n : ℕ) → AreBelow bs n → has_beat bs n ≡ false
none_has [] n below = refl
none_has (b ∷ bs) n below = ap (λ (u : Bool). u || has_beat bs n) (apart b.0 n (below b (inl refl))) ∙ none_has bs n (λ c m. below c (inr m))
  where
    apart : (x y : ℕ) → x < y → (x == y) ≡ false
    apart x y lt = grind (arith, nat_tests)

pub none_on : (bs : List (ℕ × Beat)) (n : ℕ) (beat : Beat) → AreBelow bs n → RisesOn bs n beat
none_on bs n beat below c m le = absurd (let lt : c.0 < n = below c m in omega (arith, le))

-- ---- the best at once

best-at-once : (fronts : List ℕ) (best : Option (ℕ × Beat)) (later : List (ℕ × Beat)) (n : ℕ) (beat : Beat) → length later ≡ 0 → is_old best n ≡ false → is_complete fronts beat ≡ true →
    (take_answer fronts (record { best = best; later = later }) n ≡ New) × (after_take fronts (record { best = best; later = later }) n beat ≡ record { best = Some (n, beat); later = later })
best-at-once fronts best [] n beat none young whole = (
  ap (λ (c : Bool). if c then Old else New) young,
  ap (λ (c : Bool). if c || false then record { best = best; later = [] } else refreshed fronts (record { best = best; later = (n, beat) ∷ [] })) young
      ∙ (ap (λ (c : Bool). forward (record { best = best; later = (n, beat) ∷ [] }) (if c then Some (n, beat) else None)) whole
      ∙ ap (λ (c : Bool). record { best = Some (n, beat); later = if c then [] else (n, beat) ∷ [] }) (le-leb n n (self n))),
)
  where
    self : (k : ℕ) → k ≤ k
    self k = omega arith
best-at-once fronts best (b ∷ bs) n beat none young whole = absurd (omega arith)

pub take_at_once : (fronts : List ℕ) (t : TakenBeats) (n : ℕ) (beat : Beat) → length t.later ≡ 0 → is_old t.best n ≡ false → is_complete fronts beat ≡ true →
    (take_answer fronts t n ≡ New) × (after_take fronts t n beat ≡ record { best = Some (n, beat); later = t.later })
take_at_once fronts t n beat = best-at-once fronts t.best t.later n beat
