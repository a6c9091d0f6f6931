-- Where counts rise with the numbers, the complete beats come first.
use Rattle.std.specs.Prelude.{◌≡◌, ◌≤◌, ◌<◌, ℕ, ◌+◌, ◌||◌, ◌==◌, Bool, true, false, nat_le, nat_lt, cond, filter, List, [], ◌∷◌, ◌++◌, length, Option, Some, None, option_map, if◌then◌else◌, refl}
use Rattle.std.specs.Ordering.{nat_cmp}
use Rattle.std.specs.BTreeMap.Range.{range_contains, entries_between}
use Rattle.std.specs.declared.ops.Bound.TheVariants.{Included, Excluded, Unbounded}
use Rattle.std.proofs.Common.{arith, sym, ◌∙◌, ap, subst, inl, inr}
use Rattle.std.proofs.lemmas.Bool.Decides.{nat_tests}
use Rattle.sat_label.specs.Members.{In}
use Rattle.sat_label.proofs.Members.{In-right, into-filter}
use Rattle.sat_beat.specs.declared.Beat.{Beat}
use Rattle.sat_beat.specs.Beats.{TakenBeats, are_reached, is_complete, newest, refreshed, passed, moved, is_old, has_beat, placed, RisesFrom, IsTaken}
use Rattle.sat_beat.specs.Rising.{RiseFrom, CountsRise, last_before, starts_complete, RisesTo, RisesOn, IsKept}
use Rattle.sat_beat.proofs.Complete.{reached-trans}
use Rattle.sat_beat.proofs.Newest.{or_else}
use Rattle.sat_beat.proofs.Passed.{moved_taken, placed_taken}

-- ---- the loop

pub last_more : (fronts : List ℕ) (o : Option ℕ) (xs bs : List (ℕ × Beat)) (b : ℕ × Beat) → xs ≡ b ∷ bs → is_complete fronts b.1 ≡ true → last_before fronts o xs ≡ last_before fronts (Some b.0) bs
last_more fronts o xs bs b is e = ap (λ (ys : List (ℕ × Beat)). last_before fronts o ys) is ∙ ap (λ (t : Bool). if t then last_before fronts (Some b.0) bs else o) e

pub last_stops : (fronts : List ℕ) (o : Option ℕ) (xs bs : List (ℕ × Beat)) (b : ℕ × Beat) → xs ≡ b ∷ bs → is_complete fronts b.1 ≡ false → last_before fronts o xs ≡ o
last_stops fronts o xs bs b is e = ap (λ (ys : List (ℕ × Beat)). last_before fronts o ys) is ∙ ap (λ (t : Bool). if t then last_before fronts (Some b.0) bs else o) e

pub last_ends : (fronts : List ℕ) (o : Option ℕ) (xs : List (ℕ × Beat)) → xs ≡ [] → last_before fronts o xs ≡ o
last_ends fronts o xs is = ap (λ (ys : List (ℕ × Beat)). last_before fronts o ys) is

-- ---- the last one is the newest

-- where counts are not reached, none above them are
none-up : (fronts counts : List ℕ) (bs : List (ℕ × Beat)) → are_reached counts fronts ≡ false → RiseFrom counts bs → newest fronts bs ≡ None
none-up fronts counts [] e rise = refl
none-up fronts counts (b ∷ bs) e rise =
    let t : is_complete fronts b.1 ≡ false = go (is_complete fronts b.1) refl in
    ap (λ (o : Option (ℕ × Beat)). or_else o (if is_complete fronts b.1 then Some b else None)) (none-up fronts b.1.counts bs t rise.1) ∙ ap (λ (c : Bool). if c then Some b else None) t
  where
    go : (c : Bool) → is_complete fronts b.1 ≡ c → c ≡ false
    go true w = let z : are_reached counts fronts ≡ true = reached-trans counts b.1.counts fronts rise.0 w in cc
    go false w = refl

abbrev number_or : Option ℕ → Option (ℕ × Beat) → Option ℕ
number_or o None = o
number_or o (Some b) = Some b.0

last-from : (fronts counts : List ℕ) (o : Option ℕ) (bs : List (ℕ × Beat)) → RiseFrom counts bs → last_before fronts o bs ≡ number_or o (newest fronts bs)
last-from fronts counts o [] rise = refl
last-from fronts counts o (b ∷ bs) rise = go (is_complete fronts b.1) refl (last-from fronts b.1.counts (Some b.0) bs rise.1)
  where
    kept : (p : Option (ℕ × Beat)) → number_or (Some b.0) p ≡ number_or o (or_else p (Some b))
    kept None = refl
    kept (Some c) = refl

    go : (t : Bool) → is_complete fronts b.1 ≡ t → last_before fronts (Some b.0) bs ≡ number_or (Some b.0) (newest fronts bs) →
        (if t then last_before fronts (Some b.0) bs else o) ≡ number_or o (or_else (newest fronts bs) (if t then Some b else None))
    go true w rest = rest ∙ kept (newest fronts bs)
    go false w rest = sym (ap (λ (p : Option (ℕ × Beat)). number_or o (or_else p None)) (none-up fronts b.1.counts bs w rise.1))

pub last_newest : (fronts : List ℕ) (bs : List (ℕ × Beat)) → CountsRise bs → last_before fronts None bs ≡ option_map (λ b. b.0) (newest fronts bs)
last_newest fronts bs rise = last-from fronts [] None bs rise ∙ same (newest fronts bs)
  where
    same : (p : Option (ℕ × Beat)) → number_or None p ≡ option_map (λ b. b.0) p
    same None = refl
    same (Some b) = refl

-- where the first is not complete, none is
pub none_starts : (fronts : List ℕ) (bs : List (ℕ × Beat)) → CountsRise bs → starts_complete fronts bs ≡ false → None ≡ option_map (λ b. b.0) (newest fronts bs)
none_starts fronts [] rise e = refl
none_starts fronts (b ∷ bs) rise e = sym (ap (λ (t : Bool). if t then last_before fronts (Some b.0) bs else None) e) ∙ last_newest fronts (b ∷ bs) rise

-- ---- what goes forward rises

rise-all : (counts : List ℕ) (bs : List (ℕ × Beat)) → RiseFrom counts bs → CountsRise bs
rise-all counts [] rise = tt
rise-all counts (b ∷ bs) rise = (refl, rise.1)

passed-rise : (n : ℕ) (best : Option (ℕ × Beat)) (bs : List (ℕ × Beat)) → CountsRise bs → CountsRise (passed n best bs).later
passed-rise n best [] rise = tt
passed-rise n best (b ∷ bs) rise = go (nat_le b.0 n) (passed-rise n (Some b) bs (rise-all b.1.counts bs rise.1))
  where
    go : (t : Bool) → CountsRise (passed n (Some b) bs).later → CountsRise (if t then passed n (Some b) bs else record { best = best; later = b ∷ bs }).later
    go true rest = rest
    go false rest = rise

moved-rise : (to : Option ℕ) (t : TakenBeats) → CountsRise t.later → CountsRise (moved to t).later
moved-rise None t rise = rise
moved-rise (Some n) t rise = passed-rise n t.best t.later rise

pub moved_kept : (to : Option ℕ) (t new : TakenBeats) (rising rises : Bool) → IsKept t rising → new ≡ moved to t → rises ≡ rising → IsKept new rises
moved_kept to t new rising rises is e same = record {
  taken = subst (λ (r : TakenBeats). IsTaken r) (sym e) (moved_taken to t is.taken);
  rises = λ b. subst (λ (r : TakenBeats). CountsRise r.later) (sym e) (moved-rise to t (is.rises (sym same ∙ b)));
}

-- where none are left they rise
pub emptied_kept : (to : Option ℕ) (t new : TakenBeats) (rising empty rises : Bool) → IsKept t rising → new ≡ moved to t → (empty ≡ true → length new.later ≡ 0) → rises ≡ empty → IsKept new rises
emptied_kept to t new rising empty rises is e none same = record {
  taken = subst (λ (r : TakenBeats). IsTaken r) (sym e) (moved_taken to t is.taken);
  rises = λ b. no-counts new.later (none (sym same ∙ b));
}
  where
    no-counts : (bs : List (ℕ × Beat)) → length bs ≡ 0 → CountsRise bs
    no-counts [] z = tt
    no-counts (b ∷ bs) z = absurd (omega arith)

-- ---- a beat comes

-- counts that rise from some counts are at or above them
rise-in : (counts : List ℕ) (bs : List (ℕ × Beat)) (c : ℕ × Beat) → RiseFrom counts bs → In bs c → are_reached counts c.1.counts ≡ true
rise-in counts [] c rise m = absurd m
rise-in counts (b ∷ bs) c rise (inl e) = subst (λ (x : ℕ × Beat). are_reached counts x.1.counts ≡ true) e rise.0
rise-in counts (b ∷ bs) c rise (inr m) = reached-trans counts b.1.counts c.1.counts rise.0 (rise-in b.1.counts bs c rise.1 m)

rise-lower : (low counts : List ℕ) (bs : List (ℕ × Beat)) → are_reached low counts ≡ true → RiseFrom counts bs → RiseFrom low bs
rise-lower low counts [] r rise = tt
rise-lower low counts (b ∷ bs) r rise = (reached-trans low counts b.1.counts r rise.0, rise.1)

-- some of them rise too
rise-filter : (p : ℕ × Beat → Bool) (counts : List ℕ) (bs : List (ℕ × Beat)) → RiseFrom counts bs → RiseFrom counts (filter p bs)
rise-filter p counts [] rise = tt
rise-filter p counts (b ∷ bs) rise = go (p b) (rise-filter p b.1.counts bs rise.1)
  where
    go : (t : Bool) → RiseFrom b.1.counts (filter p bs) → RiseFrom counts (cond t (b ∷ filter p bs) (filter p bs))
    go true rest = (rise.0, rest)
    go false rest = rise-lower counts b.1.counts (filter p bs) rise.0 rest

-- the last one has the greatest counts
pub last-most : (counts : List ℕ) (bs : List (ℕ × Beat)) (c d : ℕ × Beat) (beat : Beat) → RiseFrom counts (bs ++ c ∷ []) → are_reached c.1.counts beat.counts ≡ true → In (bs ++ c ∷ []) d → are_reached d.1.counts beat.counts ≡ true
last-most counts [] c d beat rise r (inl e) = subst (λ (x : ℕ × Beat). are_reached x.1.counts beat.counts ≡ true) e r
last-most counts [] c d beat rise r (inr m) = absurd m
last-most counts (b ∷ bs) c d beat rise r (inl e) =
    subst (λ (x : ℕ × Beat). are_reached x.1.counts beat.counts ≡ true) e
    (reached-trans b.1.counts c.1.counts beat.counts (rise-in b.1.counts (bs ++ c ∷ []) c rise.1 (In-right bs (c ∷ []) c (inl refl))) r)
last-most counts (b ∷ bs) c d beat rise r (inr m) = last-most b.1.counts bs c d beat rise.1 r m

-- the first one has the least
first-least : (counts : List ℕ) (bs : List (ℕ × Beat)) (c d : ℕ × Beat) (beat : Beat) → RiseFrom counts (c ∷ bs) → are_reached beat.counts c.1.counts ≡ true → In (c ∷ bs) d → are_reached beat.counts d.1.counts ≡ true
first-least counts bs c d beat rise r (inl e) = subst (λ (x : ℕ × Beat). are_reached beat.counts x.1.counts ≡ true) e r
first-least counts bs c d beat rise r (inr m) = reached-trans beat.counts c.1.counts d.1.counts r (rise-in c.1.counts bs d rise.1 m)

below-test : (n k : ℕ) → k < n → range_contains nat_cmp Unbounded (Excluded n) k ≡ true
below-test n k lt = grind (arith, nat_tests)

above-test : (n k : ℕ) → n ≤ k → range_contains nat_cmp (Included n) Unbounded k ≡ true
above-test n k le = grind (arith, nat_tests)

pub none_below : (bs : List (ℕ × Beat)) (n : ℕ) (beat : Beat) → entries_between nat_cmp Unbounded (Excluded n) bs ≡ [] → RisesTo bs n beat
none_below bs n beat e c m lt = absurd (subst (λ (xs : List (ℕ × Beat)). In xs c) e (into-filter (λ b. range_contains nat_cmp Unbounded (Excluded n) b.0) bs c m (below-test n c.0 lt)))

pub rises_from_last : (bs xs : List (ℕ × Beat)) (n : ℕ) (beat : Beat) (b : ℕ × Beat) → CountsRise bs → entries_between nat_cmp Unbounded (Excluded n) bs ≡ xs ++ b ∷ [] → are_reached b.1.counts beat.counts ≡ true → RisesTo bs n beat
rises_from_last bs xs n beat b rise e r c m lt =
    last-most [] xs b c beat (subst (λ (ys : List (ℕ × Beat)). CountsRise ys) e (rise-filter (λ b. range_contains nat_cmp Unbounded (Excluded n) b.0) [] bs rise)) r
    (subst (λ (ys : List (ℕ × Beat)). In ys c) e (into-filter (λ b. range_contains nat_cmp Unbounded (Excluded n) b.0) bs c m (below-test n c.0 lt)))

pub none_above : (bs : List (ℕ × Beat)) (n : ℕ) (beat : Beat) → entries_between nat_cmp (Included n) Unbounded bs ≡ [] → RisesOn bs n beat
none_above bs n beat e c m le = absurd (subst (λ (xs : List (ℕ × Beat)). In xs c) e (into-filter (λ b. range_contains nat_cmp (Included n) Unbounded b.0) bs c m (above-test n c.0 le)))

pub rises_to_first : (bs xs : List (ℕ × Beat)) (n : ℕ) (beat : Beat) (b : ℕ × Beat) → CountsRise bs → entries_between nat_cmp (Included n) Unbounded bs ≡ b ∷ xs → are_reached beat.counts b.1.counts ≡ true → RisesOn bs n beat
rises_to_first bs xs n beat b rise e r c m le =
    first-least [] xs b c beat (subst (λ (ys : List (ℕ × Beat)). CountsRise ys) e (rise-filter (λ b. range_contains nat_cmp (Included n) Unbounded b.0) [] bs rise)) r
    (subst (λ (ys : List (ℕ × Beat)). In ys c) e (into-filter (λ b. range_contains nat_cmp (Included n) Unbounded b.0) bs c m (above-test n c.0 le)))

-- where none stands from a number on, none has it
pub none_from : (bs : List (ℕ × Beat)) (n : ℕ) → entries_between nat_cmp (Included n) Unbounded bs ≡ [] → has_beat bs n ≡ false
none_from [] n e = refl
none_from (b ∷ bs) n e = go (range_contains nat_cmp (Included n) Unbounded b.0) refl e (none_from bs n)
  where
    apart : (x y : ℕ) → range_contains nat_cmp (Included y) Unbounded x ≡ false → (x == y) ≡ false
    apart x y w = grind (arith, nat_tests)

    go : (t : Bool) → range_contains nat_cmp (Included n) Unbounded b.0 ≡ t → cond t (b ∷ entries_between nat_cmp (Included n) Unbounded bs) (entries_between nat_cmp (Included n) Unbounded bs) ≡ [] →
        (entries_between nat_cmp (Included n) Unbounded bs ≡ [] → has_beat bs n ≡ false) → ((b.0 == n) || has_beat bs n) ≡ false
    go true w z rest = absurd (cc)
    go false w z rest = ap (λ (u : Bool). u || has_beat bs n) (apart b.0 n w) ∙ rest z

-- where numbers ascend from above one on, none has it
none-high : (low n : ℕ) (bs : List (ℕ × Beat)) → n < low → RisesFrom low bs → has_beat bs n ≡ false
none-high low n [] lt rises = refl
none-high low n (b ∷ bs) lt rises = ap (λ (u : Bool). u || has_beat bs n) (apart low b.0 n lt rises.0) ∙ none-high (b.0 + 1) n bs (up low b.0 n lt rises.0) rises.1
  where
    apart : (l x y : ℕ) → y < l → l ≤ x → (x == y) ≡ false
    apart l x y p q = grind (arith, nat_tests)

    up : (l x y : ℕ) → y < l → l ≤ x → y < x + 1
    up l x y p q = omega arith

-- where numbers ascend, the first from a number on has it, or none
pub first_from : (low : ℕ) (bs xs : List (ℕ × Beat)) (n : ℕ) (b : ℕ × Beat) → RisesFrom low bs → entries_between nat_cmp (Included n) Unbounded bs ≡ b ∷ xs → has_beat bs n ≡ (b.0 == n)
first_from low [] xs n b rises e = absurd (cc)
first_from low (c ∷ bs) xs n b rises e = go (range_contains nat_cmp (Included n) Unbounded c.0) refl e (first_from (c.0 + 1) bs xs n b rises.1)
  where
    apart : (x y : ℕ) → range_contains nat_cmp (Included y) Unbounded x ≡ false → (x == y) ≡ false
    apart x y w = grind (arith, nat_tests)

    up : (x y : ℕ) → range_contains nat_cmp (Included y) Unbounded x ≡ true → y < x + 1
    up x y w = grind (arith, nat_tests)

    head : {X : Type 0} (x y : X) (ys zs : List X) → x ∷ ys ≡ y ∷ zs → x ≡ y
    head x y ys zs z = cc

    alone : (u : Bool) → (u || false) ≡ u
    alone true = refl
    alone false = refl

    go : (t : Bool) → range_contains nat_cmp (Included n) Unbounded c.0 ≡ t → cond t (c ∷ entries_between nat_cmp (Included n) Unbounded bs) (entries_between nat_cmp (Included n) Unbounded bs) ≡ b ∷ xs →
        (entries_between nat_cmp (Included n) Unbounded bs ≡ b ∷ xs → has_beat bs n ≡ (b.0 == n)) → ((c.0 == n) || has_beat bs n) ≡ (b.0 == n)
    go true w z rest =
        ap (λ (u : Bool). (c.0 == n) || u) (none-high (c.0 + 1) n bs (up c.0 n w) rises.1)
        ∙ (alone (c.0 == n) ∙ ap (λ (x : ℕ × Beat). x.0 == n) (head c b _ xs z))
    go false w z rest = ap (λ (u : Bool). u || has_beat bs n) (apart c.0 n w) ∙ rest z

-- at its place by its number a beat leaves the counts rising
placed-rise : (counts : List ℕ) (bs : List (ℕ × Beat)) (n : ℕ) (beat : Beat) → RiseFrom counts bs → are_reached counts beat.counts ≡ true → RisesTo bs n beat → RisesOn bs n beat → RiseFrom counts (placed bs n beat)
placed-rise counts [] n beat rise r to on = (r, tt)
placed-rise counts (b ∷ bs) n beat rise r to on = go (nat_lt n b.0) (n == b.0) refl refl (λ lt. placed-rise b.1.counts bs n beat rise.1 (to b (inl refl) lt) (λ c m. to c (inr m)) (λ c m. on c (inr m)))
  where
    under : (x y : ℕ) → nat_lt x y ≡ true → x ≤ y
    under x y e = grind (arith, nat_tests)

    level : (x y : ℕ) → (x == y) ≡ true → x ≤ y
    level x y e = grind (arith, nat_tests)

    past : (x y : ℕ) → nat_lt x y ≡ false → (x == y) ≡ false → y < x
    past x y e f = grind (arith, nat_tests)

    go : (t u : Bool) → nat_lt n b.0 ≡ t → (n == b.0) ≡ u → (b.0 < n → RiseFrom b.1.counts (placed bs n beat)) → RiseFrom counts (if t then (n, beat) ∷ b ∷ bs else (if u then (b.0, beat) ∷ bs else b ∷ placed bs n beat))
    go true u e f rest = (r, (on b (inl refl) (under n b.0 e), rise.1))
    go false true e f rest = (r, rise-lower beat.counts b.1.counts bs (on b (inl refl) (level n b.0 f)) rise.1)
    go false false e f rest = (rise.0, rest (past n b.0 e f))

pub placed_kept : (fronts : List ℕ) (best : Option (ℕ × Beat)) (later more : List (ℕ × Beat)) (n : ℕ) (beat : Beat) (rising rises : Bool) → IsKept (record { best = best; later = later }) rising → is_old (refreshed fronts (record { best = best; later = later })).best n ≡ false →
    more ≡ placed later n beat → (rises ≡ true → rising ≡ true) → (rises ≡ true → RisesTo later n beat) → (rises ≡ true → RisesOn later n beat) → IsKept (record { best = best; later = more }) rises
placed_kept fronts best later more n beat rising rises is e w k to on = record {
  taken = placed_taken fronts best later more n beat is.taken e w;
  rises = λ b. subst (λ (ys : List (ℕ × Beat)). CountsRise ys) (sym w) (placed-rise [] later n beat (is.rises (k b)) refl (to b) (on b));
}
