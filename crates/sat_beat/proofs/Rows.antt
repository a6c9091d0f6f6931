-- What is true of the beats of all sites stays true.
use Rattle.std.specs.Prelude.{◌≡◌, ◌⊎◌, ◌≤◌, ◌<◌, ℕ, zero, suc, ◌+◌, ◌||◌, ◌==◌, Bool, true, false, nat_le, nat_lt, List, [], ◌∷◌, length, replicate, get_or, set, Option, Some, None, if◌then◌else◌, refl}
use Rattle.std.proofs.Common.{arith, sym, ◌∙◌, ap, subst, inl, inr}
use Rattle.std.proofs.lemmas.List.{get_or-set_same, get_or-set_other}
use Rattle.std.proofs.lemmas.Bool.{cases_eq, eqb-true, le-leb, leb-true}
use Rattle.std.proofs.lemmas.Bool.Decides.{nat_tests}
use Rattle.sat_label.specs.Members.{In}
use Rattle.sat_label.proofs.Truth.{or-assoc}
use Rattle.sat_beat.specs.declared.Beat.{Beat}
use Rattle.sat_beat.specs.Beats.{TakenBeats, BeatsSeen, is_complete, newest, above, forward, refreshed, is_old, has_beat, placed, after_take, none_taken, fresh_beats, taken_of, with_taken, RisesFrom, next_number, IsTaken, AreCounted, HasComplete, IsBest, KeepsBest, IsRow, IsBeats, HasOneMore}
use Rattle.sat_beat.proofs.Complete.{stays-complete}
use Rattle.sat_beat.proofs.Newest.{or_else}
use Rattle.sat_beat.proofs.Passed.{some_is, before, same-le, rises-in, newest-in, refreshed_taken, placed_taken}

-- ---- one site

above-in : (n : ℕ) (bs : List (ℕ × Beat)) (b : ℕ × Beat) → In (above n bs) b → In bs b
above-in n [] b m = m
above-in n (c ∷ bs) b m = go (nat_le c.0 n) m (above-in n bs b)
  where
    go : (t : Bool) → In (if t then above n bs else c ∷ bs) b → (In (above n bs) b → In bs b) → In (c ∷ bs) b
    go true m rest = inr (rest m)
    go false m rest = m

placed-in : (bs : List (ℕ × Beat)) (n : ℕ) (beat : Beat) (b : ℕ × Beat) → In (placed bs n beat) b → In bs b ⊎ (b.1 ≡ beat)
placed-in [] n beat b (inl e) = inr (sym (ap (λ (x : ℕ × Beat). x.1) e))
placed-in [] n beat b (inr m) = absurd m
placed-in (c ∷ bs) n beat b m = go (nat_lt n c.0) (n == c.0) m (placed-in bs n beat b)
  where
    go : (t u : Bool) → In (if t then (n, beat) ∷ c ∷ bs else (if u then (c.0, beat) ∷ bs else c ∷ placed bs n beat)) b → (In (placed bs n beat) b → In bs b ⊎ (b.1 ≡ beat)) → In (c ∷ bs) b ⊎ (b.1 ≡ beat)
    go true u (inl e) rest = inr (sym (ap (λ (x : ℕ × Beat). x.1) e))
    go true u (inr m) rest = inl m
    go false true (inl e) rest = inr (sym (ap (λ (x : ℕ × Beat). x.1) e))
    go false true (inr m) rest = inl (inr m)
    go false false (inl e) rest = inl (inl e)
    go false false (inr m) rest = elim (rest m) [ inl k ↦ inl (inr k) | inr k ↦ inr k ]

-- by what becomes of a beat
by-taking : (P : TakenBeats → Type 0) (n : ℕ) (beat : Beat) (fronts : List ℕ) (t : TakenBeats) → ((is_old (refreshed fronts t).best n ≡ true) ⊎ (has_beat t.later n ≡ true) → P (refreshed fronts t)) →
    (is_old (refreshed fronts t).best n ≡ false → has_beat t.later n ≡ false → P (refreshed fronts (record { best = t.best; later = placed t.later n beat }))) → P (after_take fronts t n beat)
by-taking P n beat fronts t same new = go (is_old (refreshed fronts t).best n) (has_beat t.later n) same new
  where
    go : (b c : Bool) → ((b ≡ true) ⊎ (c ≡ true) → P (refreshed fronts t)) → (b ≡ false → c ≡ false → P (refreshed fronts (record { best = t.best; later = placed t.later n beat }))) →
        P (if b || c then refreshed fronts t else refreshed fronts (record { best = t.best; later = placed t.later n beat }))
    go true c same new = same (inl refl)
    go false true same new = same (inr refl)
    go false false same new = new refl refl

row_refreshed : (gears : ℕ) (fronts : List ℕ) (t : TakenBeats) → IsRow gears t → IsRow gears (refreshed fronts t)
row_refreshed gears fronts t is = record { taken = refreshed_taken fronts t is.taken; counted = go (newest fronts t.later) refl }
  where
    go : (o : Option (ℕ × Beat)) → newest fronts t.later ≡ o → AreCounted gears (forward t o)
    go None w = is.counted
    go (Some b) w = record {
      best = λ c e. subst (λ (x : ℕ × Beat). length x.1.counts ≡ gears) (some_is b c e) (is.counted.later b (newest-in fronts t.later b w).0);
      later = λ c m. is.counted.later c (above-in b.0 t.later c m);
    }

row_taken : (gears n : ℕ) (beat : Beat) (fronts : List ℕ) (t : TakenBeats) → length beat.counts ≡ gears → IsRow gears t → IsRow gears (after_take fronts t n beat)
row_taken gears n beat fronts t c is =
    by-taking (λ r. IsRow gears r) n beat fronts t (λ _. row_refreshed gears fronts t is)
    (λ young new. row_refreshed gears fronts (record { best = t.best; later = placed t.later n beat }) (record {
      taken = placed_taken fronts t.best t.later (placed t.later n beat) n beat is.taken young refl;
      counted = record {
        best = is.counted.best;
        later = λ b m. elim (placed-in t.later n beat b m) [ inl k ↦ is.counted.later b k | inr e ↦ subst (λ (x : Beat). length x.counts ≡ gears) (sym e) c ];
      };
    }))

-- where no beat is the newest complete one, none is complete
none-complete : (fronts : List ℕ) (bs : List (ℕ × Beat)) (b : ℕ × Beat) → newest fronts bs ≡ None → In bs b → is_complete fronts b.1 ≡ false
none-complete fronts [] b w m = absurd m
none-complete fronts (c ∷ bs) b w m = go (newest fronts bs) refl (is_complete fronts c.1) refl w m (none-complete fronts bs b)
  where
    go : (o : Option (ℕ × Beat)) → newest fronts bs ≡ o → (t : Bool) → is_complete fronts c.1 ≡ t → or_else o (if t then Some c else None) ≡ None → In (c ∷ bs) b →
        (newest fronts bs ≡ None → In bs b → is_complete fronts b.1 ≡ false) → is_complete fronts b.1 ≡ false
    go (Some d) w t u e m rest = absurd (cc)
    go None w true u e m rest = absurd (cc)
    go None w false u e (inl s) rest = subst (λ (x : ℕ × Beat). is_complete fronts x.1 ≡ false) s u
    go None w false u e (inr m) rest = rest w m

-- and above the newest complete one none is
above-newest : (fronts : List ℕ) (n : ℕ) (bs : List (ℕ × Beat)) (b c : ℕ × Beat) → RisesFrom n bs → newest fronts bs ≡ Some b → In (above b.0 bs) c → is_complete fronts c.1 ≡ false
above-newest fronts n [] b c rises w m = absurd m
above-newest fronts n (y ∷ bs) b c rises w m = go (newest fronts bs) refl (is_complete fronts y.1) w m (above-newest fronts (y.0 + 1) bs b c rises.1)
  where
    out : (k : ℕ) → y.0 ≤ k → In (above k (y ∷ bs)) c → In (above k bs) c
    out k le m = subst (λ (ys : List (ℕ × Beat)). In ys c) (ap (λ (t : Bool). if t then above k bs else y ∷ bs) (le-leb y.0 k le)) m

    go : (o : Option (ℕ × Beat)) → newest fronts bs ≡ o → (t : Bool) → or_else o (if t then Some y else None) ≡ Some b → In (above b.0 (y ∷ bs)) c → (newest fronts bs ≡ Some b → In (above b.0 bs) c → is_complete fronts c.1 ≡ false) → is_complete fronts c.1 ≡ false
    go (Some d) w t e m rest =
        let low : y.0 + 1 ≤ b.0 = rises-in (y.0 + 1) bs b rises.1 (newest-in fronts bs b (w ∙ e)).0 in
        rest (w ∙ e) (out b.0 (before y.0 b.0 low) m)
    go None w true e m rest =
        let k : In (above y.0 bs) c = out y.0 (same-le y.0) (subst (λ (x : ℕ × Beat). In (above x.0 (y ∷ bs)) c) (sym (some_is y b e)) m) in
        none-complete fronts bs c w (above-in y.0 bs c k)
    go None w false e m rest = absurd (cc)

best_refreshed : (fronts : List ℕ) (t : TakenBeats) → IsTaken t → KeepsBest fronts t (refreshed fronts t)
best_refreshed fronts t is = record { best = λ was none k. go (newest fronts t.later) refl (λ b e. stays-complete was fronts b.1 none (k b e)) }
  where
    go : (o : Option (ℕ × Beat)) → newest fronts t.later ≡ o → HasComplete fronts t → IsBest fronts (forward t o)
    go None w k = record { complete = k; greatest = λ b m. none-complete fronts t.later b w m }
    go (Some b) w k = record {
      complete = λ c e. subst (λ (x : ℕ × Beat). is_complete fronts x.1 ≡ true) (some_is b c e) (newest-in fronts t.later b w).1;
      greatest = λ c m. above-newest fronts (next_number t.best) t.later b c is w m;
    }

best_taken : (n : ℕ) (beat : Beat) (fronts : List ℕ) (t : TakenBeats) → IsTaken t → KeepsBest fronts t (after_take fronts t n beat)
best_taken n beat fronts t is =
    by-taking (λ r. KeepsBest fronts t r) n beat fronts t (λ _. best_refreshed fronts t is)
    (λ young new. record { best = (best_refreshed fronts (record { best = t.best; later = placed t.later n beat }) (placed_taken fronts t.best t.later (placed t.later n beat) n beat is young refl)).best })

-- what goes forward keeps the numbers above the best
above-has : (n k : ℕ) (bs : List (ℕ × Beat)) → n + 1 ≤ k → has_beat (above n bs) k ≡ has_beat bs k
above-has n k [] le = refl
above-has n k (c ∷ bs) le = go (nat_le c.0 n) refl (above-has n k bs le)
  where
    apart : (a b d : ℕ) (h : Bool) → nat_le a b ≡ true → b + 1 ≤ d → h ≡ ((a == d) || h)
    apart a b d true e le = grind (arith, nat_tests)
    apart a b d false e le = grind (arith, nat_tests)

    go : (t : Bool) → nat_le c.0 n ≡ t → has_beat (above n bs) k ≡ has_beat bs k → has_beat (if t then above n bs else c ∷ bs) k ≡ ((c.0 == k) || has_beat bs k)
    go true e rest = rest ∙ apart c.0 n k (has_beat bs k) e le
    go false e rest = refl

refreshed-has : (fronts : List ℕ) (t : TakenBeats) (k : ℕ) → next_number (refreshed fronts t).best ≤ k → has_beat (refreshed fronts t).later k ≡ has_beat t.later k
refreshed-has fronts t k le = go (newest fronts t.later) le
  where
    go : (o : Option (ℕ × Beat)) → next_number (forward t o).best ≤ k → has_beat (forward t o).later k ≡ has_beat t.later k
    go None le = refl
    go (Some b) le = above-has b.0 k t.later le

placed-has : (bs : List (ℕ × Beat)) (n : ℕ) (beat : Beat) (k : ℕ) → has_beat (placed bs n beat) k ≡ (has_beat bs k || (k == n))
placed-has [] n beat k = alone n k
  where
    alone : (a b : ℕ) → ((a == b) || false) ≡ (false || (b == a))
    alone a b = grind (arith, nat_tests)
placed-has (c ∷ bs) n beat k = go (nat_lt n c.0) (n == c.0) refl (placed-has bs n beat k)
  where
    ahead : (a b d : ℕ) (h : Bool) → ((a == d) || ((b == d) || h)) ≡ (((b == d) || h) || (d == a))
    ahead a b d true = grind (arith, nat_tests)
    ahead a b d false = grind (arith, nat_tests)

    there : (a b d : ℕ) (h : Bool) → (a == b) ≡ true → ((b == d) || h) ≡ (((b == d) || h) || (d == a))
    there a b d true e = grind (arith, nat_tests)
    there a b d false e = grind (arith, nat_tests)

    go : (t u : Bool) → (n == c.0) ≡ u → has_beat (placed bs n beat) k ≡ (has_beat bs k || (k == n)) →
        has_beat (if t then (n, beat) ∷ c ∷ bs else (if u then (c.0, beat) ∷ bs else c ∷ placed bs n beat)) k ≡ (((c.0 == k) || has_beat bs k) || (k == n))
    go true u e rest = ahead n c.0 k (has_beat bs k)
    go false true e rest = there n c.0 k (has_beat bs k) e
    go false false e rest = ap (λ b. (c.0 == k) || b) rest ∙ or-assoc (c.0 == k) (has_beat bs k) (k == n)

still : (b c : Bool) → (c ≡ true → b ≡ true) → b ≡ (b || c)
still true c f = refl
still false true f = f refl
still false false f = refl

-- a number that is no news is none above the best, or one that was there
no-news : (fronts : List ℕ) (t : TakenBeats) (n k : ℕ) → (is_old (refreshed fronts t).best n ≡ true) ⊎ (has_beat t.later n ≡ true) → next_number (refreshed fronts t).best ≤ k → has_beat t.later k ≡ (has_beat t.later k || (k == n))
no-news fronts t n k (inl e) le = still (has_beat t.later k) (k == n) (λ same. absurd (low (refreshed fronts t).best e le (eqb-true k n same)))
  where
    low : (o : Option (ℕ × Beat)) → is_old o n ≡ true → next_number o ≤ k → k ≡ n → ⊥
    low None e le w = absurd (cc)
    low (Some b) e le w = let z : n ≤ b.0 = leb-true n b.0 e in omega arith
no-news fronts t n k (inr e) le = still (has_beat t.later k) (k == n) (λ same. ap (has_beat t.later) (eqb-true k n same) ∙ e)

more_taken : (n : ℕ) (beat : Beat) (fronts : List ℕ) (t : TakenBeats) → HasOneMore t n (after_take fronts t n beat)
more_taken n beat fronts t =
    by-taking (λ r. HasOneMore t n r) n beat fronts t
    (λ known k le. refreshed-has fronts t k le ∙ no-news fronts t n k known le)
    (λ young new k le. refreshed-has fronts (record { best = t.best; later = placed t.later n beat }) k le ∙ placed-has t.later n beat k)

-- ---- all sites

get-replicate : (sites i : ℕ) → get_or (replicate sites none_taken) i none_taken ≡ none_taken
get-replicate zero i = refl
get-replicate (suc n) zero = refl
get-replicate (suc n) (suc i) = get-replicate n i

pub fresh_is : (sites gears : ℕ) → IsBeats (fresh_beats sites gears)
fresh_is sites gears = record {
  each = λ i. subst (λ (t : TakenBeats). IsRow gears t) (sym (get-replicate sites i)) (record { taken = tt; counted = record { best = λ b e. absurd (cc); later = λ b m. absurd m } });
}

set-row : (gears : ℕ) (rows : List TakenBeats) (i : ℕ) (t : TakenBeats) → IsBeats (record { gears = gears; rows = rows }) → IsRow gears t → i < length rows → IsBeats (record { gears = gears; rows = set rows i t })
set-row gears rows i t is row lt = record { each = λ k. go k (cases_eq k i) }
  where
    go : (k : ℕ) → (k ≡ i) ⊎ (k ≡ i → ⊥) → IsRow gears (get_or (set rows i t) k none_taken)
    go k (inl e) = subst (λ (r : TakenBeats). IsRow gears r) (sym (ap (λ (m : ℕ). get_or (set rows i t) m none_taken) e ∙ get_or-set_same rows i t none_taken lt)) row
    go k (inr n) = subst (λ (r : TakenBeats). IsRow gears r) (sym (get_or-set_other rows i k t none_taken n)) (is.each k)

same-row : (b : BeatsSeen) (i : ℕ) (t : TakenBeats) → i < length b.rows → taken_of (with_taken b i t) i ≡ t
same-row b i t lt = get_or-set_same b.rows i t none_taken lt

pub refreshed_rows : (gears : ℕ) (rows : List TakenBeats) (i : ℕ) (t : TakenBeats) (fronts : List ℕ) → IsBeats (record { gears = gears; rows = rows }) → i < length rows → t ≡ refreshed fronts (get_or rows i none_taken) → IsBeats (record { gears = gears; rows = set rows i t })
refreshed_rows gears rows i t fronts is lt e = set-row gears rows i t is (subst (λ (r : TakenBeats). IsRow gears r) (sym e) (row_refreshed gears fronts (get_or rows i none_taken) (is.each i))) lt

pub taken_rows : (gears : ℕ) (rows : List TakenBeats) (i n : ℕ) (t : TakenBeats) (beat : Beat) (fronts : List ℕ) → IsBeats (record { gears = gears; rows = rows }) → i < length rows → length beat.counts ≡ gears → t ≡ after_take fronts (get_or rows i none_taken) n beat → IsBeats (record { gears = gears; rows = set rows i t })
taken_rows gears rows i n t beat fronts is lt c e = set-row gears rows i t is (subst (λ (r : TakenBeats). IsRow gears r) (sym e) (row_taken gears n beat fronts (get_or rows i none_taken) c (is.each i))) lt

pub refreshed_best : (b : BeatsSeen) (i : ℕ) (fronts : List ℕ) → i < length b.rows → IsBeats b → KeepsBest fronts (taken_of b i) (taken_of (with_taken b i (refreshed fronts (taken_of b i))) i)
refreshed_best b i fronts lt is =
    subst (λ (r : TakenBeats). KeepsBest fronts (taken_of b i) r) (sym (same-row b i (refreshed fronts (taken_of b i)) lt)) (best_refreshed fronts (taken_of b i) (is.each i).taken)

pub taken_best : (b : BeatsSeen) (i n : ℕ) (beat : Beat) (fronts : List ℕ) → i < length b.rows → IsBeats b → KeepsBest fronts (taken_of b i) (taken_of (with_taken b i (after_take fronts (taken_of b i) n beat)) i)
taken_best b i n beat fronts lt is =
    subst (λ (r : TakenBeats). KeepsBest fronts (taken_of b i) r) (sym (same-row b i (after_take fronts (taken_of b i) n beat) lt)) (best_taken n beat fronts (taken_of b i) (is.each i).taken)

pub taken_more : (b : BeatsSeen) (i n : ℕ) (beat : Beat) (fronts : List ℕ) → i < length b.rows → IsBeats b → HasOneMore (taken_of b i) n (taken_of (with_taken b i (after_take fronts (taken_of b i) n beat)) i)
taken_more b i n beat fronts lt is =
    subst (λ (r : TakenBeats). HasOneMore (taken_of b i) n r) (sym (same-row b i (after_take fronts (taken_of b i) n beat) lt)) (more_taken n beat fronts (taken_of b i))
