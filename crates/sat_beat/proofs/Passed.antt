-- The best beat goes forward, and a beat comes.
use Rattle.std.specs.Prelude.{◌≡◌, ◌≤◌, ◌<◌, ℕ, ◌+◌, ◌-◌, ◌||◌, ◌==◌, Bool, true, false, nat_le, nat_lt, cond, List, [], ◌∷◌, ◌++◌, length, slice_get, Option, Some, None, option_map, is_some, IsSome, IfSome, ◌↔◌, if◌then◌else◌, refl}
use Rattle.std.specs.Ordering.{nat_cmp, match_ordering}
use Rattle.std.specs.declared.cmp.Ordering.TheVariants.{Less, Equal, Greater}
use Rattle.std.specs.BTreeMap.{is_at, insert_entry}
use Rattle.std.specs.Map.{lookup}
use Rattle.std.proofs.Common.{arith, sym, ◌∙◌, ap, subst, inl, inr}
use Rattle.std.proofs.lemmas.Bool.{le-leb, lt-leb}
use Rattle.std.proofs.lemmas.Bool.Decides.{nat_tests}
use Rattle.std.proofs.lemmas.List.{length-append}
use Rattle.std.proofs.lemmas.Option.{slice_get_within}
use Rattle.sat_label.specs.Members.{In}
use Rattle.sat_label.proofs.Members.{In-right}
use Rattle.sat_beat.specs.declared.Beat.{Beat}
use Rattle.sat_beat.specs.declared.beats.BeatTake.TheVariants.{New, Again, Old}
use Rattle.sat_beat.specs.Beats.{TakenBeats, is_complete, newest, above, forward, refreshed, starts_to, passed, moved, is_old, is_old_by, has_beat, placed, take_answer, after_take, RisesFrom, next_number, IsTaken}
use Rattle.sat_beat.specs.Rising.{EndsTo}
use Rattle.sat_beat.proofs.Newest.{or_else, alone}

abbrev kept : Option (ℕ × Beat) → List (ℕ × Beat) → TakenBeats
kept best later = record { best = best; later = later }

pub some_is : {X : Type 0} (x y : X) → Some x ≡ Some y → x ≡ y
some_is x y e = cc

higher : (n m : ℕ) → n + 1 ≤ m → n < m
higher n m le = omega arith

pub before : (n m : ℕ) → n + 1 ≤ m → n ≤ m
before n m le = omega arith

pub same-le : (n : ℕ) → n ≤ n
same-le n = omega arith

beyond : (m n : ℕ) → nat_le m n ≡ false → n + 1 ≤ m
beyond m n e = grind (arith, nat_tests)

-- ---- the loop

pub passed_more : (n : ℕ) (best : Option (ℕ × Beat)) (xs bs : List (ℕ × Beat)) (b : ℕ × Beat) → xs ≡ b ∷ bs → starts_to xs n ≡ true → passed n best xs ≡ passed n (Some b) bs
passed_more n best xs bs b is starts = ap (λ (ys : List (ℕ × Beat)). passed n best ys) is ∙ go (nat_le b.0 n) (subst (λ (ys : List (ℕ × Beat)). starts_to ys n ≡ true) is starts)
  where
    go : (t : Bool) → t ≡ true → (if t then passed n (Some b) bs else kept best (b ∷ bs)) ≡ passed n (Some b) bs
    go true e = refl
    go false e = absurd (cc)

pub passed_stops : (n : ℕ) (best : Option (ℕ × Beat)) (xs : List (ℕ × Beat)) → starts_to xs n ≡ false → record { best = best; later = xs } ≡ passed n best xs
passed_stops n best [] e = refl
passed_stops n best (b ∷ bs) e = go (nat_le b.0 n) e
  where
    go : (t : Bool) → t ≡ false → kept best (b ∷ bs) ≡ (if t then passed n (Some b) bs else kept best (b ∷ bs))
    go true e = absurd (cc)
    go false e = refl

-- ---- numbers ascend

pub rises-in : (n : ℕ) (bs : List (ℕ × Beat)) (b : ℕ × Beat) → RisesFrom n bs → In bs b → n ≤ b.0
rises-in n (c ∷ bs) b rises (inl e) = subst (λ (x : ℕ × Beat). n ≤ x.0) e rises.0
rises-in n (c ∷ bs) b rises (inr m) =
    let w : n ≤ c.0 = rises.0 in
    let k : c.0 + 1 ≤ b.0 = rises-in (c.0 + 1) bs b rises.1 m in
    omega arith
rises-in n [] b rises m = absurd m

pub newest-in : (fronts : List ℕ) (bs : List (ℕ × Beat)) (b : ℕ × Beat) → newest fronts bs ≡ Some b → In bs b × (is_complete fronts b.1 ≡ true)
newest-in fronts [] b e = absurd (cc)
newest-in fronts (c ∷ bs) b e = go (newest fronts bs) refl (is_complete fronts c.1) refl e (newest-in fronts bs b)
  where
    go : (o : Option (ℕ × Beat)) → newest fronts bs ≡ o → (t : Bool) → is_complete fronts c.1 ≡ t → elim o [ Some d ↦ Some d | None ↦ if t then Some c else None ] ≡ Some b →
        (newest fronts bs ≡ Some b → In bs b × (is_complete fronts b.1 ≡ true)) → In (c ∷ bs) b × (is_complete fronts b.1 ≡ true)
    go (Some d) w t u e rest = let k : In bs b × (is_complete fronts b.1 ≡ true) = rest (w ∙ e) in (inr k.0, k.1)
    go None w true u e rest = let s : c ≡ b = some_is c b e in (inl s, subst (λ (x : ℕ × Beat). is_complete fronts x.1 ≡ true) s u)
    go None w false u e rest = absurd (cc)

-- ---- all of them are passed

pub all_passed : (n low : ℕ) (best : Option (ℕ × Beat)) (bs : List (ℕ × Beat)) (b : ℕ × Beat) → RisesFrom low (bs ++ b ∷ []) → b.0 ≤ n → passed n best (bs ++ b ∷ []) ≡ record { best = Some b; later = [] }
all_passed n low best [] b rises le = ap (λ (t : Bool). if t then kept (Some b) [] else kept best (b ∷ [])) (le-leb b.0 n le)
all_passed n low best (c ∷ bs) b rises le =
    let up : c.0 + 1 ≤ b.0 = rises-in (c.0 + 1) (bs ++ b ∷ []) b rises.1 (In-right bs (b ∷ []) b (inl refl)) in
    ap (λ (t : Bool). if t then passed n (Some c) (bs ++ b ∷ []) else kept best (c ∷ (bs ++ b ∷ []))) (le-leb c.0 n (reach c.0 b.0 n up le))
    ∙ all_passed n (c.0 + 1) (Some c) bs b rises.1 le
  where
    reach : (x y z : ℕ) → x + 1 ≤ y → y ≤ z → x ≤ z
    reach x y z p q = omega arith

-- the last of a list
got-last : {X : Type 0} (xs : List X) (x : X) → slice_get (xs ++ x ∷ []) (length xs) ≡ Some x
got-last [] x = refl
got-last (y ∷ xs) x = got-last xs x

ends-at : {X : Type 0} (bs xs : List X) (x y : X) → bs ≡ xs ++ x ∷ [] → slice_get bs (length bs - 1) ≡ Some y → y ≡ x
ends-at bs xs x y e last =
    let place : length (xs ++ x ∷ []) - 1 ≡ length xs = shorter (length (xs ++ x ∷ [])) (length xs) (length-append xs (x ∷ [])) in
    let there : slice_get (xs ++ x ∷ []) (length (xs ++ x ∷ []) - 1) ≡ Some x = rw place (got-last xs x) in
    let here : slice_get (xs ++ x ∷ []) (length (xs ++ x ∷ []) - 1) ≡ Some y = rw e at last in
    some_is y x (sym here ∙ there)
  where
    shorter : (m n : ℕ) → m ≡ n + 1 → m - 1 ≡ n
    shorter m n e = omega arith

-- where the last one was taken out, and nothing is left
pub passed_whole : (n : ℕ) (best o : Option (ℕ × Beat)) (bs rest left : List (ℕ × Beat)) → RisesFrom (next_number best) bs → EndsTo bs n → IsSome o ↔ (0 < length bs) → IfSome o (λ b. bs ≡ rest ++ b ∷ []) → left ≡ [] →
    record { best = o; later = left } ≡ passed n best bs
passed_whole n best None bs rest left rises ends some removal e =
    let within : length bs - 1 < length bs = slice_get_within bs (length bs - 1) ends.0 ends.1 in
    let z : false ≡ true = some.1 (omega (arith, within)) in
    absurd (cc)
passed_whole n best (Some b) bs rest left rises ends some removal e =
    let same : ends.0 ≡ b = ends-at bs rest b ends.0 removal ends.1 in
    ap (kept (Some b)) e
    ∙ sym (ap (passed n best) removal
    ∙ all_passed n (next_number best) best rest b (subst (λ (ys : List (ℕ × Beat)). RisesFrom (next_number best) ys) removal rises) (subst (λ (x : ℕ × Beat). x.0 ≤ n) same ends.2))

-- ---- the best goes forward

pub above-all : (n : ℕ) (bs : List (ℕ × Beat)) → RisesFrom (n + 1) bs → above n bs ≡ bs
above-all n [] rises = refl
above-all n (b ∷ bs) rises = ap (λ (t : Bool). if t then above n bs else b ∷ bs) (lt-leb b.0 n (higher n b.0 rises.0))

passed-all : (n : ℕ) (best : Option (ℕ × Beat)) (bs : List (ℕ × Beat)) → RisesFrom (n + 1) bs → passed n best bs ≡ kept best bs
passed-all n best [] rises = refl
passed-all n best (b ∷ bs) rises = ap (λ (t : Bool). if t then passed n (Some b) bs else kept best (b ∷ bs)) (lt-leb b.0 n (higher n b.0 rises.0))

pub above-rises : (m n : ℕ) (bs : List (ℕ × Beat)) → RisesFrom m bs → RisesFrom (n + 1) (above n bs)
above-rises m n [] rises = tt
above-rises m n (b ∷ bs) rises = go (nat_le b.0 n) refl (above-rises (b.0 + 1) n bs rises.1)
  where
    go : (t : Bool) → nat_le b.0 n ≡ t → RisesFrom (n + 1) (above n bs) → RisesFrom (n + 1) (if t then above n bs else b ∷ bs)
    go true e rest = rest
    go false e rest = (beyond b.0 n e, rises.1)

-- the last beat that is taken out is the newest complete one
passed-newest : (fronts : List ℕ) (n : ℕ) (best : Option (ℕ × Beat)) (bs : List (ℕ × Beat)) (b : ℕ × Beat) → RisesFrom n bs → newest fronts bs ≡ Some b → passed b.0 best bs ≡ kept (Some b) (above b.0 bs)
passed-newest fronts n best [] b rises e = absurd (cc)
passed-newest fronts n best (c ∷ bs) b rises e = go (newest fronts bs) refl (is_complete fronts c.1) e (passed-newest fronts (c.0 + 1) (Some c) bs b rises.1)
  where
    out : (m : ℕ) → c.0 ≤ m → (passed m best (c ∷ bs) ≡ passed m (Some c) bs) × (above m (c ∷ bs) ≡ above m bs)
    out m le = (
      ap (λ (t : Bool). if t then passed m (Some c) bs else kept best (c ∷ bs)) (le-leb c.0 m le),
      ap (λ (t : Bool). if t then above m bs else c ∷ bs) (le-leb c.0 m le),
    )

    go : (o : Option (ℕ × Beat)) → newest fronts bs ≡ o → (t : Bool) → elim o [ Some d ↦ Some d | None ↦ if t then Some c else None ] ≡ Some b →
        (newest fronts bs ≡ Some b → passed b.0 (Some c) bs ≡ kept (Some b) (above b.0 bs)) → passed b.0 best (c ∷ bs) ≡ kept (Some b) (above b.0 (c ∷ bs))
    go (Some d) w t e rest =
        let low : c.0 + 1 ≤ b.0 = rises-in (c.0 + 1) bs b rises.1 (newest-in fronts bs b (w ∙ e)).0 in
        let o : (passed b.0 best (c ∷ bs) ≡ passed b.0 (Some c) bs) × (above b.0 (c ∷ bs) ≡ above b.0 bs) = out b.0 (before c.0 b.0 low) in
        o.0 ∙ (rest (w ∙ e) ∙ ap (λ (ys : List (ℕ × Beat)). kept (Some b) ys) (sym o.1))
    go None w true e rest =
        let o : (passed c.0 best (c ∷ bs) ≡ passed c.0 (Some c) bs) × (above c.0 (c ∷ bs) ≡ above c.0 bs) = out c.0 (same-le c.0) in
        subst (λ (x : ℕ × Beat). passed x.0 best (c ∷ bs) ≡ kept (Some x) (above x.0 (c ∷ bs))) (some_is c b e)
        (o.0 ∙ (passed-all c.0 (Some c) bs rises.1 ∙ ap (λ (ys : List (ℕ × Beat)). kept (Some c) ys) (sym (o.1 ∙ above-all c.0 bs rises.1))))
    go None w false e rest = absurd (cc)

refreshed_none : (fronts : List ℕ) (t : TakenBeats) → option_map (λ b. b.0) (newest fronts t.later) ≡ None → refreshed fronts t ≡ t
refreshed_none fronts t e = go (newest fronts t.later) e
  where
    go : (o : Option (ℕ × Beat)) → option_map (λ b. b.0) o ≡ None → forward t o ≡ t
    go None e = refl
    go (Some b) e = absurd (cc)

refreshed_some : (fronts : List ℕ) (best : Option (ℕ × Beat)) (later : List (ℕ × Beat)) (n : ℕ) → IsTaken (record { best = best; later = later }) → option_map (λ b. b.0) (newest fronts later) ≡ Some n → passed n best later ≡ refreshed fronts (record { best = best; later = later })
refreshed_some fronts best later n is e = go (newest fronts later) refl e
  where
    go : (o : Option (ℕ × Beat)) → newest fronts later ≡ o → option_map (λ b. b.0) o ≡ Some n → passed n best later ≡ forward (kept best later) o
    go None w e = absurd (cc)
    go (Some b) w e = subst (λ (m : ℕ). passed m best later ≡ kept (Some b) (above b.0 later)) (some_is b.0 n e) (passed-newest fronts (next_number best) best later b is w)

pub refreshed_taken : (fronts : List ℕ) (t : TakenBeats) → IsTaken t → IsTaken (refreshed fronts t)
refreshed_taken fronts t is = go (newest fronts t.later)
  where
    go : (o : Option (ℕ × Beat)) → IsTaken (forward t o)
    go None = is
    go (Some b) = above-rises (next_number t.best) b.0 t.later is

pub refreshed_moved : (fronts : List ℕ) (t : TakenBeats) (to : Option ℕ) → IsTaken t → to ≡ option_map (λ b. b.0) (newest fronts t.later) → moved to t ≡ refreshed fronts t
refreshed_moved fronts t None is e = sym (refreshed_none fronts t (sym e))
refreshed_moved fronts t (Some n) is e = refreshed_some fronts t.best t.later n is (sym e)

-- numbers ascend, however far it goes
passed_taken : (n : ℕ) (best : Option (ℕ × Beat)) (bs : List (ℕ × Beat)) → RisesFrom (next_number best) bs → IsTaken (passed n best bs)
passed_taken n best [] is = tt
passed_taken n best (b ∷ bs) is = go (nat_le b.0 n) (passed_taken n (Some b) bs is.1)
  where
    go : (t : Bool) → IsTaken (passed n (Some b) bs) → IsTaken (if t then passed n (Some b) bs else kept best (b ∷ bs))
    go true rest = rest
    go false rest = is

pub moved_taken : (to : Option ℕ) (t : TakenBeats) → IsTaken t → IsTaken (moved to t)
moved_taken None t is = is
moved_taken (Some n) t is = passed_taken n t.best t.later is

-- ---- a beat comes

pub old_by : (fronts : List ℕ) (t : TakenBeats) (k : ℕ) → is_old_by (option_map (λ b. b.0) (newest fronts t.later)) t.best k ≡ is_old (refreshed fronts t).best k
old_by fronts t k = go (newest fronts t.later)
  where
    go : (o : Option (ℕ × Beat)) → is_old_by (option_map (λ b. b.0) o) t.best k ≡ is_old (forward t o).best k
    go None = refl
    go (Some b) = refl

by-tests : {X : Type 0} (b c : Bool) (p q r : X) → match_ordering (cond b Less (cond c Equal Greater)) p q r ≡ (if b then p else (if c then q else r))
by-tests true c p q r = refl
by-tests false true p q r = refl
by-tests false false p q r = refl

-- the map puts a beat where the list has its place
pub map_placed : (bs : List (ℕ × Beat)) (n : ℕ) (beat : Beat) → insert_entry nat_cmp bs n beat ≡ placed bs n beat
map_placed [] n beat = refl
map_placed (b ∷ bs) n beat =
    ap (λ ys. match_ordering (nat_cmp n b.0) ((n, beat) ∷ b ∷ bs) ((b.0, beat) ∷ bs) (b ∷ ys)) (map_placed bs n beat)
    ∙ by-tests (nat_lt n b.0) (n == b.0) ((n, beat) ∷ b ∷ bs) ((b.0, beat) ∷ bs) (b ∷ placed bs n beat)

-- and it has the numbers that the list has
pub map_has : (bs : List (ℕ × Beat)) (n : ℕ) → is_some (lookup (is_at (nat_cmp n)) bs) ≡ has_beat bs n
map_has [] n = refl
map_has (b ∷ bs) n = either (is_at (nat_cmp n) b.0) ∙ (ap (λ t. t || is_some (lookup (is_at (nat_cmp n)) bs)) (equal n b.0) ∙ ap (λ t. (b.0 == n) || t) (map_has bs n))
  where
    either : (t : Bool) → is_some (cond t (Some b.1) (lookup (is_at (nat_cmp n)) bs)) ≡ (t || is_some (lookup (is_at (nat_cmp n)) bs))
    either true = refl
    either false = refl

    equal : (n x : ℕ) → is_at (nat_cmp n) x ≡ (x == n)
    equal n x = grind (arith, nat_tests)

placed-rises : (low n : ℕ) (beat : Beat) (bs : List (ℕ × Beat)) → low ≤ n → RisesFrom low bs → RisesFrom low (placed bs n beat)
placed-rises low n beat [] up rises = (up, tt)
placed-rises low n beat (b ∷ bs) up rises = go (nat_lt n b.0) (n == b.0) refl refl (λ more. placed-rises (b.0 + 1) n beat bs more rises.1)
  where
    under : (a b : ℕ) → nat_lt a b ≡ true → a + 1 ≤ b
    under a b e = grind (arith, nat_tests)

    past : (a b : ℕ) → nat_lt a b ≡ false → (a == b) ≡ false → b + 1 ≤ a
    past a b e f = grind (arith, nat_tests)

    go : (t u : Bool) → nat_lt n b.0 ≡ t → (n == b.0) ≡ u → (b.0 + 1 ≤ n → RisesFrom (b.0 + 1) (placed bs n beat)) → RisesFrom low (if t then (n, beat) ∷ b ∷ bs else (if u then (b.0, beat) ∷ bs else b ∷ placed bs n beat))
    go true u e f rest = (up, (under n b.0 e, rises.1))
    go false true e f rest = rises
    go false false e f rest = (rises.0, rest (past n b.0 e f))

-- what is not old has a number above the best
young : (fronts : List ℕ) (t : TakenBeats) (n : ℕ) → IsTaken t → is_old (refreshed fronts t).best n ≡ false → next_number t.best ≤ n
young fronts t n is e = go (newest fronts t.later) refl e
  where
    now : (o : Option (ℕ × Beat)) → is_old o n ≡ false → next_number o ≤ n
    now None e = omega arith
    now (Some c) e = beyond n c.0 e

    go : (o : Option (ℕ × Beat)) → newest fronts t.later ≡ o → is_old (forward t o).best n ≡ false → next_number t.best ≤ n
    go None w e = now t.best e
    go (Some b) w e =
        let low : next_number t.best ≤ b.0 = rises-in (next_number t.best) t.later b is (newest-in fronts t.later b w).0 in
        let up : b.0 + 1 ≤ n = beyond n b.0 e in
        omega arith

pub placed_taken : (fronts : List ℕ) (best : Option (ℕ × Beat)) (later more : List (ℕ × Beat)) (n : ℕ) (beat : Beat) → IsTaken (record { best = best; later = later }) → is_old (refreshed fronts (record { best = best; later = later })).best n ≡ false →
    more ≡ placed later n beat → IsTaken (record { best = best; later = more })
placed_taken fronts best later more n beat is e w =
    subst (λ (ys : List (ℕ × Beat)). RisesFrom (next_number best) ys) (sym w) (placed-rises (next_number best) n beat later (young fronts (kept best later) n is e) is)

neither : (p q : Bool) → (p || q) ≡ false → (p ≡ false) × (q ≡ false)
neither true q e = absurd (cc)
neither false q e = (refl, e)

young-rest : (n : ℕ) (o p : Option (ℕ × Beat)) → is_old (or_else o p) n ≡ false → is_old o n ≡ false
young-rest n None p e = refl
young-rest n (Some b) p e = e

-- the number of the newest complete one, once a beat comes that is newer than the newest before
abbrev number_with : Bool → ℕ → Option (ℕ × Beat) → Option ℕ
number_with complete n o = if complete then Some n else option_map (λ b. b.0) o

ahead-of : (n : ℕ) (beat : Beat) (t : Bool) (o : Option (ℕ × Beat)) → o ≡ None → option_map (λ b. b.0) (or_else o (if t then Some (n, beat) else None)) ≡ number_with t n o
ahead-of n beat true None e = refl
ahead-of n beat false None e = refl
ahead-of n beat t (Some b) e = absurd (cc)

beyond-one : (n : ℕ) (t : Bool) (o was p : Option (ℕ × Beat)) → option_map (λ b. b.0) o ≡ number_with t n was → option_map (λ b. b.0) (or_else o p) ≡ number_with t n (or_else was p)
beyond-one n true (Some b) was p e = e
beyond-one n true None was p e = absurd (cc)
beyond-one n false (Some b) (Some c) p e = e
beyond-one n false (Some b) None p e = absurd (cc)
beyond-one n false None (Some c) p e = absurd (cc)
beyond-one n false None None p e = refl

newest-placed : (fronts : List ℕ) (low n : ℕ) (beat : Beat) (bs : List (ℕ × Beat)) → RisesFrom low bs → is_old (newest fronts bs) n ≡ false → has_beat bs n ≡ false →
    option_map (λ b. b.0) (newest fronts (placed bs n beat)) ≡ number_with (is_complete fronts beat) n (newest fronts bs)
newest-placed fronts low n beat [] rises young new = ahead-of n beat (is_complete fronts beat) None refl
newest-placed fronts low n beat (b ∷ bs) rises young new =
    go (nat_lt n b.0) (n == b.0) refl refl (newest-placed fronts (b.0 + 1) n beat bs rises.1 (young-rest n (newest fronts bs) (alone fronts b) young) (neither (b.0 == n) (has_beat bs n) new).1)
  where
    apart : (x y z : ℕ) → nat_lt x y ≡ true → y ≤ z → nat_le x z ≡ false → ⊥
    apart x y z e low up = grind (arith, nat_tests)

    differ : (x y : ℕ) → (x == y) ≡ true → (y == x) ≡ false → ⊥
    differ x y e f = grind (arith, nat_tests)

    -- where the first of them has a greater number, none is complete
    none : (o : Option (ℕ × Beat)) → newest fronts (b ∷ bs) ≡ o → nat_lt n b.0 ≡ true → o ≡ None
    none None w e = refl
    none (Some c) w e =
        let low : b.0 ≤ c.0 = rises-in b.0 (b ∷ bs) c (same-le b.0, rises.1) (newest-in fronts (b ∷ bs) c w).0 in
        let up : nat_le n c.0 ≡ false = subst (λ (o : Option (ℕ × Beat)). is_old o n ≡ false) w young in
        absurd (apart n b.0 c.0 e low up)

    go : (t u : Bool) → nat_lt n b.0 ≡ t → (n == b.0) ≡ u → option_map (λ c. c.0) (newest fronts (placed bs n beat)) ≡ number_with (is_complete fronts beat) n (newest fronts bs) →
        option_map (λ c. c.0) (newest fronts (if t then (n, beat) ∷ b ∷ bs else (if u then (b.0, beat) ∷ bs else b ∷ placed bs n beat))) ≡ number_with (is_complete fronts beat) n (newest fronts (b ∷ bs))
    go true u e f rest = ahead-of n beat (is_complete fronts beat) (newest fronts (b ∷ bs)) (none (newest fronts (b ∷ bs)) refl e)
    go false true e f rest = absurd (differ n b.0 f (neither (b.0 == n) (has_beat bs n) new).0)
    go false false e f rest = beyond-one n (is_complete fronts beat) (newest fronts (placed bs n beat)) (newest fronts bs) (alone fronts b) rest

young-newest : (fronts : List ℕ) (t : TakenBeats) (n : ℕ) → is_old (refreshed fronts t).best n ≡ false → is_old (newest fronts t.later) n ≡ false
young-newest fronts t n e = go (newest fronts t.later) e
  where
    go : (o : Option (ℕ × Beat)) → is_old (forward t o).best n ≡ false → is_old o n ≡ false
    go None e = refl
    go (Some b) e = e

pub take_old : (fronts : List ℕ) (t : TakenBeats) (n : ℕ) (beat : Beat) → is_old (refreshed fronts t).best n ≡ true → (take_answer fronts t n ≡ Old) × (after_take fronts t n beat ≡ refreshed fronts t)
take_old fronts t n beat e = (
  ap (λ (c : Bool). if c then Old else (if has_beat t.later n then Again else New)) e,
  ap (λ (c : Bool). if c || has_beat t.later n then refreshed fronts t else refreshed fronts (kept t.best (placed t.later n beat))) e,
)

pub take_again : (fronts : List ℕ) (t : TakenBeats) (n : ℕ) (beat : Beat) → is_old (refreshed fronts t).best n ≡ false → has_beat t.later n ≡ true → (take_answer fronts t n ≡ Again) × (after_take fronts t n beat ≡ refreshed fronts t)
take_again fronts t n beat e k = (
  ap (λ (c : Bool). if c then Old else (if has_beat t.later n then Again else New)) e ∙ ap (λ (c : Bool). if c then Again else New) k,
  ap (λ (c : Bool). if c || has_beat t.later n then refreshed fronts t else refreshed fronts (kept t.best (placed t.later n beat))) e
      ∙ ap (λ (c : Bool). if c then refreshed fronts t else refreshed fronts (kept t.best (placed t.later n beat))) k,
)

pub take_new : (fronts : List ℕ) (t : TakenBeats) (n : ℕ) (beat : Beat) → is_old (refreshed fronts t).best n ≡ false → has_beat t.later n ≡ false → (take_answer fronts t n ≡ New) × (after_take fronts t n beat ≡ refreshed fronts (record { best = t.best; later = placed t.later n beat }))
take_new fronts t n beat e k = (
  ap (λ (c : Bool). if c then Old else (if has_beat t.later n then Again else New)) e ∙ ap (λ (c : Bool). if c then Again else New) k,
  ap (λ (c : Bool). if c || has_beat t.later n then refreshed fronts t else refreshed fronts (kept t.best (placed t.later n beat))) e
      ∙ ap (λ (c : Bool). if c then refreshed fronts t else refreshed fronts (kept t.best (placed t.later n beat))) k,
)

-- a new one stands among the later ones, and the best goes forward to it where it is complete, else as without it
pub moved_new : (fronts : List ℕ) (t was with : TakenBeats) (n : ℕ) (beat : Beat) (found to : Option ℕ) → IsTaken t → t ≡ was → is_old (refreshed fronts was).best n ≡ false → has_beat was.later n ≡ false →
    with ≡ record { best = t.best; later = placed t.later n beat } → found ≡ option_map (λ b. b.0) (newest fronts was.later) → to ≡ (if is_complete fronts beat then Some n else found) → moved to with ≡ after_take fronts was n beat
moved_new fronts t was with n beat found to is same young new w f e =
    let taken : IsTaken was = subst (λ (r : TakenBeats). IsTaken r) same is in
    ap (moved to) (w ∙ ap (λ (r : TakenBeats). kept r.best (placed r.later n beat)) same)
    ∙ (refreshed_moved fronts (kept was.best (placed was.later n beat)) to (placed_taken fronts was.best was.later (placed was.later n beat) n beat taken young refl)
    (e ∙ ap (λ (o : Option ℕ). if is_complete fronts beat then Some n else o) f ∙ sym (newest-placed fronts (next_number was.best) n beat was.later taken (young-newest fronts was n young) new))
    ∙ sym (take_new fronts was n beat young new).1)
