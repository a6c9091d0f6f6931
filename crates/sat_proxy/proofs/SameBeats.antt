-- The best beat of a site: among all that were taken, and among those that are kept.
use Rattle.std.specs.Prelude.{◌≡◌, ◌⊎◌, ◌≤◌, ◌<◌, ℕ, ◌+◌, ◌||◌, ◌==◌, Bool, true, false, nat_le, nat_lt, List, [], ◌∷◌, ◌++◌, Option, Some, None, option_map, if◌then◌else◌, refl}
use Rattle.std.proofs.Common.{arith, sym, ◌∙◌, ap, subst, inl, inr}
use Rattle.std.proofs.lemmas.Bool.{cases_lt}
use Rattle.std.proofs.lemmas.Bool.Decides.{nat_tests}
use Rattle.sat_label.specs.Members.{In}
use Rattle.sat_label.proofs.Members.{In-left, In-right, In-parts}
use Rattle.sat_beat.specs.declared.Beat.{Beat}
use Rattle.sat_beat.specs.Beats.{TakenBeats, is_complete, newest, above, forward, refreshed, is_old, has_beat, placed, RisesFrom, next_number, IsTaken}
use Rattle.sat_beat.proofs.Passed.{some_is, rises-in}
use Rattle.sat_act.specs.Parts.{BeatNote}
use Rattle.sat_model.specs.Look.{best_in}
use Rattle.sat_proxy.specs.Proxy.{note_of, noted}
use Rattle.sat_proxy.specs.Steps.{with_beat}
use Rattle.sat_proxy.specs.Stands.{IsLater, StandsBeats}

-- ---- what `best_in` finds

-- one that passes, of which no other that passes has a greater number
abbrev IsTop : List (ℕ × BeatNote) → (BeatNote → Bool) → Option (ℕ × BeatNote) → Type 0
IsTop bs p None = (b : ℕ × BeatNote) → In bs b → p b.1 ≡ false
IsTop bs p (Some t) = In bs t × (p t.1 ≡ true) × ((b : ℕ × BeatNote) → In bs b → p b.1 ≡ true → b.0 ≤ t.0)

number-is : (b c : ℕ × BeatNote) → b ≡ c → b.0 ≡ c.0
number-is b c e = λ i. (e i).0

note-is : (p : BeatNote → Bool) (b c : ℕ × BeatNote) → b ≡ c → p b.1 ≡ p c.1
note-is p b c e = λ i. p (e i).1

equal-le : (m n : ℕ) → m ≡ n → n ≤ m
equal-le m n e = omega arith

lt-is : (m n : ℕ) → nat_lt m n ≡ true → m < n
lt-is m n e = grind (arith, nat_tests)

ge-is : (m n : ℕ) → nat_lt m n ≡ false → n ≤ m
ge-is m n e = grind (arith, nat_tests)

le-lt : (a b c : ℕ) → a ≤ b → b < c → a ≤ c
le-lt a b c e f = omega arith

le-eq : (a b c : ℕ) → a ≤ b → c ≡ a → c ≤ b
le-eq a b c e f = omega arith

in-top : (p : BeatNote → Bool) (bs : List (ℕ × BeatNote)) → IsTop bs p (best_in p bs)
unfolding best_in
in-top p [] = λ b m. absurd m
in-top p (b ∷ bs) = go (p b.1) refl (best_in p bs) (in-top p bs)
  where
    skip : (o : Option (ℕ × BeatNote)) → p b.1 ≡ false → IsTop bs p o → IsTop (b ∷ bs) p o
    skip None e k = λ c m. elim m [ inl w ↦ sym (note-is p b c w) ∙ e | inr w ↦ k c w ]
    skip (Some t) e k = (inr k.0, k.1, λ c m q. elim m [ inl w ↦ absurd (let y : p b.1 ≡ p c.1 = note-is p b c w in cc) | inr w ↦ k.2 c w q ])

    less : (t : ℕ × BeatNote) → p b.1 ≡ true → IsTop bs p (Some t) → (c : Bool) → nat_lt t.0 b.0 ≡ c → IsTop (b ∷ bs) p (if c then Some b else Some t)
    less t e k true w = (inl refl, e, λ c m q. elim m [ inl y ↦ equal-le b.0 c.0 (number-is b c y) | inr y ↦ le-lt c.0 t.0 b.0 (k.2 c y q) (lt-is t.0 b.0 w) ])
    less t e k false w = (inr k.0, k.1, λ c m q. elim m [ inl y ↦ le-eq b.0 t.0 c.0 (ge-is t.0 b.0 w) (sym (number-is b c y)) | inr y ↦ k.2 c y q ])

    go : (c : Bool) → p b.1 ≡ c → (o : Option (ℕ × BeatNote)) → IsTop bs p o → IsTop (b ∷ bs) p (if c then elim o [ None ↦ Some b | Some c ↦ if nat_lt c.0 b.0 then Some b else Some c ] else o)
    go false e o k = skip o e k
    go true e None k = (inl refl, e, λ c m q. elim m [ inl w ↦ equal-le b.0 c.0 (number-is b c w) | inr w ↦ absurd (let y : p c.1 ≡ false = k c w in cc) ])
    go true e (Some t) k = less t e k (nat_lt t.0 b.0) refl

-- each number was taken once
abbrev Once : List (ℕ × BeatNote) → Type 0
Once bs = (n : ℕ) (a b : BeatNote) → In bs (n, a) → In bs (n, b) → a ≡ b

one-top : (bs : List (ℕ × BeatNote)) (p : BeatNote → Bool) → Once bs → (x y : Option (ℕ × BeatNote)) → IsTop bs p x → IsTop bs p y → x ≡ y
one-top bs p once None None a b = refl
one-top bs p once None (Some t) a b = absurd (let w : p t.1 ≡ false = a t b.0 in let y : p t.1 ≡ true = b.1 in cc)
one-top bs p once (Some s) None a b = absurd (let w : p s.1 ≡ false = b s a.0 in let y : p s.1 ≡ true = a.1 in cc)
one-top bs p once (Some s) (Some t) a b =
    let e : s.0 ≡ t.0 = both s.0 t.0 (b.2 s a.0 a.1) (a.2 t b.0 b.1) in
    let w : s.1 ≡ t.1 = once t.0 s.1 t.1 (subst (λ (n : ℕ). In bs (n, s.1)) e a.0) b.0 in
    λ k. Some (e k, w k)
  where
    both : (m n : ℕ) → m ≤ n → n ≤ m → m ≡ n
    both m n f g = omega arith

-- ---- what `newest` finds

abbrev IsNewest : List ℕ → List (ℕ × Beat) → Option (ℕ × Beat) → Type 0
IsNewest fronts bs None = (c : ℕ × Beat) → In bs c → is_complete fronts c.1 ≡ false
IsNewest fronts bs (Some b) = In bs b × (is_complete fronts b.1 ≡ true) × ((c : ℕ × Beat) → In bs c → is_complete fronts c.1 ≡ true → c.0 ≤ b.0)

beat-number : (b c : ℕ × Beat) → b ≡ c → b.0 ≡ c.0
beat-number b c e = λ i. (e i).0

next-le : (m n : ℕ) → m + 1 ≤ n → m ≤ n
next-le m n e = omega arith

in-newest : (fronts : List ℕ) (n : ℕ) (bs : List (ℕ × Beat)) → RisesFrom n bs → IsNewest fronts bs (newest fronts bs)
in-newest fronts n [] rises = λ c m. absurd m
in-newest fronts n (b ∷ bs) rises = go (newest fronts bs) (in-newest fronts (b.0 + 1) bs rises.1) (is_complete fronts b.1) refl
  where
    go : (o : Option (ℕ × Beat)) → IsNewest fronts bs o → (t : Bool) → is_complete fronts b.1 ≡ t → IsNewest fronts (b ∷ bs) (elim o [ Some c ↦ Some c | None ↦ if t then Some b else None ])
    go (Some c) k t w = (inr k.0, k.1, λ x m q. elim m [ inl e ↦ le-eq b.0 c.0 x.0 (next-le b.0 c.0 (rises-in (b.0 + 1) bs c rises.1 k.0)) (sym (beat-number b x e)) | inr m ↦ k.2 x m q ])
    go None k true w = (inl refl, w, λ x m q. elim m [ inl e ↦ equal-le b.0 x.0 (beat-number b x e) | inr m ↦ absurd (let y : is_complete fronts x.1 ≡ false = k x m in cc) ])
    go None k false w = λ x m. elim m [ inl e ↦ sym (λ i. is_complete fronts (e i).1) ∙ w | inr m ↦ k x m ]

-- ---- what is kept of the beats that were taken

record Has (t : TakenBeats) (taken : List (ℕ × BeatNote)) : Type 0 where
  best : (b : ℕ × Beat) → t.best ≡ Some b → In taken (noted b)
  later : (n : ℕ) (beat : Beat) → In t.later (n, beat) → In taken (n, note_of beat)
  back : (n : ℕ) (note : BeatNote) → In taken (n, note) → next_number t.best ≤ n → IsLater t n note
  once : Once taken

-- the best one is among those that were taken, and passes
best-there : (t : TakenBeats) (taken : List (ℕ × BeatNote)) (p : BeatNote → Bool) → StandsBeats t taken (best_in p taken) → (b : ℕ × Beat) → t.best ≡ Some b → In taken (noted b) × (p (note_of b.1) ≡ true)
best-there t taken p st b e =
    let w : IsTop taken p (Some (noted b)) = subst (IsTop taken p) (st.kept ∙ ap (option_map noted) e) (in-top p taken) in
    (w.0, w.1)

has-of : (t : TakenBeats) (taken : List (ℕ × BeatNote)) (p : BeatNote → Bool) → StandsBeats t taken (best_in p taken) → Has t taken
has-of t taken p st = record { best = λ b e. (best-there t taken p st b e).0; later = st.later; back = st.back; once = st.once }

above-in : (n : ℕ) (bs : List (ℕ × Beat)) (b : ℕ × Beat) → In (above n bs) b → In bs b
above-in n [] b m = m
above-in n (c ∷ bs) b m = go (nat_le c.0 n) m (above-in n bs b)
  where
    go : (t : Bool) → In (if t then above n bs else c ∷ bs) b → (In (above n bs) b → In bs b) → In (c ∷ bs) b
    go true m rest = inr (rest m)
    go false m rest = m

in-above : (n : ℕ) (bs : List (ℕ × Beat)) (b : ℕ × Beat) → n + 1 ≤ b.0 → In bs b → In (above n bs) b
in-above n [] b le m = m
in-above n (c ∷ bs) b le m = go (nat_le c.0 n) refl m (in-above n bs b le)
  where
    low : (a d : ℕ) → nat_le a n ≡ true → a ≡ d → n + 1 ≤ d → ⊥
    low a d e f g = grind (arith, nat_tests)

    go : (t : Bool) → nat_le c.0 n ≡ t → (c ≡ b) ⊎ In bs b → (In bs b → In (above n bs) b) → In (if t then above n bs else c ∷ bs) b
    go true e (inl w) rest = absurd (low c.0 b.0 e (beat-number c b w) le)
    go true e (inr m) rest = rest m
    go false e m rest = m

has-refreshed : (fronts : List ℕ) (t : TakenBeats) (taken : List (ℕ × BeatNote)) → IsTaken t → Has t taken → Has (refreshed fronts t) taken
has-refreshed fronts t taken is k = go (newest fronts t.later) (in-newest fronts (next_number t.best) t.later is)
  where
    up : (a b n : ℕ) → a ≤ b → b + 1 ≤ n → a ≤ n
    up a b n e f = omega arith

    go : (o : Option (ℕ × Beat)) → IsNewest fronts t.later o → Has (forward t o) taken
    go None w = k
    go (Some b) w = record {
      best = λ c e. subst (λ (x : ℕ × Beat). In taken (noted x)) (some_is b c e) (k.later b.0 b.1 w.0);
      later = λ n beat m. k.later n beat (above-in b.0 t.later (n, beat) m);
      back = λ n note m le.
          let old : IsLater t n note = k.back n note m (up (next_number t.best) b.0 n (rises-in (next_number t.best) t.later b is w.0) le) in
          record { beat = old.beat; there = in-above b.0 t.later (n, old.beat) le old.there; tells = old.tells };
      once = k.once;
    }

-- the best that is kept is the top of what was taken
kept-top : (fronts : List ℕ) (t : TakenBeats) (taken : List (ℕ × BeatNote)) (p : BeatNote → Bool) → IsTaken t → Has t taken → ((b : ℕ × Beat) → In t.later b → is_complete fronts b.1 ≡ p (note_of b.1)) →
    ((b : ℕ × Beat) → t.best ≡ Some b → p (note_of b.1) ≡ true) → IsTop taken p (option_map noted (refreshed fronts t).best)
kept-top fronts t taken p is k agree passes = go (newest fronts t.later) (in-newest fronts (next_number t.best) t.later is)
  where
    complete : (n : ℕ) (note : BeatNote) (l : IsLater t n note) → is_complete fronts l.beat ≡ p note
    complete n note l = agree (n, l.beat) l.there ∙ ap p l.tells

    none : ((c : ℕ × Beat) → In t.later c → is_complete fronts c.1 ≡ false) → (b : ℕ × BeatNote) → In taken b → next_number t.best ≤ b.0 → p b.1 ≡ false
    none f b m le = let l : IsLater t b.0 b.1 = k.back b.0 b.1 m le in sym (complete b.0 b.1 l) ∙ f (b.0, l.beat) l.there

    pos : (n : ℕ) → 0 ≤ n
    pos n = omega arith

    stays : (o : Option (ℕ × Beat)) → t.best ≡ o → ((c : ℕ × Beat) → In t.later c → is_complete fronts c.1 ≡ false) → IsTop taken p (option_map noted o)
    stays None e f = λ b m. none f b m (subst (λ (o : Option (ℕ × Beat)). next_number o ≤ b.0) (sym e) (pos b.0))
    stays (Some c) e f = (
      k.best c e,
      passes c e,
      λ b m q. elim (cases_lt c.0 b.0) [
        | inl lt ↦ absurd (let y : p b.1 ≡ false = none f b m (subst (λ (o : Option (ℕ × Beat)). next_number o ≤ b.0) (sym e) (next c.0 b.0 lt)) in cc)
        | inr le ↦ le
      ],
    )
      where
        next : (m n : ℕ) → m < n → m + 1 ≤ n
        next m n e = omega arith

    under : (a b n : ℕ) → a ≤ b → n < a → n ≤ b
    under a b n e f = omega arith

    go : (o : Option (ℕ × Beat)) → IsNewest fronts t.later o → IsTop taken p (option_map noted (forward t o).best)
    go None w = stays t.best refl w
    go (Some b) w = (
      k.later b.0 b.1 w.0,
      sym (agree b w.0) ∙ w.1,
      λ c m q. elim (cases_lt c.0 (next_number t.best)) [
        | inl lt ↦ under (next_number t.best) b.0 c.0 (rises-in (next_number t.best) t.later b is w.0) lt
        | inr le ↦ let l : IsLater t c.0 c.1 = k.back c.0 c.1 m le in w.2 (c.0, l.beat) l.there (complete c.0 c.1 l ∙ q)
      ],
    )

stands-of : (fronts : List ℕ) (t : TakenBeats) (taken : List (ℕ × BeatNote)) (p : BeatNote → Bool) → IsTaken t → Has t taken → ((b : ℕ × Beat) → In t.later b → is_complete fronts b.1 ≡ p (note_of b.1)) →
    ((b : ℕ × Beat) → t.best ≡ Some b → p (note_of b.1) ≡ true) → StandsBeats (refreshed fronts t) taken (best_in p taken)
stands-of fronts t taken p is k agree passes =
    let new : Has (refreshed fronts t) taken = has-refreshed fronts t taken is k in
    record { kept = one-top taken p k.once (best_in p taken) (option_map noted (refreshed fronts t).best) (in-top p taken) (kept-top fronts t taken p is k agree passes); later = new.later; back = new.back; once = new.once }

-- where more beats are complete than were, the best goes forward to the newest of them
pub stands-refreshed : (fronts : List ℕ) (t : TakenBeats) (taken : List (ℕ × BeatNote)) (p q : BeatNote → Bool) → IsTaken t → ((b : ℕ × Beat) → In t.later b → is_complete fronts b.1 ≡ q (note_of b.1)) → ((note : BeatNote) → p note ≡ true → q note ≡ true) →
    StandsBeats t taken (best_in p taken) → StandsBeats (refreshed fronts t) taken (best_in q taken)
stands-refreshed fronts t taken p q is agree more st =
    stands-of fronts t taken q is (has-of t taken p st) agree (λ b e. more (note_of b.1) (best-there t taken p st b e).1)

-- ---- one beat more

beyond : (m n : ℕ) → nat_le m n ≡ false → n + 1 ≤ m
beyond m n e = grind (arith, nat_tests)

pub young : (o : Option (ℕ × Beat)) (n : ℕ) → is_old o n ≡ false → next_number o ≤ n
young None n e = omega arith
young (Some b) n e = beyond n b.0 e

placed-rises : (low n : ℕ) (beat : Beat) (bs : List (ℕ × Beat)) → low ≤ n → RisesFrom low bs → RisesFrom low (placed bs n beat)
placed-rises low n beat [] up rises = (up, tt)
placed-rises low n beat (b ∷ bs) up rises = go (nat_lt n b.0) (n == b.0) refl refl (λ more. placed-rises (b.0 + 1) n beat bs more rises.1)
  where
    under : (a b : ℕ) → nat_lt a b ≡ true → a + 1 ≤ b
    under a b e = grind (arith, nat_tests)

    past : (a b : ℕ) → nat_lt a b ≡ false → (a == b) ≡ false → b + 1 ≤ a
    past a b e f = grind (arith, nat_tests)

    go : (t u : Bool) → nat_lt n b.0 ≡ t → (n == b.0) ≡ u → (b.0 + 1 ≤ n → RisesFrom (b.0 + 1) (placed bs n beat)) → RisesFrom low (if t then (n, beat) ∷ b ∷ bs else (if u then (b.0, beat) ∷ bs else b ∷ placed bs n beat))
    go true u e f rest = (up, (under n b.0 e, rises.1))
    go false true e f rest = rises
    go false false e f rest = (rises.0, rest (past n b.0 e f))

pub has-in : (bs : List (ℕ × Beat)) (n : ℕ) (beat : Beat) → In bs (n, beat) → has_beat bs n ≡ true
has-in [] n beat m = absurd m
has-in (c ∷ bs) n beat (inl e) = first c.0 n (has_beat bs n) (beat-number c (n, beat) e)
  where
    first : (a b : ℕ) (h : Bool) → a ≡ b → ((a == b) || h) ≡ true
    first a b true e = grind (arith, nat_tests)
    first a b false e = grind (arith, nat_tests)
has-in (c ∷ bs) n beat (inr m) = rest (c.0 == n) (has_beat bs n) (has-in bs n beat m)
  where
    rest : (a h : Bool) → h ≡ true → (a || h) ≡ true
    rest true h e = refl
    rest false h e = e

pub in-has : (bs : List (ℕ × Beat)) (n : ℕ) → has_beat bs n ≡ true → (beat : Beat) × In bs (n, beat)
in-has [] n e = absurd (cc)
in-has (c ∷ bs) n e = go (c.0 == n) refl e (in-has bs n)
  where
    num : (a b : ℕ) → (a == b) ≡ true → a ≡ b
    num a b e = grind (arith, nat_tests)

    go : (t : Bool) → (c.0 == n) ≡ t → (t || has_beat bs n) ≡ true → (has_beat bs n ≡ true → (beat : Beat) × In bs (n, beat)) → (beat : Beat) × In (c ∷ bs) (n, beat)
    go true w e f = (c.1, inl (λ k. (num c.0 n w k, c.1)))
    go false w e f = let y : (beat : Beat) × In bs (n, beat) = f e in (y.0, inr y.1)

abbrev IsPlaced : List (ℕ × Beat) → List (ℕ × Beat) → ℕ → Beat → Type 0
IsPlaced new bs n beat = ((b : ℕ × Beat) → In new b → In bs b ⊎ (b ≡ (n, beat))) × ((b : ℕ × Beat) → In bs b → In new b) × In new (n, beat)

-- a beat that was not there is one more
placed-is : (bs : List (ℕ × Beat)) (n : ℕ) (beat : Beat) → has_beat bs n ≡ false → IsPlaced (placed bs n beat) bs n beat
placed-is [] n beat e = (λ b m. elim m [ inl w ↦ inr (sym w) | inr w ↦ inl w ], λ b m. absurd m, inl refl)
placed-is (c ∷ bs) n beat e = go (nat_lt n c.0) (n == c.0) refl (both (c.0 == n) (has_beat bs n) e) (λ f. placed-is bs n beat f)
  where
    both : (a b : Bool) → (a || b) ≡ false → (a ≡ false) × (b ≡ false)
    both true b e = absurd (cc)
    both false b e = (refl, e)

    clash : (a b : ℕ) → (a == b) ≡ true → (b == a) ≡ false → ⊥
    clash a b e f = grind (arith, nat_tests)

    go : (t u : Bool) → (n == c.0) ≡ u → ((c.0 == n) ≡ false) × (has_beat bs n ≡ false) → (has_beat bs n ≡ false → IsPlaced (placed bs n beat) bs n beat) →
        IsPlaced (if t then (n, beat) ∷ c ∷ bs else (if u then (c.0, beat) ∷ bs else c ∷ placed bs n beat)) (c ∷ bs) n beat
    go true u w e f = (λ b m. elim m [ inl w ↦ inr (sym w) | inr w ↦ inl w ], λ b m. inr m, inl refl)
    go false true w e f = absurd (clash n c.0 w e.0)
    go false false w e f =
        let k : IsPlaced (placed bs n beat) bs n beat = f e.1 in
        (λ b m. elim m [ inl w ↦ inl (inl w) | inr w ↦ elim (k.0 b w) [ inl y ↦ inl (inr y) | inr y ↦ inr y ] ], λ b m. elim m [ inl w ↦ inl w | inr w ↦ inr (k.1 b w) ], inr k.2)

has-beaten : (t : TakenBeats) (taken : List (ℕ × BeatNote)) (n : ℕ) (beat : Beat) → is_old t.best n ≡ false → has_beat t.later n ≡ false → Has t taken → Has (with_beat t n beat) (taken ++ (n, note_of beat) ∷ [])
has-beaten t taken n beat new none k =
    let is : IsPlaced (placed t.later n beat) t.later n beat = placed-is t.later n beat none in
    record {
      best = λ b e. In-left taken ((n, note_of beat) ∷ []) (noted b) (k.best b e);
      later = λ m b i. elim (is.0 (m, b) i) [
        | inl w ↦ In-left taken ((n, note_of beat) ∷ []) (m, note_of b) (k.later m b w)
        | inr w ↦ In-right taken ((n, note_of beat) ∷ []) (m, note_of b) (inl (λ j. ((sym w j).0, note_of (sym w j).1)))
      ];
      back = λ m note i le. elim (In-parts taken ((n, note_of beat) ∷ []) (m, note) i) [
        | inl w ↦ let old : IsLater t m note = k.back m note w le in record { beat = old.beat; there = is.1 (m, old.beat) old.there; tells = old.tells }
        | inr w ↦ elim w [ inl e ↦ record { beat = beat; there = subst (λ (m : ℕ). In (placed t.later n beat) (m, beat)) (λ j. (e j).0) is.2; tells = λ j. (e j).1 } | inr y ↦ absurd y ]
      ];
      once = λ m a b i j. elim (In-parts taken ((n, note_of beat) ∷ []) (m, a) i) [
        | inl x ↦ elim (In-parts taken ((n, note_of beat) ∷ []) (m, b) j) [
          | inl y ↦ k.once m a b x y
          | inr y ↦ elim y [ inl e ↦ absurd (clash m a x (λ j. (e j).0)) | inr z ↦ absurd z ]
        ]
        | inr x ↦ elim x [
          | inl e ↦ elim (In-parts taken ((n, note_of beat) ∷ []) (m, b) j) [
            | inl y ↦ absurd (clash m b y (λ j. (e j).0))
            | inr y ↦ elim y [ inl f ↦ sym (λ j. (e j).1) ∙ (λ j. (f j).1) | inr z ↦ absurd z ]
          ]
          | inr z ↦ absurd z
        ]
      ];
    }
  where
    clash : (m : ℕ) (a : BeatNote) → In taken (m, a) → n ≡ m → ⊥
    clash m a i e =
        let l : IsLater t n a = k.back n a (subst (λ (m : ℕ). In taken (m, a)) (sym e) i) (young t.best n new) in
        let w : has_beat t.later n ≡ true = has-in t.later n l.beat l.there in
        cc

pub stands-beaten : (fronts : List ℕ) (t : TakenBeats) (taken : List (ℕ × BeatNote)) (p : BeatNote → Bool) (n : ℕ) (beat : Beat) → IsTaken t → ((b : ℕ × Beat) → In t.later b → is_complete fronts b.1 ≡ p (note_of b.1)) →
    is_complete fronts beat ≡ p (note_of beat) → is_old t.best n ≡ false → has_beat t.later n ≡ false → StandsBeats t taken (best_in p taken) →
    StandsBeats (refreshed fronts (with_beat t n beat)) (taken ++ (n, note_of beat) ∷ []) (best_in p (taken ++ (n, note_of beat) ∷ []))
stands-beaten fronts t taken p n beat is agree here new none st =
    let placed : IsPlaced (placed t.later n beat) t.later n beat = placed-is t.later n beat none in
    stands-of fronts (with_beat t n beat) (taken ++ (n, note_of beat) ∷ []) p (placed-rises (next_number t.best) n beat t.later (young t.best n new) is)
    (has-beaten t taken n beat new none (has-of t taken p st))
    (λ b m. elim (placed.0 b m) [ inl w ↦ agree b w | inr w ↦ (λ j. is_complete fronts (w j).1) ∙ (here ∙ sym (λ j. p (note_of (w j).1))) ])
    (λ b e. (best-there t taken p st b e).1)
