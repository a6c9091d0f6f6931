-- What was taken of a lane: the machine's numbers, and a window's; and the fronts.
use Rattle.std.specs.Prelude.{◌≡◌, ◌<◌, ◌≤◌, ◌+◌, ◌*◌, ◌/◌, ℕ, zero, suc, Bool, true, false, ◌||◌, ◌&&◌, ◌==◌, nat_le, nat_lt, max, List, [], ◌∷◌, ◌++◌, length, set, get_or, if◌then◌else◌, refl}
use Rattle.std.specs.List.{list_all}
use Rattle.std.proofs.Common.{ap, sym, subst, ◌∙◌, arith, inl, inr}
use Rattle.std.proofs.lemmas.List.{get_or-set_same, get_or-set_other}
use Rattle.std.proofs.lemmas.Nat.{div-mul-add, mul-add-lt}
use Rattle.std.proofs.lemmas.Bool.{cases_eq, eqb-true, eqb-false, ne_eqb, lt-ltb, or_cases, or_from, or_left}
use Rattle.std.proofs.lemmas.Bool.Decides.{nat_tests}
use Rattle.sat_label.specs.Words.{has, below}
use Rattle.sat_bulk.specs.Windows.{Numbers, has_number, settled, placed, after_take, IsWindow, RisesFrom}
use Rattle.sat_bulk.proofs.Windows.{take_has}
use Rattle.sat_beat.specs.declared.Beat.{Beat}
use Rattle.sat_beat.specs.Beats.{is_complete, is_reached}
use Rattle.sat_act.specs.Parts.{BeatNote}
use Rattle.sat_model.specs.State.{ProxyState}
use Rattle.sat_model.specs.Look.{front_in, gap_from, top}
use Rattle.sat_proxy.specs.Proxy.{ProxySeen, IsProxy, no_numbers, lane_place, window_of, front_at, fronts_of, note_of}
use Rattle.sat_proxy.specs.Stands.{StandsProxy, is_reached_by}
use Rattle.sat_proxy.proofs.SameLists.{all-more, all-same, map-below}

-- ---- one number more

has-more : (ns : List ℕ) (n k : ℕ) → has ◌==◌ (ns ++ n ∷ []) k ≡ (has ◌==◌ ns k || (k == n))
has-more [] n k = go n k
  where
    go : (a b : ℕ) → ((a == b) || false) ≡ (b == a)
    go a b = grind (arith, nat_tests)
has-more (m ∷ ns) n k = ap (λ (b : Bool). (m == k) || b) (has-more ns n k) ∙ go (m == k) (has ◌==◌ ns k) (k == n)
  where
    go : (a b c : Bool) → (a || (b || c)) ≡ ((a || b) || c)
    go true b c = refl
    go false b c = refl

-- two lanes at one place are one
one-row : (a b w j k : ℕ) → j < w → k < w → a * w + j ≡ b * w + k → a ≡ b
one-row a b w j k l m e = sym (div-mul-add a w j l) ∙ (ap (λ (n : ℕ). n / w) e ∙ div-mul-add b w k m)

one-column : (a b w j k : ℕ) → a ≡ b → a * w + j ≡ b * w + k → j ≡ k
one-column a b w j k e f = let g : a * w + k ≡ b * w + k = ap (λ (n : ℕ). n * w + k) e in cancel (a * w) j k (f ∙ sym g)
  where
    cancel : (n j k : ℕ) → n + j ≡ n + k → j ≡ k
    cancel n j k e = omega arith

-- each lane has its place
pub lane-within : (p : ProxySeen) (from gear : ℕ) → IsProxy p → from < p.sites → gear < p.gears → lane_place p from gear < length p.windows
lane-within p from gear is lt lg = subst (λ (n : ℕ). lane_place p from gear < n) (turn p.gears p.sites ∙ sym is.windows) (mul-add-lt from p.gears gear p.sites lt lg)
  where
    turn : (a b : ℕ) → a * b ≡ b * a
    turn a b = omega arith

-- another lane is at another place
pub other-site : (p : ProxySeen) (from gear k g : ℕ) → gear < p.gears → g < p.gears → (from == k) ≡ false → lane_place p k g ≡ lane_place p from gear → ⊥
other-site p from gear k g lg lh a h = eqb-false from k a (one-row from k p.gears gear g lg lh (sym h))

-- the windows after a number of a lane was taken
abbrev pub more_windows : ProxySeen → ℕ → ℕ → ℕ → List Numbers
more_windows p from gear m = set p.windows (lane_place p from gear) (after_take (window_of p from gear) m)

-- of that lane the numbers are those before and this one, and those of the others stay
pub taken-more : (p : ProxySeen) (from gear k g m n : ℕ) (ns : List ℕ) → gear < p.gears → g < p.gears → lane_place p from gear < length p.windows → has ◌==◌ ns n ≡ has_number (window_of p k g) n →
    has ◌==◌ (if (from == k) && (gear == g) then ns ++ m ∷ [] else ns) n ≡ has_number (get_or (more_windows p from gear m) (lane_place p k g) no_numbers) n
taken-more p from gear k g m n ns lg lh lt old = go (from == k) (gear == g) refl refl
  where
    new : Numbers
    new = after_take (window_of p from gear) m

    here : from ≡ k → gear ≡ g → has ◌==◌ (ns ++ m ∷ []) n ≡ has_number (get_or (set p.windows (lane_place p from gear) new) (lane_place p k g) no_numbers) n
    here a b =
        let place : lane_place p from gear ≡ lane_place p k g = λ j. lane_place p (a j) (b j) in
        has-more ns m n ∙
        (ap (λ (c : Bool). c || (n == m)) (old ∙ ap (λ (q : ℕ). has_number (get_or p.windows q no_numbers) n) (sym place)) ∙
        (sym (take_has (window_of p from gear) m n) ∙
        ap (λ (w : Numbers). has_number w n) (sym (get_or-set_same p.windows (lane_place p from gear) new no_numbers lt) ∙ ap (λ (q : ℕ). get_or (set p.windows (lane_place p from gear) new) q no_numbers) place)))

    there : (lane_place p k g ≡ lane_place p from gear → ⊥) → has ◌==◌ ns n ≡ has_number (get_or (set p.windows (lane_place p from gear) new) (lane_place p k g) no_numbers) n
    there h = old ∙ ap (λ (w : Numbers). has_number w n) (sym (get_or-set_other p.windows (lane_place p from gear) (lane_place p k g) new no_numbers h))

    go : (a b : Bool) → (from == k) ≡ a → (gear == g) ≡ b → has ◌==◌ (if a && b then ns ++ m ∷ [] else ns) n ≡ has_number (get_or (set p.windows (lane_place p from gear) new) (lane_place p k g) no_numbers) n
    go true true a b = here (eqb-true _ _ a) (eqb-true _ _ b)
    go true false a b = there (λ h. eqb-false gear g b (one-column from k p.gears gear g (eqb-true _ _ a) (sym h)))
    go false b a c = there (other-site p from gear k g lg lh a)

-- ---- the front

-- a number of a list is below its top
below-top : (ns : List ℕ) (n : ℕ) → has ◌==◌ ns n ≡ true → n < top ns
unfolding top
below-top [] n e = absurd (cc)
below-top (m ∷ ns) n e = elim (or_cases (m == n) (has ◌==◌ ns n) e) [
  | inl same ↦ let k : m ≡ n = eqb-true m n same in first m n (top ns) k
  | inr rest ↦ later m n (top ns) (below-top ns n rest)
]
  where
    first : (m n t : ℕ) → m ≡ n → n < max (m + 1) t
    first m n t e = omega arith

    later : (m n t : ℕ) → n < t → n < max (m + 1) t
    later m n t e = omega arith

-- where the numbers from k on are there up to one that is not, that is the gap
gap-is : (m : ℕ) (ns : List ℕ) (k f : ℕ) → k ≤ f → f ≤ k + m → ((n : ℕ) → n < f → has ◌==◌ ns n ≡ true) → has ◌==◌ ns f ≡ false → gap_from m ns k ≡ f
unfolding gap_from
gap-is zero ns k f low high all none = omega arith
gap-is (suc m) ns k f low high all none = elim (cases_eq k f) [
  | inl same ↦ ap (λ (b : Bool). if b then gap_from m ns (k + 1) else k) (ap (has ◌==◌ ns) same ∙ none) ∙ same
  | inr other ↦ ap (λ (b : Bool). if b then gap_from m ns (k + 1) else k) (all k (omega arith)) ∙ gap-is m ns (k + 1) f (omega arith) (omega arith) all none
]

front-is : (ns : List ℕ) (f : ℕ) → ((n : ℕ) → n < f → has ◌==◌ ns n ≡ true) → has ◌==◌ ns f ≡ false → front_in ns ≡ f
front-is ns zero all none = gap-is (top ns) ns 0 0 (omega arith) (omega arith) all none
front-is ns (suc f) all none = let k : f < top ns = below-top ns f (all f (omega arith)) in gap-is (top ns) ns 0 (suc f) (omega arith) (omega arith) all none

-- ---- numbers that rise, however great

abbrev Rises : ℕ → List ℕ → Type 0
Rises n [] = Unit {0}
Rises n (x ∷ xs) = (n ≤ x) × Rises (x + 1) xs

-- the front was not taken
abbrev pub IsOpen : Numbers → Type 0
IsOpen w = Rises (w.front + 1) w.above

rises-of : (n : ℕ) (xs : List ℕ) → RisesFrom n xs → Rises n xs
rises-of n [] rises = tt
rises-of n (x ∷ xs) rises = (rises.0, rises-of (x + 1) xs rises.2)

pub window-open : (w : Numbers) → IsWindow w → IsOpen w
window-open w window = rises-of (w.front + 1) w.above window

settled-open : (n : ℕ) (xs : List ℕ) → Rises n xs → IsOpen (settled n xs)
settled-open n [] rises = tt
settled-open n (x ∷ xs) rises = go (x == n) refl (settled-open (n + 1) xs)
  where
    apart : (a b : ℕ) → b ≤ a → (a == b) ≡ false → b + 1 ≤ a
    apart a b low e = grind (arith, nat_tests)

    go : (b : Bool) → (x == n) ≡ b → (Rises (n + 1) xs → IsOpen (settled (n + 1) xs)) → IsOpen (if b then settled (n + 1) xs else record { front = n; above = x ∷ xs })
    go true e rest = rest (subst (λ (m : ℕ). Rises (m + 1) xs) (eqb-true x n e) rises.1)
    go false e rest = (apart x n rises.0 e, rises.1)

placed-rises : (low n : ℕ) (xs : List ℕ) → low ≤ n → Rises low xs → Rises low (placed xs n)
placed-rises low n [] up rises = (up, tt)
placed-rises low n (x ∷ xs) up rises = go (nat_lt n x) (n == x) refl refl (λ more. placed-rises (x + 1) n xs more rises.1)
  where
    under : (a b : ℕ) → nat_lt a b ≡ true → a + 1 ≤ b
    under a b e = grind (arith, nat_tests)

    past : (a b : ℕ) → nat_lt a b ≡ false → (a == b) ≡ false → b + 1 ≤ a
    past a b e f = grind (arith, nat_tests)

    go : (b c : Bool) → nat_lt n x ≡ b → (n == x) ≡ c → (x + 1 ≤ n → Rises (x + 1) (placed xs n)) → Rises low (if b then n ∷ x ∷ xs else (if c then x ∷ xs else x ∷ placed xs n))
    go true c e f rest = (up, (under n x e, rises.1))
    go false true e f rest = rises
    go false false e f rest = (rises.0, rest (past n x e f))

pub take-open : (w : Numbers) (n : ℕ) → IsOpen w → IsOpen (after_take w n)
take-open w n open_ = go (has_number w n) (n == w.front) refl refl
  where
    above : (a b : ℕ) (h : Bool) → (nat_lt a b || h) ≡ false → (a == b) ≡ false → b + 1 ≤ a
    above a b true e f = grind (arith, nat_tests)
    above a b false e f = grind (arith, nat_tests)

    go : (b c : Bool) → has_number w n ≡ b → (n == w.front) ≡ c → IsOpen (if b then w else (if c then settled (n + 1) w.above else record { front = w.front; above = placed w.above n }))
    go true c e f = open_
    go false true e f = settled-open (n + 1) w.above (subst (λ (m : ℕ). Rises (m + 1) w.above) (sym (eqb-true n w.front f)) open_)
    go false false e f = placed-rises (w.front + 1) n w.above (above n w.front (has ◌==◌ w.above n) e f) open_

-- a number below those of a list that rises is not in it
pub not-below : (low n : ℕ) (xs : List ℕ) → n < low → Rises low xs → has ◌==◌ xs n ≡ false
not-below low n [] lt rises = refl
not-below low n (x ∷ xs) lt rises =
    let up : low ≤ x = rises.0 in
    or_from (x == n) (has ◌==◌ xs n) (ne_eqb x n (λ e. omega arith)) (not-below (x + 1) n xs (omega arith) rises.1)

pub not-self : (n : ℕ) → nat_lt n n ≡ false
not-self n = grind (arith, nat_tests)

-- the front of a window is that of the numbers that it has
pub window-front : (ns : List ℕ) (w : Numbers) → IsOpen w → ((n : ℕ) → has ◌==◌ ns n ≡ has_number w n) → front_in ns ≡ w.front
window-front ns w window same =
    front-is ns w.front (λ n lt. same n ∙ or_left (nat_lt n w.front) (has ◌==◌ w.above n) (lt-ltb n w.front lt))
    (same w.front ∙ or_from (nat_lt w.front w.front) (has ◌==◌ w.above w.front) (not-self w.front) (not-below (w.front + 1) w.front w.above (omega arith) window))

pub front-same : (p : ProxySeen) (q : ProxyState) → IsProxy p → StandsProxy p q → (k g : ℕ) → k < p.sites → g < p.gears → front_in (q.taken k g) ≡ front_at p k g
front-same p q is st k g lk lg = window-front (q.taken k g) (window_of p k g) (window-open (window_of p k g) (is.numbers (lane_place p k g))) (λ n. st.taken k g n lk lg)

-- ---- a front does not fall

settled-up : (n : ℕ) (xs : List ℕ) → n ≤ (settled n xs).front
settled-up n [] = omega arith
settled-up n (x ∷ xs) = go (x == n) (settled-up (n + 1) xs)
  where
    self : (n : ℕ) → n ≤ n
    self n = omega arith

    less : (m n : ℕ) → m + 1 ≤ n → m ≤ n
    less m n e = omega arith

    go : (b : Bool) → n + 1 ≤ (settled (n + 1) xs).front → n ≤ (if b then settled (n + 1) xs else record { front = n; above = x ∷ xs }).front
    go true e = less n (settled (n + 1) xs).front e
    go false e = self n

pub take-up : (w : Numbers) (n : ℕ) → w.front ≤ (after_take w n).front
take-up w n = go (has_number w n) (n == w.front) refl
  where
    self : (n : ℕ) → n ≤ n
    self n = omega arith

    less : (m n k : ℕ) → (n == m) ≡ true → n + 1 ≤ k → m ≤ k
    less m n k e f = grind (arith, nat_tests)

    go : (b c : Bool) → (n == w.front) ≡ c → w.front ≤ (if b then w else (if c then settled (n + 1) w.above else record { front = w.front; above = placed w.above n })).front
    go true c e = self w.front
    go false true e = less w.front n (settled (n + 1) w.above).front e (settled-up (n + 1) w.above)
    go false false e = self w.front

-- ---- complete beats

-- a beat with a count for each gear is complete by fronts where its note is reached by numbers whose fronts these are
pub complete-same : (gears : ℕ) (front : ℕ → ℕ) (fronts : List ℕ) (q : ProxyState) (k : ℕ) (beat : Beat) → length beat.counts ≡ gears → ((g : ℕ) → g < gears → get_or fronts g 0 ≡ front g) → ((g : ℕ) → g < gears → front_in (q.taken k g) ≡ front g) →
    is_complete fronts beat ≡ is_reached_by gears q k (note_of beat)
complete-same gears front fronts q k beat counted here there =
    ap (λ (n : ℕ). list_all (is_reached beat.counts fronts) (below n)) counted ∙
    all-same (is_reached beat.counts fronts) (λ g. nat_le (get_or beat.counts g 0) (front_in (q.taken k g))) gears (λ g lt. ap (nat_le (get_or beat.counts g 0)) (here g lt ∙ sym (there g lt)))

-- what was reached stays so where no front falls
pub reached-more : (gears : ℕ) (q r : ProxyState) (k : ℕ) → ((g : ℕ) → g < gears → front_in (q.taken k g) ≤ front_in (r.taken k g)) → (note : BeatNote) → is_reached_by gears q k note ≡ true → is_reached_by gears r k note ≡ true
reached-more gears q r k up note =
    all-more (λ g. nat_le (note.counts g) (front_in (q.taken k g))) (λ g. nat_le (note.counts g) (front_in (r.taken k g))) gears (λ g lt. more (note.counts g) (front_in (q.taken k g)) (front_in (r.taken k g)) (up g lt))
  where
    more : (a b c : ℕ) → b ≤ c → nat_le a b ≡ true → nat_le a c ≡ true
    more a b c e f = grind (arith, nat_tests)

pub fronts-get : (p : ProxySeen) (k g : ℕ) → g < p.gears → get_or (fronts_of p k) g 0 ≡ front_at p k g
fronts-get p k g lt = map-below (front_at p k) p.gears g 0 lt

pub complete-here : (p : ProxySeen) (q : ProxyState) → IsProxy p → StandsProxy p q → (k : ℕ) (beat : Beat) → k < p.sites → length beat.counts ≡ p.gears → is_complete (fronts_of p k) beat ≡ is_reached_by p.gears q k (note_of beat)
complete-here p q is st k beat lt counted = complete-same p.gears (front_at p k) (fronts_of p k) q k beat counted (fronts-get p k) (λ g lg. front-same p q is st k g lt lg)

-- ---- the windows after a number was taken

-- each is as it was, or that number of its lane was taken
pub by-window : (P : Numbers → Numbers → Type 0) (p : ProxySeen) (from gear k g m : ℕ) → lane_place p from gear < length p.windows → ((w : Numbers) → P w w) → ((w : Numbers) → P w (after_take w m)) →
    P (window_of p k g) (get_or (more_windows p from gear m) (lane_place p k g) no_numbers)
by-window P p from gear k g m lt same new = elim (cases_eq (lane_place p k g) (lane_place p from gear)) [
  | inl e ↦ subst (λ (v : Numbers). P (window_of p k g) v)
      (ap (λ (n : ℕ). after_take (get_or p.windows n no_numbers) m) e ∙ (sym (get_or-set_same p.windows (lane_place p from gear) (after_take (window_of p from gear) m) no_numbers lt) ∙ ap (λ (n : ℕ). get_or (more_windows p from gear m) n no_numbers) (sym e)))
      (new (window_of p k g))
  | inr ne ↦ subst (λ (v : Numbers). P (window_of p k g) v) (sym (get_or-set_other p.windows (lane_place p from gear) (lane_place p k g) (after_take (window_of p from gear) m) no_numbers ne)) (same (window_of p k g))
]

pub more-open : (p : ProxySeen) (from gear k g m : ℕ) → IsProxy p → lane_place p from gear < length p.windows → IsOpen (get_or (more_windows p from gear m) (lane_place p k g) no_numbers)
more-open p from gear k g m is lt =
    by-window (λ w v. IsOpen w → IsOpen v) p from gear k g m lt (λ w o. o) (λ w o. take-open w m o) (window-open (window_of p k g) (is.numbers (lane_place p k g)))

pub more-up : (p : ProxySeen) (from gear k g m : ℕ) → lane_place p from gear < length p.windows → front_at p k g ≤ (get_or (more_windows p from gear m) (lane_place p k g) no_numbers).front
more-up p from gear k g m lt = by-window (λ w v. w.front ≤ v.front) p from gear k g m lt (λ w. self w.front) (λ w. take-up w m)
  where
    self : (n : ℕ) → n ≤ n
    self n = omega arith
