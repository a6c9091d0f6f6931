-- Payloads of a lane come one after another.
use Rattle.std.specs.Prelude.{ℕ, suc, ◌≡◌, ◌<◌, ◌≤◌, ◌+◌, ◌==◌, Bool, true, false, nat_lt, List, [], ◌∷◌, ◌++◌, length, map, get_or, set, take, if◌then◌else◌, refl}
use Rattle.std.proofs.Common.{arith, ap, sym, ◌∙◌, subst, ◌⊎◌, inl, inr}
use Rattle.std.proofs.lemmas.List.{get_or_read, get_or-set_same, length-set, length-take-le, map-set, set-get_or, set-set, take_more}
use Rattle.std.proofs.lemmas.Option.{slice_get-get_or}
use Rattle.std.proofs.lemmas.Bool.{cases_lt, or_from}
use Rattle.std.proofs.lemmas.Bool.Decides.{nat_tests}
use Rattle.sat_label.specs.Members.{In}
use Rattle.sat_label.specs.Words.{has}
use Rattle.sat_label.proofs.Members.{In-get}
use Rattle.sat_bulk.specs.Payloads.{Payload}
use Rattle.sat_bulk.specs.Windows.{Numbers, has_number, placed, settled, IsWindow}
use Rattle.sat_bulk.specs.Windows as windows
use Rattle.sat_pool.specs.Pool.{Waiting, IsPool, after_add}
use Rattle.sat_beat.specs.Beats.{BeatsSeen, TakenBeats, none_taken, refreshed, taken_of, with_taken, IsBeats, IsTaken, KeepsBest}
use Rattle.sat_beat.proofs.Twice.{refreshed-twice}
use Rattle.sat_proxy.specs.Proxy.{ProxySeen, front_at, front_in, fronts_of, lane_place, no_numbers, window_of, IsProxy}
use Rattle.sat_proxy.specs.Steps.{ComeNext, after_bulk, after_bulks, with_best}
use Rattle.sat_proxy.specs.Helps.{ComeInLane, LaneSeen, lane_after, lane_afters, lane_fronts}
use Rattle.sat_proxy.proofs.Fronts.{front-rises, none-fell-to, site_fronts, with_window}
use Rattle.sat_proxy.proofs.SameLanes.{not-below, not-self, window-open}
use Rattle.sat_proxy.proofs.Sound.{added-rows, lane-sound, refreshed-same, same-taken}

abbrev lane : Waiting → Numbers → LaneSeen
lane v w = record { waits = v; numbers = w }

-- ---- one payload

pub front-new : (w : Numbers) → IsWindow w → has_number w w.front ≡ false
front-new w window = or_from (nat_lt w.front w.front) (has ◌==◌ w.above w.front) (not-self w.front) (not-below (w.front + 1) w.front w.above (omega arith) (window-open w window))

front-taken : (w : Numbers) → IsWindow w → windows.after_take w w.front ≡ settled (w.front + 1) w.above
front-taken w window =
    ap (λ (b : Bool). if b then w else (if w.front == w.front then settled (w.front + 1) w.above else record { front = w.front; above = placed w.above w.front })) (front-new w window)
    ∙ ap (λ (b : Bool). if b then settled (w.front + 1) w.above else record { front = w.front; above = placed w.above w.front }) (same w.front)
  where
    same : (n : ℕ) → (n == n) ≡ true
    same n = grind (arith, nat_tests)

-- the one at the front comes
pub next_comes : (v new : Waiting) (w moved : Numbers) (n : ℕ) (q : Payload) → n ≡ w.front → IsWindow w → new ≡ after_add v q → moved ≡ settled (w.front + 1) w.above →
    record { waits = new; numbers = moved } ≡ lane_after (record { waits = v; numbers = w }) n q
next_comes v new w moved n q meets window add move =
    (λ i. lane (add i) (move i))
    ∙ sym (ap (λ (m : ℕ). lane_after (lane v w) m q) meets
    ∙ (ap (λ (b : Bool). if b then lane v w else lane (after_add v q) (windows.after_take w w.front)) (front-new w window)
    ∙ ap (λ (x : Numbers). lane (after_add v q) x) (front-taken w window)))

-- ---- one after another

last-comes : (qs : List Payload) (s : LaneSeen) (n : ℕ) (q : Payload) → lane_afters s n (qs ++ q ∷ []) ≡ lane_after (lane_afters s n qs) (n + length qs) q
last-comes [] s n q = ap (λ (m : ℕ). lane_after s m q) (let e : n ≡ n + 0 = omega arith in e)
last-comes (r ∷ qs) s n q = last-comes qs (lane_after s n r) (n + 1) q ∙ ap (λ (m : ℕ). lane_after (lane_afters (lane_after s n r) (n + 1) qs) m q) (next n (length qs))
  where
    next : (a b : ℕ) → a + 1 + b ≡ a + suc b
    next a b = omega arith

pub one-comes : (s : LaneSeen) (n k : ℕ) (qs : List Payload) (q : Payload) → k < length qs → q ≡ get_or qs k q → lane_afters s n (take (k + 1) qs) ≡ lane_after (lane_afters s n (take k qs)) (n + k) q
one-comes s n k qs q lt is =
    ap (lane_afters s n) (take_more qs k q lt ∙ ap (λ (x : Payload). take k qs ++ x ∷ []) (sym is))
    ∙ (last-comes (take k qs) s n q ∙ ap (λ (m : ℕ). lane_after (lane_afters s n (take k qs)) (n + m) q) (length-take-le k qs (omega arith)))

-- one more is the next
pub came-on : (s : LaneSeen) (n : ℕ) (qs : List Payload) (count : ℕ) → ComeInLane s n qs count → (lane_afters s n (take count qs)).numbers.front ≡ n + count → ComeInLane s n qs (count + 1)
came-on s n qs count come here k lt = go (cases_lt k count)
  where
    go : (k < count) ⊎ (count ≤ k) → (lane_afters s n (take k qs)).numbers.front ≡ n + k
    go (inl low) = come k low
    go (inr up) = subst (λ (m : ℕ). (lane_afters s n (take m qs)).numbers.front ≡ n + m) (let e : count ≡ k = omega arith in e) here

pub is-in : (qs : List Payload) (k : ℕ) (q : Payload) → k < length qs → q ≡ get_or qs k q → In qs q
is-in qs k q lt is = subst (λ (x : Payload). In qs x) (sym is) (In-get qs k (get_or qs k q) (slice_get-get_or qs k q lt))

pub lane-rows : (qs : List Payload) (s : LaneSeen) (n : ℕ) → length (lane_afters s n qs).waits.rows ≡ length s.waits.rows
lane-rows [] s n = refl
lane-rows (q ∷ qs) s n = lane-rows qs (lane_after s n q) (n + 1) ∙ go (has_number s.numbers n)
  where
    go : (b : Bool) → length (if b then s else lane (after_add s.waits q) (windows.after_take s.numbers n)).waits.rows ≡ length s.waits.rows
    go true = refl
    go false = added-rows s.waits q

pub lane-rises : (qs : List Payload) (s : LaneSeen) (n : ℕ) → s.numbers.front ≤ (lane_afters s n qs).numbers.front
lane-rises [] s n = omega arith
lane-rises (q ∷ qs) s n = up s.numbers.front (lane_after s n q).numbers.front (lane_afters (lane_after s n q) (n + 1) qs).numbers.front (go (has_number s.numbers n)) (lane-rises qs (lane_after s n q) (n + 1))
  where
    up : (a b c : ℕ) → a ≤ b → b ≤ c → a ≤ c
    up a b c p r = omega arith

    go : (b : Bool) → s.numbers.front ≤ (if b then s else lane (after_add s.waits q) (windows.after_take s.numbers n)).numbers.front
    go true = omega arith
    go false = front-rises s.numbers n

-- ---- the beats go forward once, behind all

-- a lane went on, and the best beat of its site went forward
abbrev went-on : ProxySeen → ℕ → ℕ → LaneSeen → ProxySeen
went-on p from gear s = record p {
  windows = set p.windows (lane_place p from gear) s.numbers;
  pool = s.waits;
  beats = with_taken p.beats from (refreshed (fronts_of (with_window p (lane_place p from gear) s.numbers) from) (taken_of p.beats from));
}

-- so it is after each payload
goes-on : (p : ProxySeen) (from gear : ℕ) (s : LaneSeen) (n : ℕ) (q : Payload) → lane_place p from gear < length p.windows → from < length p.beats.rows → IsTaken (taken_of p.beats from) →
    after_bulk (went-on p from gear s) from gear n q ≡ went-on p from gear (lane_after s n q)
goes-on p from gear s n q within row taken = ap (λ (w : Numbers). if has_number w n then was else come w) seen ∙ go (has_number s.numbers n)
  where
    place : ℕ
    place = lane_place p from gear

    was : ProxySeen
    was = went-on p from gear s

    come : Numbers → ProxySeen
    come w = with_best (record was { windows = set was.windows place (windows.after_take w n); pool = after_add was.pool q }) from

    seen : window_of was from gear ≡ s.numbers
    seen = get_or-set_same p.windows place s.numbers no_numbers within

    new : Numbers
    new = windows.after_take s.numbers n

    t : TakenBeats
    t = taken_of p.beats from

    before : List ℕ
    before = fronts_of (with_window p place s.numbers) from

    after : List ℕ
    after = fronts_of (with_window (with_window p place s.numbers) place new) from

    two : set (set p.windows place s.numbers) place new ≡ set p.windows place new
    two = set-set p.windows place s.numbers new

    there : place < length (set p.windows place s.numbers)
    there = subst (λ (m : ℕ). place < m) (sym (length-set p.windows place s.numbers)) within

    up : window_of (with_window p place s.numbers) from gear ≡ s.numbers → (window_of (with_window p place s.numbers) from gear).front ≤ new.front
    up e = subst (λ (w : Numbers). w.front ≤ new.front) (sym e) (front-rises s.numbers n)

    once : refreshed after (taken_of (with_taken p.beats from (refreshed before t)) from) ≡ refreshed after t
    once =
        ap (refreshed after) (get_or-set_same p.beats.rows from (refreshed before t) none_taken row)
        ∙ refreshed-twice before after t (none-fell-to (with_window p place s.numbers) from gear new there (up seen)) taken

    beats : with_taken (with_taken p.beats from (refreshed before t)) from (refreshed after (taken_of (with_taken p.beats from (refreshed before t)) from)) ≡ with_taken p.beats from (refreshed (fronts_of (with_window p place new) from) t)
    beats =
        ap (λ (rows : List TakenBeats). record p.beats { rows = rows }) (set-set p.beats.rows from (refreshed before t) (refreshed after (taken_of (with_taken p.beats from (refreshed before t)) from)))
        ∙ (ap (with_taken p.beats from) once
        ∙ ap (λ (ws : List Numbers). with_taken p.beats from (refreshed (fronts_of (record p { windows = ws }) from) t)) two)

    go : (b : Bool) → (if b then was else come s.numbers) ≡ went-on p from gear (if b then s else lane (after_add s.waits q) new)
    go true = refl
    go false = λ i. record p { windows = two i; pool = after_add s.waits q; beats = beats i }

all-go-on : (p : ProxySeen) (from gear : ℕ) (qs : List Payload) (s : LaneSeen) (n : ℕ) → lane_place p from gear < length p.windows → from < length p.beats.rows → IsTaken (taken_of p.beats from) →
    after_bulks (went-on p from gear s) from gear n qs ≡ went-on p from gear (lane_afters s n qs)
all-go-on p from gear [] s n within row taken = refl
all-go-on p from gear (q ∷ qs) s n within row taken =
    ap (λ (r : ProxySeen). after_bulks r from gear (n + 1) qs) (goes-on p from gear s n q within row taken)
    ∙ all-go-on p from gear qs (lane_after s n q) (n + 1) within row taken

-- before the first nothing went forward
stays : (p : ProxySeen) (from gear : ℕ) → IsProxy p → from < p.sites → went-on p from gear (lane p.pool (window_of p from gear)) ≡ p
stays p from gear is lt = λ i. record p { windows = same i; beats = beats i }
  where
    same : set p.windows (lane_place p from gear) (window_of p from gear) ≡ p.windows
    same = set-get_or p.windows (lane_place p from gear) no_numbers

    beats : with_taken p.beats from (refreshed (fronts_of (with_window p (lane_place p from gear) (window_of p from gear)) from) (taken_of p.beats from)) ≡ p.beats
    beats =
        ap (λ (ws : List Numbers). with_taken p.beats from (refreshed (fronts_of (record p { windows = ws }) from) (taken_of p.beats from))) same
        ∙ (ap (with_taken p.beats from) (refreshed-same (fronts_of p from) (taken_of p.beats from) (is.best from lt))
        ∙ same-taken p.beats from)

all-come : (p : ProxySeen) (from gear n : ℕ) (qs : List Payload) → IsProxy p → from < p.sites → lane_place p from gear < length p.windows →
    after_bulks p from gear n qs ≡ went-on p from gear (lane_afters (lane p.pool (window_of p from gear)) n qs)
all-come p from gear n qs is lt within =
    ap (λ (r : ProxySeen). after_bulks r from gear n qs) (sym (stays p from gear is lt))
    ∙ all-go-on p from gear qs (lane p.pool (window_of p from gear)) n within (subst (λ (m : ℕ). from < m) (sym is.senders) lt) (is.beats.each from).taken

-- so each is the next of the proxy's lane
next-come : (p : ProxySeen) (from gear n count : ℕ) (qs : List Payload) → IsProxy p → from < p.sites → lane_place p from gear < length p.windows → ComeInLane (lane p.pool (window_of p from gear)) n qs count → ComeNext p from gear n qs count
next-come p from gear n count qs is lt within come k low =
    ap (λ (r : ProxySeen). front_at r from gear) (all-come p from gear n (take k qs) is lt within)
    ∙ (ap front_in (get_or-set_same p.windows (lane_place p from gear) (lane_afters (lane p.pool (window_of p from gear)) n (take k qs)).numbers no_numbers within)
    ∙ come k low)

-- ---- the whole of it

pub record BulksDone (p : ProxySeen) (from gear n : ℕ) (qs : List Payload) (all : List ℕ) (ws : List Numbers) (w : Waiting) (b : BeatsSeen) : Type 0 where
  pub fronts : all ≡ map front_in ws
  pub sound : IsProxy (record p { windows = ws; pool = w; beats = b })
  pub after : record p { windows = ws; pool = w; beats = b } ≡ after_bulks p from gear n qs

pub bulks-next : (p : ProxySeen) (from gear n count : ℕ) (qs : List Payload) (place : ℕ) (was : Numbers) → IsProxy p → from < p.sites → place ≡ lane_place p from gear → place < length p.windows → was ≡ get_or p.windows place was → ComeInLane (record { waits = p.pool; numbers = was }) n qs count → ComeNext p from gear n qs count
bulks-next p from gear n count qs place was is lt at within old come =
    next-come p from gear n count qs is lt (subst (λ (m : ℕ). m < length p.windows) at within)
    (subst (λ (w : Numbers). ComeInLane (lane p.pool w) n qs count) (get_or_read p.windows place was within old no_numbers ∙ ap (λ (m : ℕ). get_or p.windows m no_numbers) at) come)

pub bulks-done : (p : ProxySeen) (from gear n : ℕ) (qs : List Payload) (place : ℕ) (all given fronts : List ℕ) (was new seen : Numbers) (front : ℕ) (w : Waiting) (b : BeatsSeen) → IsProxy p → from < p.sites → gear < p.gears → all ≡ map front_in p.windows → place ≡ lane_place p from gear → place < length p.windows →
    was ≡ get_or p.windows place was → record { waits = w; numbers = new } ≡ lane_afters (record { waits = p.pool; numbers = was }) n qs → seen ≡ get_or (set p.windows place new) place seen → front ≡ seen.front → IsWindow seen → given ≡ set all place front → fronts ≡ lane_fronts given from p.gears →
    b ≡ with_taken p.beats from (refreshed fronts (taken_of p.beats from)) → KeepsBest fronts (taken_of p.beats from) (taken_of b from) → IsPool w → IsBeats b → BulksDone p from gear n qs (set all place front) (set p.windows place new) w b
bulks-done p from gear n qs place all given fronts was new seen front w b is lt lg lanes at within old next there head whole same part beats keeps waits sound = record {
  fronts = moved;
  sound = subst (λ (x : ProxySeen). IsProxy x) (λ i. record p { windows = set p.windows (sym at i) new; pool = w; beats = b })
      (lane-sound p from gear new w b (refreshed fronts (taken_of p.beats from)) is (subst (λ (v : Numbers). IsWindow v) (there ∙ get_or-set_same p.windows place new seen within) whole)
      (subst (λ (v : Numbers). (window_of p from gear).front ≤ v.front) (sym (ap (λ (x : LaneSeen). x.numbers) taken)) (lane-rises qs (lane p.pool (window_of p from gear)) n))
      lt lg inside waits (ap (λ (x : LaneSeen). length x.waits.rows) taken ∙ (lane-rows qs (lane p.pool (window_of p from gear)) n ∙ is.rows)) sound beats
      (subst (λ (xs : List ℕ). KeepsBest xs (taken_of p.beats from) (taken_of b from)) those keeps));
  after =
      (λ i. record p { windows = set p.windows (at i) (taken i).numbers; pool = (taken i).waits; beats = (beats ∙ (ap (λ (xs : List ℕ). with_taken p.beats from (refreshed xs (taken_of p.beats from))) those ∙ last)) i })
      ∙ sym (all-come p from gear n qs is lt inside);
}
  where
    inside : lane_place p from gear < length p.windows
    inside = subst (λ (m : ℕ). m < length p.windows) at within

    taken : lane w new ≡ lane_afters (lane p.pool (window_of p from gear)) n qs
    taken = next ∙ ap (λ (v : Numbers). lane_afters (lane p.pool v) n qs) (get_or_read p.windows place was within old no_numbers ∙ ap (λ (m : ℕ). get_or p.windows m no_numbers) at)

    moved : set all place front ≡ map front_in (set p.windows place new)
    moved =
        ap (λ (m : ℕ). set all place m) (head ∙ ap front_in (there ∙ get_or-set_same p.windows place new seen within)) ∙
        (ap (λ (xs : List ℕ). set xs place new.front) lanes ∙ sym (map-set front_in p.windows place new))

    those : fronts ≡ fronts_of (with_window p (lane_place p from gear) new) from
    those =
        part ∙
        (ap (λ (xs : List ℕ). lane_fronts xs from p.gears) same ∙
        (site_fronts (with_window p place new) (set all place front) from moved (length-set p.windows place new ∙ is.windows) lt ∙
        (λ i. fronts_of (with_window p (at i) new) from)))

    last : with_taken p.beats from (refreshed (fronts_of (with_window p (lane_place p from gear) new) from) (taken_of p.beats from))
        ≡ with_taken p.beats from (refreshed (fronts_of (with_window p (lane_place p from gear) (lane_afters (lane p.pool (window_of p from gear)) n qs).numbers) from) (taken_of p.beats from))
    last = λ i. with_taken p.beats from (refreshed (fronts_of (with_window p (lane_place p from gear) (taken i).numbers) from) (taken_of p.beats from))
