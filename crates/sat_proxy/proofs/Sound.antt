-- What is true of what a site has of the others stays true.
use Rattle.std.specs.Prelude.{ℕ, zero, suc, ◌≡◌, ◌⊎◌, ◌<◌, ◌≤◌, ◌*◌, ◌||◌, Bool, true, false, List, [], ◌∷◌, length, map, get_or, set, replicate, Option, Some, None, if◌then◌else◌, refl}
use Rattle.std.proofs.Common.{arith, ap, sym, ◌∙◌, subst, inl, inr}
use Rattle.std.proofs.lemmas.List.{get_or_default, get_or_read, get_or-set_same, get_or-set_other, length-set, length-replicate, map-set, set-get_or}
use Rattle.std.proofs.lemmas.Bool.{cases_eq}
use Rattle.sat_label.specs.declared.point.Point.{Point}
use Rattle.sat_label.specs.Members.{In}
use Rattle.sat_label.specs.Words.{below}
use Rattle.sat_bulk.specs.Payloads.{Payload}
use Rattle.sat_bulk.specs.Windows.{Numbers, IsWindow}
use Rattle.sat_bulk.specs.Windows as windows
use Rattle.sat_pool.specs.Pool.{Waiting, IsPool, none_waiting}
use Rattle.sat_pool.specs.Pool as pool
use Rattle.sat_beat.specs.declared.Beat.{Beat}
use Rattle.sat_beat.specs.declared.beats.BeatTake.{BeatTake}
use Rattle.sat_beat.specs.declared.beats.BeatTake.TheVariants as came
use Rattle.sat_beat.specs.Beats.{BeatsSeen, TakenBeats, after_take, forward, fresh_beats, has_beat, is_complete, is_old, newest, none_taken, refreshed, take_answer, taken_of, with_taken, IsBeats, IsBest, KeepsBest}
use Rattle.sat_proxy.specs.Proxy.{ProxySeen, first_point, fresh_proxy, front_in, fronts_of, lane_place, no_numbers, window_of, IsProxy}
use Rattle.sat_proxy.specs.Steps.{after_beat, beat_take, beaten, brought, with_beat}
use Rattle.sat_proxy.specs.Helps.{lane_fronts}
use Rattle.sat_proxy.proofs.Fronts.{front-rises, none-fell-to, other-fronts, site_fronts, with_window}
use Rattle.sat_proxy.proofs.Raised.{length-map-below}

-- ---- the numbers of lanes

get-replicate : {X : Type 0} (n i : ℕ) (x : X) → get_or (replicate n x) i x ≡ x
get-replicate zero i x = refl
get-replicate (suc n) zero x = refl
get-replicate (suc n) (suc i) x = get-replicate n i x

pub fresh_numbers : (n k : ℕ) → IsWindow (get_or (replicate n no_numbers) k no_numbers)
fresh_numbers n k = subst (λ (w : Numbers). IsWindow w) (sym (get-replicate n k no_numbers)) tt

-- a number that its lane's window lacks
pub fresh_number : (p r : ProxySeen) (from gear n place : ℕ) (was : Numbers) → p ≡ r → place ≡ lane_place r from gear → place < length r.windows → was ≡ get_or p.windows place was → windows.has_number (window_of r from gear) n ≡ false → windows.has_number was n ≡ false
fresh_number p r from gear n place was same at lt e new =
    subst (λ (w : Numbers). windows.has_number w n ≡ false)
    (sym (e ∙ (ap (λ (q : ProxySeen). get_or q.windows place was) same ∙ (get_or_default r.windows place was no_numbers lt ∙ ap (λ (k : ℕ). get_or r.windows k no_numbers) at))))
    new

-- a window in place of another
pub set_numbers : (xs : List Numbers) (place : ℕ) (w : Numbers) → ((n : ℕ) → IsWindow (get_or xs n no_numbers)) → IsWindow w → place < length xs → (n : ℕ) → IsWindow (get_or (set xs place w) n no_numbers)
set_numbers xs place w each is lt n = elim (cases_eq n place) [
  | inl e ↦ subst (λ (v : Numbers). IsWindow v) (sym (ap (λ (m : ℕ). get_or (set xs place w) m no_numbers) e ∙ get_or-set_same xs place w no_numbers lt)) is
  | inr ne ↦ subst (λ (v : Numbers). IsWindow v) (sym (get_or-set_other xs place n w no_numbers ne)) (each n)
]

-- ---- beats

abbrev or-last : Option (ℕ × Beat) → Option (ℕ × Beat) → Option (ℕ × Beat)
or-last o x = elim o [ Some c ↦ Some c | None ↦ x ]

none-newest : (fronts : List ℕ) (bs : List (ℕ × Beat)) → ((b : ℕ × Beat) → In bs b → is_complete fronts b.1 ≡ false) → newest fronts bs ≡ None
none-newest fronts [] f = refl
none-newest fronts (b ∷ bs) f = go (newest fronts bs) (none-newest fronts bs (λ c m. f c (inr m))) (is_complete fronts b.1) (f b (inl refl))
  where
    go : (o : Option (ℕ × Beat)) → o ≡ None → (t : Bool) → t ≡ false → or-last o (if t then Some b else None) ≡ None
    go (Some c) e t w = absurd (cc)
    go None e true w = absurd (cc)
    go None e false w = refl

-- where the best beat is the best, nothing goes forward
pub refreshed-same : (fronts : List ℕ) (t : TakenBeats) → IsBest fronts t → refreshed fronts t ≡ t
refreshed-same fronts t best = ap (forward t) (none-newest fronts t.later best.greatest)

-- the beats of a site by the fronts before and after, and those of the others
others-best : (p q : ProxySeen) (from k : ℕ) (t : TakenBeats) → q.beats ≡ with_taken p.beats from t → (k ≡ from → ⊥) → fronts_of q k ≡ fronts_of p k → IsBest (fronts_of p k) (taken_of p.beats k) → IsBest (fronts_of q k) (taken_of q.beats k)
others-best p q from k t e apart fronts best =
    subst (λ (fs : List ℕ). IsBest fs (taken_of q.beats k)) (sym fronts)
    (subst (λ (b : BeatsSeen). IsBest (fronts_of p k) (taken_of b k)) (sym e)
    (subst (λ (r : TakenBeats). IsBest (fronts_of p k) r) (sym (get_or-set_other p.beats.rows from k t none_taken apart)) best))

-- a beat came
pub beat-sound : (p : ProxySeen) (from : ℕ) (b : BeatsSeen) (t : TakenBeats) → IsProxy p → from < p.sites → IsBeats b → b ≡ with_taken p.beats from t → KeepsBest (fronts_of p from) (taken_of p.beats from) (taken_of b from) → IsProxy (record p { beats = b })
beat-sound p from b t is lt sound e keeps = record {
  site = is.site;
  windows = is.windows;
  numbers = is.numbers;
  pool = is.pool;
  rows = is.rows;
  beats = sound;
  counted = ap (λ (c : BeatsSeen). c.gears) e ∙ is.counted;
  senders = ap (λ (c : BeatsSeen). length c.rows) e ∙ (length-set p.beats.rows from t ∙ is.senders);
  best = λ k low. go k low (cases_eq k from);
  last = is.last;
}
  where
    still : (g : ℕ) → get_or (fronts_of p from) g 0 ≤ get_or (fronts_of p from) g 0
    still g = omega arith

    go : (k : ℕ) → k < p.sites → (k ≡ from) ⊎ (k ≡ from → ⊥) → IsBest (fronts_of p k) (taken_of b k)
    go k low (inl same) = subst (λ (j : ℕ). IsBest (fronts_of p j) (taken_of b j)) (sym same) (keeps.best (fronts_of p from) still (is.best from lt).complete)
    go k low (inr apart) = others-best p (record p { beats = b }) from k t e apart refl (is.best k low)

-- what the call answers, by the fronts, is what the best beat tells
pub beat-answer : (p : ProxySeen) (from n : ℕ) → IsProxy p → from < p.sites → take_answer (fronts_of p from) (taken_of p.beats from) n ≡ beat_take p from n
beat-answer p from n is lt = ap (λ (t : TakenBeats). if is_old t.best n then came.Old else (if has_beat (taken_of p.beats from).later n then came.Again else came.New)) (refreshed-same (fronts_of p from) (taken_of p.beats from) (is.best from lt))

pub same-taken : (b : BeatsSeen) (i : ℕ) → with_taken b i (taken_of b i) ≡ b
same-taken b i = ap (λ (rows : List TakenBeats). record b { rows = rows }) (set-get_or b.rows i none_taken)

pub beat-after : (p : ProxySeen) (from n : ℕ) (beat : Beat) → IsProxy p → from < p.sites → record p { beats = with_taken p.beats from (after_take (fronts_of p from) (taken_of p.beats from) n beat) } ≡ after_beat p from n beat
beat-after p from n beat is lt = ap (λ (r : TakenBeats). record p { beats = with_taken p.beats from (if is_old r.best n || has_beat t.later n then r else refreshed fronts (with_beat t n beat)) }) same ∙ go (is_old t.best n || has_beat t.later n)
  where
    fronts : List ℕ
    fronts = fronts_of p from

    t : TakenBeats
    t = taken_of p.beats from

    same : refreshed fronts t ≡ t
    same = refreshed-same fronts t (is.best from lt)

    go : (c : Bool) → record p { beats = with_taken p.beats from (if c then t else refreshed fronts (with_beat t n beat)) } ≡ (if c then p else beaten p from n beat)
    go true = ap (λ (b : BeatsSeen). record p { beats = b }) (same-taken p.beats from)
    go false = refl

-- the whole of it: the fronts that the call was given are those of the site
pub record BeatDone (p : ProxySeen) (from n : ℕ) (beat : Beat) (took : BeatTake) (b : BeatsSeen) : Type 0 where
  pub sound : IsProxy (record p { beats = b })
  pub answer : took ≡ beat_take p from n
  pub after : record p { beats = b } ≡ after_beat p from n beat

pub beat-done : (p : ProxySeen) (from n : ℕ) (beat : Beat) (all given fronts : List ℕ) (took : BeatTake) (b : BeatsSeen) → IsProxy p → from < p.sites → all ≡ map front_in p.windows → given ≡ all → fronts ≡ lane_fronts given from p.gears → took ≡ take_answer fronts (taken_of p.beats from) n →
    b ≡ with_taken p.beats from (after_take fronts (taken_of p.beats from) n beat) → KeepsBest fronts (taken_of p.beats from) (taken_of b from) → IsBeats b → BeatDone p from n beat took b
beat-done p from n beat all given fronts took b is lt lanes same part answer new keeps sound =
    let e : fronts ≡ fronts_of p from = part ∙ (ap (λ (xs : List ℕ). lane_fronts xs from p.gears) same ∙ site_fronts p all from lanes is.windows lt) in
    let f : b ≡ with_taken p.beats from (after_take (fronts_of p from) (taken_of p.beats from) n beat) = new ∙ ap (λ (xs : List ℕ). with_taken p.beats from (after_take xs (taken_of p.beats from) n beat)) e in
    record {
      sound = beat-sound p from b (after_take (fronts_of p from) (taken_of p.beats from) n beat) is lt sound f (subst (λ (xs : List ℕ). KeepsBest xs (taken_of p.beats from) (taken_of b from)) e keeps);
      answer = answer ∙ (ap (λ (xs : List ℕ). take_answer xs (taken_of p.beats from) n) e ∙ beat-answer p from n is lt);
      after = ap (λ (c : BeatsSeen). record p { beats = c }) f ∙ beat-after p from n beat is lt;
    }

-- ---- a payload

-- a lane went on: the windows, what waits and the beats after it
pub lane-sound : (p : ProxySeen) (from gear : ℕ) (new : Numbers) (w : Waiting) (b : BeatsSeen) (t : TakenBeats) → IsProxy p → IsWindow new → (window_of p from gear).front ≤ new.front → from < p.sites → gear < p.gears → lane_place p from gear < length p.windows → IsPool w → length w.rows ≡ p.sites → IsBeats b → b ≡ with_taken p.beats from t →
    KeepsBest (fronts_of (with_window p (lane_place p from gear) new) from) (taken_of p.beats from) (taken_of b from) →
    IsProxy (record p { windows = set p.windows (lane_place p from gear) new; pool = w; beats = b })
lane-sound p from gear new w b t is whole rises lt lg within waits rows sound e keeps = record {
  site = is.site;
  windows = length-set p.windows (lane_place p from gear) new ∙ is.windows;
  numbers = set_numbers p.windows (lane_place p from gear) new is.numbers whole within;
  pool = waits;
  rows = rows;
  beats = sound;
  counted = ap (λ (c : BeatsSeen). c.gears) e ∙ is.counted;
  senders = ap (λ (c : BeatsSeen). length c.rows) e ∙ (length-set p.beats.rows from t ∙ is.senders);
  best = λ k low. go k low (cases_eq k from);
  last = is.last;
}
  where
    after : ProxySeen
    after = record p { windows = set p.windows (lane_place p from gear) new; pool = w; beats = b }

    go : (k : ℕ) → k < p.sites → (k ≡ from) ⊎ (k ≡ from → ⊥) → IsBest (fronts_of after k) (taken_of b k)
    go k low (inl same) = subst (λ (j : ℕ). IsBest (fronts_of after j) (taken_of b j)) (sym same) (keeps.best (fronts_of p from) (none-fell-to p from gear new within rises) (is.best from lt).complete)
    go k low (inr apart) = others-best p after from k t e apart (other-fronts p from gear k new lg apart) (is.best k low)

pub added-rows : (w : Waiting) (q : Payload) → length (pool.after_add w q).rows ≡ length w.rows
added-rows w q = length-set w.rows q.label.point.site (pool.placed (pool.row_of w q.label.point.site) q)

-- the whole of it
pub record BringDone (p : ProxySeen) (from gear n : ℕ) (q : Payload) (all : List ℕ) (windows : List Numbers) (w : Waiting) (b : BeatsSeen) : Type 0 where
  pub fronts : all ≡ map front_in windows
  pub sound : IsProxy (record p { windows = windows; pool = w; beats = b })
  pub after : record p { windows = windows; pool = w; beats = b } ≡ brought p from gear n q

pub bring-done : (p : ProxySeen) (from gear n : ℕ) (q : Payload) (place : ℕ) (all given fronts : List ℕ) (was new seen : Numbers) (front : ℕ) (w : Waiting) (b : BeatsSeen) → IsProxy p → from < p.sites → gear < p.gears → all ≡ map front_in p.windows → place ≡ lane_place p from gear → place < length p.windows →
    was ≡ get_or p.windows place was → new ≡ windows.after_take was n → seen ≡ get_or (set p.windows place new) place seen → front ≡ seen.front → IsWindow seen → given ≡ set all place front → fronts ≡ lane_fronts given from p.gears → w ≡ pool.after_add p.pool q →
    b ≡ with_taken p.beats from (refreshed fronts (taken_of p.beats from)) → KeepsBest fronts (taken_of p.beats from) (taken_of b from) → IsPool w → IsBeats b → BringDone p from gear n q (set all place front) (set p.windows place new) w b
bring-done p from gear n q place all given fronts was new seen front w b is lt lg lanes at within old next there head whole same part add beats keeps waits sound = record {
  fronts = moved;
  sound = subst (λ (x : ProxySeen). IsProxy x) (sym here) (lane-sound p from gear (windows.after_take (window_of p from gear) n) w b (refreshed fronts (taken_of p.beats from)) is (subst (λ (v : Numbers). IsWindow v) (there ∙ (get_or-set_same p.windows place new seen within ∙ taken)) whole) (front-rises (window_of p from gear) n) lt lg (subst (λ (m : ℕ). m < length p.windows) at within) waits (ap (λ (v : Waiting). length v.rows) add ∙ (added-rows p.pool q ∙ is.rows)) sound beats (subst (λ (xs : List ℕ). KeepsBest xs (taken_of p.beats from) (taken_of b from)) those keeps));
  after = λ i. record p { windows = set p.windows (at i) (taken i); pool = add i; beats = (beats ∙ ap (λ (xs : List ℕ). with_taken p.beats from (refreshed xs (taken_of p.beats from))) those) i };
}
  where
    taken : new ≡ windows.after_take (window_of p from gear) n
    taken = next ∙ ap (λ (v : Numbers). windows.after_take v n) (get_or_read p.windows place was within old no_numbers ∙ ap (λ (m : ℕ). get_or p.windows m no_numbers) at)

    moved : set all place front ≡ map front_in (set p.windows place new)
    moved =
        ap (λ (m : ℕ). set all place m) (head ∙ ap front_in (there ∙ get_or-set_same p.windows place new seen within)) ∙
        (ap (λ (xs : List ℕ). set xs place new.front) lanes ∙ sym (map-set front_in p.windows place new))

    here : record p { windows = set p.windows place new; pool = w; beats = b } ≡ record p { windows = set p.windows (lane_place p from gear) (windows.after_take (window_of p from gear) n); pool = w; beats = b }
    here = λ i. record p { windows = set p.windows (at i) (taken i); pool = w; beats = b }

    those : fronts ≡ fronts_of (with_window p (lane_place p from gear) (windows.after_take (window_of p from gear) n)) from
    those =
        part ∙
        (ap (λ (xs : List ℕ). lane_fronts xs from p.gears) same ∙
        (site_fronts (with_window p place new) (set all place front) from moved (length-set p.windows place new ∙ is.windows) lt ∙
        (λ i. fronts_of (with_window p (at i) (taken i)) from)))

-- ---- nothing came

none-best : (fronts : List ℕ) → IsBest fronts none_taken
none-best fronts = record { complete = λ b e. absurd (cc); greatest = λ b m. absurd m }

pub fresh-sound : (sites gears site : ℕ) → site < sites → IsPool (none_waiting sites) → IsBeats (fresh_beats sites gears) → IsProxy (fresh_proxy sites gears site)
fresh-sound sites gears site lt waits beats = record {
  site = lt;
  windows = length-replicate (sites * gears) no_numbers;
  numbers = fresh_numbers (sites * gears);
  pool = waits;
  rows = length-replicate sites [];
  beats = beats;
  counted = refl;
  senders = length-replicate sites none_taken;
  best = λ k low. subst (λ (t : TakenBeats). IsBest (fronts_of (fresh_proxy sites gears site) k) t) (sym (get-replicate sites k none_taken)) (none-best (fronts_of (fresh_proxy sites gears site) k));
  last = length-map-below first_point sites;
}

pub fresh-fronts : (n : ℕ) → replicate n 0 ≡ map front_in (replicate n no_numbers)
fresh-fronts zero = refl
fresh-fronts (suc n) = ap (λ (xs : List ℕ). 0 ∷ xs) (fresh-fronts n)

pub fresh_done : (sites gears site : ℕ) (windows : List Numbers) (fronts : List ℕ) (w : Waiting) (b : BeatsSeen) (last : List Point) → site < sites → windows ≡ replicate (sites * gears) no_numbers → fronts ≡ replicate (sites * gears) 0 → w ≡ none_waiting sites → b ≡ fresh_beats sites gears → last ≡ map first_point (below sites) → IsPool w → IsBeats b →
    (fronts ≡ map front_in windows) × IsProxy (record { sites = sites; gears = gears; site = site; windows = windows; pool = w; beats = b; last = last })
fresh_done sites gears site windows fronts w b last lt eq-windows eq-fronts eq-pool eq-beats eq-last waits beats = (
  eq-fronts ∙ (fresh-fronts (sites * gears) ∙ ap (map front_in) (sym eq-windows)),
  subst (λ (x : ProxySeen). IsProxy x) (λ i. record { sites = sites; gears = gears; site = site; windows = sym eq-windows i; pool = sym eq-pool i; beats = sym eq-beats i; last = sym eq-last i })
      (fresh-sound sites gears site lt (subst (λ (v : Waiting). IsPool v) eq-pool waits) (subst (λ (c : BeatsSeen). IsBeats c) eq-beats beats)),
)
