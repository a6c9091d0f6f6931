-- The fronts of a site's lanes, and those of the others when one lane goes on.
use Rattle.std.specs.Prelude.{ℕ, zero, suc, ◌≡◌, ◌⊎◌, ◌<◌, ◌≤◌, ◌+◌, ◌*◌, ◌-◌, ◌/◌, ◌==◌, Bool, true, false, List, [], ◌∷◌, length, map, get_or, set, drop, if◌then◌else◌, refl}
use Rattle.std.proofs.Common.{arith, ap, sym, ◌∙◌, subst, inl, inr}
use Rattle.std.proofs.lemmas.List.{get_or-map, get_or-take, get_or-drop, get_or-set_same, get_or-set_other, get_or_past, length-map, length-take-le, length-drop}
use Rattle.std.proofs.lemmas.Nat.{mul-add-lt, div-mul-add}
use Rattle.std.proofs.Math.Nat.{mul_comm}
use Rattle.std.proofs.lemmas.Bool.{cases_eq, cases_lt, eqb-true}
use Rattle.sat_label.specs.Words.{below}
use Rattle.sat_bulk.specs.Windows.{Numbers, after_take, has_number, placed, settled}
use Rattle.sat_beat.specs.Beats.{NoneFell}
use Rattle.sat_proxy.specs.Proxy.{ProxySeen, front_at, front_in, fronts_of, lane_place, no_numbers, window_of}
use Rattle.sat_proxy.specs.Helps.{lane_fronts}
use Rattle.sat_proxy.proofs.Raised.{get-map-below, is-map-below, length-map-below}

-- ---- the fronts of a site as a part of all

lanes-fit : (from sites gears : ℕ) → from < sites → gears ≤ sites * gears - from * gears
lanes-fit from sites zero lt = omega arith
lanes-fit from sites (suc g) lt = let k : from * suc g + g < suc g * sites = mul-add-lt from (suc g) g sites lt (omega arith) in let e : suc g * sites ≡ sites * suc g = comm (suc g) sites in fits (from * suc g) (suc g * sites) (sites * suc g) g k e
  where
    comm : (a b : ℕ) → a * b ≡ b * a
    comm a b = mul_comm a b

    fits : (a b c g : ℕ) → a + g < b → b ≡ c → suc g ≤ c - a
    fits a b c g lt e = omega arith

pub lane-within : (from gear sites gears : ℕ) → from < sites → gear < gears → from * gears + gear < sites * gears
lane-within from gear sites gears lt lg = subst (λ (n : ℕ). from * gears + gear < n) (mul_comm gears sites) (mul-add-lt from gears gear sites lt lg)

pub site_fronts : (p : ProxySeen) (fronts : List ℕ) (from : ℕ) → fronts ≡ map front_in p.windows → length p.windows ≡ p.sites * p.gears → from < p.sites → lane_fronts fronts from p.gears ≡ fronts_of p from
site_fronts p fronts from is len lt = is-map-below (front_at p from) (lane_fronts fronts from p.gears) p.gears many at
  where
    all : length fronts ≡ p.sites * p.gears
    all = ap (λ (xs : List ℕ). length xs) is ∙ (length-map p.windows front_in ∙ len)

    fit : p.gears ≤ length (drop (from * p.gears) fronts)
    fit = subst (λ (n : ℕ). p.gears ≤ n) (sym (length-drop (from * p.gears) fronts ∙ ap (λ (n : ℕ). n - from * p.gears) all)) (lanes-fit from p.sites p.gears lt)

    many : length (lane_fronts fronts from p.gears) ≡ p.gears
    many = length-take-le p.gears (drop (from * p.gears) fronts) fit

    at : (g d : ℕ) → g < p.gears → get_or (lane_fronts fronts from p.gears) g d ≡ front_at p from g
    at g d lg =
        get_or-take p.gears (drop (from * p.gears) fronts) g d lg ∙
        (get_or-drop (from * p.gears) fronts g d ∙
        (ap (λ (xs : List ℕ). get_or xs (from * p.gears + g) d) is ∙
        get_or-map front_in p.windows (from * p.gears + g) no_numbers d (subst (λ (n : ℕ). from * p.gears + g < n) (sym len) (lane-within from g p.sites p.gears lt lg))))

-- ---- a lane goes on

settled-rises : (n : ℕ) (xs : List ℕ) → n ≤ (settled n xs).front
settled-rises n [] = omega arith
settled-rises n (x ∷ xs) = go (x == n) (settled-rises (n + 1) xs)
  where
    go : (b : Bool) → n + 1 ≤ (settled (n + 1) xs).front → n ≤ (if b then settled (n + 1) xs else record { front = n; above = x ∷ xs }).front
    go true le = below-it n (settled (n + 1) xs).front le
      where
        below-it : (n m : ℕ) → n + 1 ≤ m → n ≤ m
        below-it n m le = omega arith
    go false le = omega arith

pub front-rises : (w : Numbers) (n : ℕ) → w.front ≤ (after_take w n).front
front-rises w n = go (has_number w n) (n == w.front) refl
  where
    same : (a b m : ℕ) → a ≡ b → a + 1 ≤ m → b ≤ m
    same a b m e le = omega arith

    go : (b c : Bool) → (n == w.front) ≡ c → w.front ≤ (if b then w else (if c then settled (n + 1) w.above else record { front = w.front; above = placed w.above n })).front
    go true c e = omega arith
    go false true e = same n w.front (settled (n + 1) w.above).front (eqb-true n w.front e) (settled-rises (n + 1) w.above)
    go false false e = omega arith

-- a window changes at one lane
abbrev pub with_window : ProxySeen → ℕ → Numbers → ProxySeen
with_window p place w = record p { windows = set p.windows place w }

-- two lanes at one place are one
one-row : (a b w j k : ℕ) → j < w → k < w → a * w + j ≡ b * w + k → a ≡ b
one-row a b w j k l m e = sym (div-mul-add a w j l) ∙ (ap (λ (n : ℕ). n / w) e ∙ div-mul-add b w k m)

pub other-fronts : (p : ProxySeen) (from gear k : ℕ) (w : Numbers) → gear < p.gears → (k ≡ from → ⊥) → fronts_of (with_window p (lane_place p from gear) w) k ≡ fronts_of p k
other-fronts p from gear k w lg apart = is-map-below (front_at p k) (fronts_of (with_window p (lane_place p from gear) w) k) p.gears (length-map-below (front_at (with_window p (lane_place p from gear) w) k) p.gears) at
  where
    at : (g d : ℕ) → g < p.gears → get_or (fronts_of (with_window p (lane_place p from gear) w) k) g d ≡ front_at p k g
    at g d lt =
        get-map-below (front_at (with_window p (lane_place p from gear) w) k) p.gears g d lt ∙
        ap front_in (get_or-set_other p.windows (lane_place p from gear) (lane_place p k g) w no_numbers (λ e. apart (one-row k from p.gears g gear lt lg e)))

-- no front of the site falls, where that of one lane doesn't
pub none-fell-to : (p : ProxySeen) (from gear : ℕ) (new : Numbers) → lane_place p from gear < length p.windows → (window_of p from gear).front ≤ new.front → NoneFell (fronts_of p from) (fronts_of (with_window p (lane_place p from gear) new) from)
none-fell-to p from gear new within rises g = go (cases_lt g p.gears)
  where
    place : ℕ
    place = lane_place p from gear

    after : ProxySeen
    after = with_window p place new

    by : (a b x y : ℕ) → a ≡ x → b ≡ y → x ≤ y → a ≤ b
    by a b x y e f le = omega arith

    lane : (m : ℕ) → (m ≡ place) ⊎ (m ≡ place → ⊥) → (get_or p.windows m no_numbers).front ≤ (get_or (set p.windows place new) m no_numbers).front
    lane m (inl e) =
        subst (λ (j : ℕ). (get_or p.windows j no_numbers).front ≤ (get_or (set p.windows place new) j no_numbers).front) (sym e)
        (by (window_of p from gear).front (get_or (set p.windows place new) place no_numbers).front (window_of p from gear).front new.front refl (ap front_in (get_or-set_same p.windows place new no_numbers within)) rises)
    lane m (inr f) = by (get_or p.windows m no_numbers).front (get_or (set p.windows place new) m no_numbers).front (get_or p.windows m no_numbers).front (get_or p.windows m no_numbers).front refl (ap front_in (get_or-set_other p.windows place m new no_numbers f)) (omega arith)

    go : (g < p.gears) ⊎ (p.gears ≤ g) → get_or (fronts_of p from) g 0 ≤ get_or (fronts_of after from) g 0
    go (inl lt) = by (get_or (fronts_of p from) g 0) (get_or (fronts_of after from) g 0) (front_at p from g) (front_at after from g) (get-map-below (front_at p from) p.gears g 0 lt) (get-map-below (front_at after from) p.gears g 0 lt) (lane (lane_place p from g) (cases_eq (lane_place p from g) place))
    go (inr ge) =
        by (get_or (fronts_of p from) g 0) (get_or (fronts_of after from) g 0) 0 0
        (get_or_past (fronts_of p from) g 0 (past (front_at p from)))
        (get_or_past (fronts_of after from) g 0 (past (front_at after from)))
        (omega arith)
      where
        past : (f : ℕ → ℕ) → length (map f (below p.gears)) ≤ g
        past f = let e : length (map f (below p.gears)) ≡ p.gears = length-map-below f p.gears in omega arith
