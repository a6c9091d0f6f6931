-- What pairs add grows place by place, and fits.
use Rattle.std.proofs.Common.{ℕ, suc, ◌≡◌, ◌<◌, ◌≤◌, ◌+◌, ◌*◌, ◌==◌, inl, inr, Bool, true, false, nat_lt, if◌then◌else◌, List, [], ◌∷◌, ◌++◌, length, slice_index, sum_by, refl, arith, sym, length-append}
use Rattle.std.specs.List.{All}
use Rattle.std.proofs.Math.Nat.{eq-or-lt_of_le}
use Rattle.std.proofs.lemmas.Bool.{cases_lt}
use Rattle.std.proofs.lemmas.Bool.Decides.{nat_tests}
use Rattle.std.proofs.lemmas.Nat.{mul-le}
use Rattle.std.proofs.lemmas.List.{get_or_append_left}
use Rattle.std.proofs.lemmas.List.Elements.{All-head, All-tail, All-weaker}
use Rattle.std.proofs.lemmas.List.Sums.{sum_by-cons, sum_by-le}
use Rattle.sat_delay.specs.Table.{DelayTable, IsWithinLimits}
use Rattle.sat_plan.specs.declared.limits.TheConstants.{MOST_EDGES, MOST_PAIRS}
use Rattle.sat_plan.specs.Sums.{gap}
use Rattle.sat_place.specs.declared.ways.Hop.{Hop}
use Rattle.sat_place.specs.declared.ways.Way.{Way}
use Rattle.sat_place.specs.Ways.{hop_span, hops_span, way_latency, way_cost, known_cost, known, added_cost, added, IsHopWithin, IsWay, AreWays}

-- ---- places further on change nothing that is known

front_at : (places more : List ℕ) (z last : ℕ) → z ≤ last → last < length places → slice_index (places ++ more) z ≡ slice_index places z
front_at places more z last under within = get_or_append_left places more 0 z (omega arith)

hops_same : (d : DelayTable) (places more : List ℕ) (last : ℕ) (hops : List Hop) → last < length places → All (IsHopWithin last) hops → sum_by (hop_span d (places ++ more)) hops ≡ sum_by (hop_span d places) hops
hops_same d places more last [] within all = refl
hops_same d places more last (h ∷ hs) within all =
    let is = All-head (IsHopWithin last) h hs all in
    let here : hop_span d (places ++ more) h ≡ hop_span d places h = rw (front_at places more h.from last is.from within, front_at places more h.to last is.to within) refl in
    let rest = hops_same d places more last hs within (All-tail (IsHopWithin last) h hs all) in
    omega (arith, sum_by-cons (hop_span d (places ++ more)) h hs, sum_by-cons (hop_span d places) h hs)

cost_same : (d : DelayTable) (places more : List ℕ) (w : Way) → IsWay d w → w.last < length places → way_cost d (places ++ more) w ≡ way_cost d places w
unfolding way_cost way_latency hops_span
cost_same d places more w is within =
    rw (front_at places more w.near w.last is.near within, front_at places more w.far w.last is.far within, hops_same d places more w.last w.hops within is.hops) refl

-- ---- one pair

known_yes : (d : DelayTable) (places : List ℕ) (w : Way) → w.last < length places → known_cost d places w ≡ way_cost d places w
unfolding known_cost
known_yes d places w under = let t : nat_lt w.last (length places) ≡ true = grind (arith, nat_tests) in rw t refl

known_no : (d : DelayTable) (places : List ℕ) (w : Way) → length places ≤ w.last → known_cost d places w ≡ 0
unfolding known_cost
known_no d places w past = let t : nat_lt w.last (length places) ≡ false = grind (arith, nat_tests) in rw t refl

added_yes : (d : DelayTable) (places : List ℕ) (w : Way) → suc w.last ≡ length places → added_cost d places w ≡ way_cost d places w
unfolding added_cost
added_yes d places w same = let t : (suc w.last == length places) ≡ true = grind (arith, nat_tests) in rw t refl

added_no : (d : DelayTable) (places : List ℕ) (w : Way) → (suc w.last ≡ length places → ⊥) → added_cost d places w ≡ 0
unfolding added_cost
added_no d places w other = go (suc w.last == length places) refl
  where
    go : (b : Bool) → (suc w.last == length places) ≡ b → (if suc w.last == length places then way_cost d places w else 0) ≡ 0
    go true is = absurd (other (grind (arith, nat_tests)))
    go false is = rw is refl

length-more : (places : List ℕ) (p : ℕ) → length (places ++ p ∷ []) ≡ suc (length places)
length-more places p = omega (arith, length-append places (p ∷ []))

pair_step : (d : DelayTable) (places : List ℕ) (p : ℕ) (w : Way) → IsWay d w → known_cost d (places ++ p ∷ []) w ≡ known_cost d places w + added_cost d (places ++ p ∷ []) w
pair_step d places p w is = elim (cases_lt w.last (length places)) [
  | inl under ↦
      let a = known_yes d places w under in
      let b = known_yes d (places ++ p ∷ []) w (let l = length-more places p in omega arith) in
      let c = added_no d (places ++ p ∷ []) w (λ same. let l = length-more places p in omega arith) in
      let e = cost_same d places (p ∷ []) w is under in
      omega arith
  | inr past ↦ elim (eq-or-lt_of_le past) [
    | inl same ↦
        let a = known_no d places w past in
        let b = known_yes d (places ++ p ∷ []) w (let l = length-more places p in omega arith) in
        let c = added_yes d (places ++ p ∷ []) w (let l = length-more places p in omega arith) in
        omega arith
    | inr over ↦
        let a = known_no d places w past in
        let b = known_no d (places ++ p ∷ []) w (let l = length-more places p in omega arith) in
        let c = added_no d (places ++ p ∷ []) w (λ same. let l = length-more places p in omega arith) in
        omega arith
  ]
]

pair_front : (d : DelayTable) (places more : List ℕ) (w : Way) → IsWay d w → known_cost d places w ≤ known_cost d (places ++ more) w
pair_front d places more w is = elim (cases_lt w.last (length places)) [
  | inl under ↦
      let a = known_yes d places w under in
      let b = known_yes d (places ++ more) w (let l = length-append places more in omega arith) in
      let e = cost_same d places more w is under in
      omega arith
  | inr past ↦ let a = known_no d places w past in omega arith
]

-- ---- all pairs

all_step : (d : DelayTable) (places : List ℕ) (p : ℕ) (ways : List Way) → All (IsWay d) ways → sum_by (known_cost d (places ++ p ∷ [])) ways ≡ sum_by (known_cost d places) ways + sum_by (added_cost d (places ++ p ∷ [])) ways
all_step d places p [] all = omega arith
all_step d places p (w ∷ ws) all =
    let here = pair_step d places p w (All-head (IsWay d) w ws all) in
    let rest = all_step d places p ws (All-tail (IsWay d) w ws all) in
    omega (arith, sum_by-cons (known_cost d (places ++ p ∷ [])) w ws, sum_by-cons (known_cost d places) w ws, sum_by-cons (added_cost d (places ++ p ∷ [])) w ws)

pub known_step : (d : DelayTable) (ways : List Way) (places next : List ℕ) (p cost more : ℕ) → AreWays d ways → next ≡ places ++ p ∷ [] → cost ≡ known d ways places → more ≡ added d ways next → cost + more ≡ known d ways next
unfolding known added
known_step d ways places next p cost more are longer costs adds = rw (costs, adds, longer) (sym (all_step d places p ways are.sound))

all_front : (d : DelayTable) (places more : List ℕ) (ways : List Way) → All (IsWay d) ways → sum_by (known_cost d places) ways ≤ sum_by (known_cost d (places ++ more)) ways
all_front d places more [] all = omega arith
all_front d places more (w ∷ ws) all =
    let here = pair_front d places more w (All-head (IsWay d) w ws all) in
    let rest = all_front d places more ws (All-tail (IsWay d) w ws all) in
    omega (arith, sum_by-cons (known_cost d places) w ws, sum_by-cons (known_cost d (places ++ more)) w ws)

pub known_front : (d : DelayTable) (ways : List Way) (places : List ℕ) (cost : ℕ) → AreWays d ways → cost ≡ known d ways places → (more : List ℕ) → cost ≤ known d ways (places ++ more)
unfolding known
known_front d ways places cost are costs more = rw costs (all_front d places more ways are.sound)

-- ---- they fit

hops_few : (d : DelayTable) (places : List ℕ) (hops : List Hop) → IsWithinLimits d → sum_by (hop_span d places) hops ≤ length hops * 100000
hops_few d places hops limits = sum_by-le (hop_span d places) 100000 hops (each hops)
  where
    each : (hs : List Hop) → All (λ h. hop_span d places h ≤ 100000) hs
    each hs = λ k e under. limits.between.bounded _ _

gap_few : (a b most : ℕ) → a ≤ most → b ≤ most → gap a b ≤ most
gap_few a b most under over = omega arith

product_few : (a b m : ℕ) → a ≤ b → a * m ≤ b * m
product_few a b m few = mul-le a m b m few (omega arith)

cost_few : (d : DelayTable) (places : List ℕ) (w : Way) → IsWithinLimits d → IsWay d w → way_cost d places w ≤ 1000000 * 100000000
unfolding way_cost way_latency hops_span
cost_few d places w limits is =
    mul-le w.weight _ 1000000 100000000 is.weight
    (gap_few _ w.optimal 100000000
    (let near = limits.reach.bounded w.from (slice_index places w.near) in
    let far = limits.reach.bounded w.to (slice_index places w.far) in
    let hops = hops_few d places w.hops limits in
    let few = product_few (length w.hops) MOST_EDGES 100000 is.few in
    omega arith)
    (let o = is.optimal in omega arith))

known_cost_few : (d : DelayTable) (places : List ℕ) (w : Way) → IsWithinLimits d → IsWay d w → known_cost d places w ≤ 100000000000000
known_cost_few d places w limits is = elim (cases_lt w.last (length places)) [
  | inl under ↦ let a = known_yes d places w under in let b = cost_few d places w limits is in omega arith
  | inr past ↦ let a = known_no d places w past in omega arith
]

pub known_few : (d : DelayTable) (ways : List Way) (places : List ℕ) → AreWays d ways → known d ways places ≤ MOST_PAIRS * 100000000000000
unfolding known
known_few d ways places are =
    let each = All-weaker (IsWay d) (λ w. known_cost d places w ≤ 100000000000000) (λ w is. known_cost_few d places w are.limits is) ways are.sound in
    let most = sum_by-le (known_cost d places) 100000000000000 ways each in
    let bound = product_few (length ways) MOST_PAIRS 100000000000000 are.few in
    omega arith

pub known_small : (d : DelayTable) (ways : List Way) → AreWays d ways → (places : List ℕ) → known d ways places < 18446744073709551615
known_small d ways are places = let most = known_few d ways places are in omega arith
