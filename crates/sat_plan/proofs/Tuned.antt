-- The mismatch as a function of one edge's delay, and the passes over the edges.
use Rattle.std.proofs.Common.{ℕ, suc, ◌≡◌, ◌<◌, ◌≤◌, ◌+◌, ◌-◌, ◌*◌, ◌⊎◌, inl, inr, Bool, true, false, List, [], ◌∷◌, length, map, sum_by, slice_index, slice_index_or, if◌then◌else◌, refl, arith, ap, ◌∙◌, sym}
use Rattle.std.specs.List.{All}
use Rattle.std.proofs.lemmas.Bool.{lt-ltb, le-ltb}
use Rattle.std.proofs.lemmas.List.{set-get_or, get_or-set_same, get_or-set_other, length-map}
use Rattle.std.proofs.lemmas.List.Sums.{sum_by-cons}
use Rattle.std.proofs.lemmas.List.Elements.{All-head, All-tail}
use Rattle.sat_delay.specs.Table.{DelayTable, entry, IsWithinLimits}
use Rattle.sat_delay.specs.declared.read.TheConstants.{MOST_TABLE_SITES}
use Rattle.sat_plan.specs.declared.limits.TheConstants.{MOST_PAIRS}
use Rattle.sat_plan.specs.declared.pairs.Pair.{Pair}
use Rattle.sat_plan.specs.declared.routes.Routes.{Routes}
use Rattle.sat_plan.specs.declared.terms.Term.{Term}
use Rattle.sat_plan.specs.Sums.{least_of, gap, IsLeastBelow, IsLeast}
use Rattle.sat_plan.specs.Config.{Config, config_of, edges, edge_at, delayed, Fits}
use Rattle.sat_plan.specs.Mismatch.{on_way, span, leg, access, latency, pair_cost, pairs, mismatch}
use Rattle.sat_plan.specs.Steps.{delay_cost, best_delay, tuned}
use Rattle.sat_plan.specs.Routes.{no_leg, routed, IsRoutes}
use Rattle.sat_plan.specs.Drafts.{term_cost, terms_cost, turn_of, crosses, term_of, IsPairBelow}
use Rattle.sat_plan.proofs.Lists.{pairs_are, pairs_few}
use Rattle.sat_plan.proofs.Measured.{leg_on_way, routed_is}
use Rattle.sat_plan.proofs.SumLemmas.{sum_to-one, least_is_least, least_alone}
use Rattle.sat_plan.proofs.Turns.{TurnsAt, better_turn}

-- ---- latencies with another delay

leg_other : (d : DelayTable) (c : Config) (e x i k n : ℕ) → (n ≡ e → ⊥) → leg d (delayed c e x) i k n ≡ leg d (delayed c e 0) i k n
unfolding leg
leg_other d c e x i k n apart = rw (get_or-set_other c.delays e n x 0 apart, get_or-set_other c.delays e n 0 0 apart) refl

leg_own : (d : DelayTable) (c : Config) (e x i k : ℕ) → e < length c.delays → leg d (delayed c e x) i k e ≡ leg d (delayed c e 0) i k e + (if on_way c.tree (edge_at c.tree e) i k then x else 0)
unfolding leg
leg_own d c e x i k within = rw (get_or-set_same c.delays e x 0 within, get_or-set_same c.delays e 0 0 within) (go (on_way c.tree (edge_at c.tree e) i k) refl)
  where
    go : (b : Bool) → on_way c.tree (edge_at c.tree e) i k ≡ b → (if on_way c.tree (edge_at c.tree e) i k then span d c.places (edge_at c.tree e) + x else 0) ≡ (if on_way c.tree (edge_at c.tree e) i k then span d c.places (edge_at c.tree e) + 0 else 0) + (if on_way c.tree (edge_at c.tree e) i k then x else 0)
    go true is = rw is (omega arith)
    go false is = rw is refl

latency_delayed : (d : DelayTable) (c : Config) (e x i k : ℕ) → e < length c.delays → e < length (edges c.tree) → latency d (delayed c e x) i k ≡ latency d (delayed c e 0) i k + (if on_way c.tree (edge_at c.tree e) i k then x else 0)
unfolding latency access
latency_delayed d c e x i k within edge =
    let more = sum_to-one (leg d (delayed c e x) i k) (leg d (delayed c e 0) i k) e (if on_way c.tree (edge_at c.tree e) i k then x else 0) (length (edges c.tree)) edge (λ n apart. leg_other d c e x i k n apart) (leg_own d c e x i k within) in
    rw more (omega arith)

delayed_same : (c : Config) (e : ℕ) → delayed c e (slice_index c.delays e) ≡ c
delayed_same c e = ap (λ delays. config_of c.tree c.places delays) (set-get_or c.delays e 0)

latency_split : (d : DelayTable) (c : Config) (e i k : ℕ) → e < length c.delays → e < length (edges c.tree) → latency d c i k ≡ latency d (delayed c e 0) i k + (if on_way c.tree (edge_at c.tree e) i k then slice_index c.delays e else 0)
latency_split d c e i k within edge = ap (λ x. latency d x i k) (sym (delayed_same c e)) ∙ latency_delayed d c e (slice_index c.delays e) i k within edge

-- ---- the terms of an edge

-- a pair of sites, with its latency where the edge has no delay
pair_term : DelayTable → Config → ℕ → Pair → Term
pair_term d c e p = record {
  weight = entry d.weight p.from p.to;
  rest = latency d (delayed c e 0) p.from p.to;
  optimal = entry d.optimal p.from p.to;
  crosses = on_way c.tree (edge_at c.tree e) p.from p.to;
}

pair_term_cost : (d : DelayTable) (c : Config) (e x : ℕ) (p : Pair) → e < length c.delays → e < length (edges c.tree) → term_cost x (pair_term d c e p) ≡ pair_cost d (delayed c e x) p
unfolding term_cost pair_cost pair_term
pair_term_cost d c e x p within edge = ap (λ l. entry d.weight p.from p.to * gap l (entry d.optimal p.from p.to)) (sym (latency_delayed d c e x p.from p.to within edge))

sum_by-mapped : {X Y : Type 0} (f : Y → ℕ) (g : X → Y) (h : X → ℕ) → ((x : X) → f (g x) ≡ h x) → (xs : List X) → sum_by f (map g xs) ≡ sum_by h xs
sum_by-mapped f g h same [] = refl
sum_by-mapped f g h same (x ∷ xs) =
    let here = same x in
    let rest = sum_by-mapped f g h same xs in
    omega (arith, sum_by-cons f (g x) (map g xs), sum_by-cons h x xs)

edge_terms : DelayTable → Config → ℕ → List Term
edge_terms d c e = map (pair_term d c e) (pairs d.sites)

edge_terms_cost : (d : DelayTable) (c : Config) (e x : ℕ) → e < length c.delays → e < length (edges c.tree) → terms_cost (edge_terms d c e) x ≡ delay_cost d c e x
unfolding terms_cost edge_terms delay_cost mismatch
edge_terms_cost d c e x within edge = sum_by-mapped (term_cost x) (pair_term d c e) (pair_cost d (delayed c e x)) (λ p. pair_term_cost d c e x p within edge) (pairs d.sites)

-- ---- the best delay is the best of all numbers

turn_few : (d : DelayTable) (c : Config) (e : ℕ) (p : Pair) → IsWithinLimits d → turn_of (pair_term d c e p) ≤ 100000
unfolding pair_term
turn_few d c e p limits = go (on_way c.tree (edge_at c.tree e) p.from p.to) refl
  where
    go : (b : Bool) → on_way c.tree (edge_at c.tree e) p.from p.to ≡ b → turn_of (pair_term d c e p) ≤ 100000
    go true is = rw is (let o = limits.optimal.bounded p.from p.to in omega arith)
    go false is = rw is (omega arith)

turns_few : (d : DelayTable) (c : Config) (e : ℕ) → IsWithinLimits d → (ps : List Pair) (turn : ℕ) → TurnsAt (map (pair_term d c e) ps) turn → turn ≤ 100000
turns_few d c e limits [] turn never = absurd never
turns_few d c e limits (p ∷ ps) turn (inl here) = let few = turn_few d c e p limits in omega arith
turns_few d c e limits (p ∷ ps) turn (inr there) = turns_few d c e limits ps turn there

-- where each number has one at most a bound that is no worse, the least up to the bound is the least of all
least_of_all : (f : ℕ → ℕ) (most : ℕ) → ((x : ℕ) → (y : ℕ) × (y ≤ most) × (f y ≤ f x)) → IsLeast f (least_of f (suc most))
least_of_all f most found = record { best = λ x. (compared x).0; lowest = λ x under. (compared x).1 under }
  where
    is : IsLeastBelow f (suc most) (least_of f (suc most))
    is = least_is_least f (suc most) (omega arith)

    compared : (x : ℕ) → (f (least_of f (suc most)) ≤ f x) × (x < least_of f (suc most) → f (least_of f (suc most)) < f x)
    compared x =
        let y = found x in
        let near = y.1 in
        let better = y.2 in
        let first = is.best y.0 (omega arith) in
        (omega arith, λ under. let b = is.below in is.lowest x under)

pub best_delay_is_best : (d : DelayTable) (c : Config) (e : ℕ) → IsWithinLimits d → Fits d c → e < length (edges c.tree) → IsLeast (delay_cost d c e) (best_delay d c e)
unfolding best_delay edge_terms
best_delay_is_best d c e limits fits edge = least_of_all (delay_cost d c e) 100000 (λ x. by_turn x (better_turn (edge_terms d c e) x))
  where
    within : e < length c.delays
    within = let whole = fits.edges in omega arith

    by_turn : (x : ℕ) → (turn : ℕ) × ((turn ≡ 0) ⊎ TurnsAt (edge_terms d c e) turn) × (terms_cost (edge_terms d c e) turn ≤ terms_cost (edge_terms d c e) x) → (y : ℕ) × (y ≤ 100000) × (delay_cost d c e y ≤ delay_cost d c e x)
    by_turn x (turn, which, better) = (
      turn,
      elim which [ inl none ↦ omega arith | inr there ↦ turns_few d c e limits (pairs d.sites) turn there ],
      (let a = edge_terms_cost d c e turn within edge in let b = edge_terms_cost d c e x within edge in omega arith),
    )

-- ---- the terms that the code makes

crosses_is : (d : DelayTable) (c : Config) (r : Routes) (e : ℕ) (p : Pair) → IsRoutes d c.tree c.places r → length c.tree.seats ≡ d.sites → e < length (edges c.tree) → IsPairBelow d.sites p → crosses r e p ≡ on_way c.tree (edge_at c.tree e) p.from p.to
unfolding crosses
crosses_is d c r e p routes seats edge pair =
    leg_on_way d c.tree c.places (edge_at c.tree e) (slice_index_or r.legs.items e no_leg) p.from p.to (routes.legs.stand e edge) (let a = pair.from in omega arith) (let a = pair.to in omega arith)

rest_is : (d : DelayTable) (c : Config) (r : Routes) (e : ℕ) (p : Pair) → IsRoutes d c.tree c.places r → Fits d c → e < length (edges c.tree) → IsPairBelow d.sites p → routed r c.delays p.from p.to - (if crosses r e p then slice_index c.delays e else 0) ≡ latency d (delayed c e 0) p.from p.to
rest_is d c r e p routes fits edge pair =
    let seats = fits.seats in
    let whole = fits.edges in
    let a = routed_is d c.tree c.places c.delays r p.from p.to routes (let x = pair.from in omega arith) (let x = pair.to in omega arith) in
    let b = latency_split d c e p.from p.to (omega arith) edge in
    rw (crosses_is d c r e p routes seats edge pair) (omega arith)

term_same : (d : DelayTable) (c : Config) (r : Routes) (e : ℕ) (p : Pair) → IsRoutes d c.tree c.places r → Fits d c → e < length (edges c.tree) → IsPairBelow d.sites p → term_of d r c.delays e p ≡ pair_term d c e p
unfolding term_of pair_term
term_same d c r e p routes fits edge pair = rw (rest_is d c r e p routes fits edge pair, crosses_is d c r e p routes fits.seats edge pair) refl

map-same : {X Y : Type 0} (P : X → Type 0) (f g : X → Y) → ((x : X) → P x → f x ≡ g x) → (xs : List X) → All P xs → map f xs ≡ map g xs
map-same P f g same [] all = refl
map-same P f g same (x ∷ xs) all = let here = same x (All-head P x xs all) in let rest = map-same P f g same xs (All-tail P x xs all) in cc

terms_known : (d : DelayTable) (c : Config) (r : Routes) (e : ℕ) (terms : List Term) (ways : List Pair) → terms ≡ map (term_of d r c.delays e) ways → ways ≡ pairs d.sites → IsRoutes d c.tree c.places r → Fits d c → e < length (edges c.tree) → terms ≡ edge_terms d c e
unfolding edge_terms
terms_known d c r e terms ways is all routes fits edge =
    is ∙ ap (map (term_of d r c.delays e)) all ∙ map-same (IsPairBelow d.sites) (term_of d r c.delays e) (pair_term d c e) (λ p pair. term_same d c r e p routes fits edge pair) (pairs d.sites) (pairs_are d.sites)

-- ---- one edge

cost_known : (d : DelayTable) (c : Config) (e x : ℕ) (terms : List Term) → terms ≡ edge_terms d c e → Fits d c → e < length (edges c.tree) → terms_cost terms x ≡ delay_cost d c e x
cost_known d c e x terms is fits edge = rw is (edge_terms_cost d c e x (let whole = fits.edges in omega arith) edge)

-- the least of all numbers, where it is not too great
best_known : (d : DelayTable) (c : Config) (e best : ℕ) → IsLeast (delay_cost d c e) best → best ≤ 100000 → best_delay d c e ≡ best
unfolding best_delay
best_known d c e best least few = least_alone (delay_cost d c e) 100001 best (record { below = omega arith; best = λ x under. least.best x; lowest = least.lowest })

least_known : (d : DelayTable) (c : Config) (e best : ℕ) (terms : List Term) → terms ≡ edge_terms d c e → Fits d c → e < length (edges c.tree) → IsLeast (terms_cost terms) best → IsLeast (delay_cost d c e) best
least_known d c e best terms is fits edge least = record {
  best = λ x. let a = cost_known d c e best terms is fits edge in let b = cost_known d c e x terms is fits edge in let l = least.best x in omega arith;
  lowest = λ x under. let a = cost_known d c e best terms is fits edge in let b = cost_known d c e x terms is fits edge in let l = least.lowest x under in omega arith;
}

own_cost : (d : DelayTable) (c : Config) (e : ℕ) → delay_cost d c e (slice_index c.delays e) ≡ mismatch d c
unfolding delay_cost
own_cost d c e = ap (mismatch d) (delayed_same c e)

pub tuned_if : (d : DelayTable) (c : Config) (e : ℕ) → delay_cost d c e (best_delay d c e) < mismatch d c → tuned d c e ≡ delayed c e (best_delay d c e)
unfolding tuned
tuned_if d c e less = rw (tuned, lt-ltb (delay_cost d c e (best_delay d c e)) (mismatch d c) less) refl

pub tuned_else : (d : DelayTable) (c : Config) (e : ℕ) → mismatch d c ≤ delay_cost d c e (best_delay d c e) → tuned d c e ≡ c
unfolding tuned
tuned_else d c e most = rw (tuned, le-ltb (delay_cost d c e (best_delay d c e)) (mismatch d c) most) refl

-- the best choice, where it lowers the cost
pub tuned_lower : (d : DelayTable) (c : Config) (r : Routes) (e best cost : ℕ) (terms : List Term) (ways : List Pair) → terms ≡ map (term_of d r c.delays e) ways → ways ≡ pairs d.sites → IsRoutes d c.tree c.places r → Fits d c → e < length (edges c.tree) → IsLeast (terms_cost terms) best → best ≤ 100000 → cost ≡ terms_cost terms best → cost < terms_cost terms (slice_index c.delays e) → delayed c e best ≡ tuned d c e
tuned_lower d c r e best cost terms ways is all routes fits edge least few costs less =
    let same = terms_known d c r e terms ways is all routes fits edge in
    let known = best_known d c e best (least_known d c e best terms same fits edge least) few in
    let a = cost_known d c e best terms same fits edge in
    let b = cost_known d c e (slice_index c.delays e) terms same fits edge in
    let own = own_cost d c e in
    let lower : delay_cost d c e (best_delay d c e) < mismatch d c = rw known (omega arith) in
    ap (delayed c e) (sym known) ∙ sym (tuned_if d c e lower)

-- the delay that the edge has, where none is better
pub tuned_stays : (d : DelayTable) (c : Config) (r : Routes) (e best cost : ℕ) (terms : List Term) (ways : List Pair) → terms ≡ map (term_of d r c.delays e) ways → ways ≡ pairs d.sites → IsRoutes d c.tree c.places r → Fits d c → e < length (edges c.tree) → IsLeast (terms_cost terms) best → best ≤ 100000 → cost ≡ terms_cost terms best → terms_cost terms (slice_index c.delays e) ≤ cost → delayed c e (slice_index c.delays e) ≡ tuned d c e
tuned_stays d c r e best cost terms ways is all routes fits edge least few costs most =
    let same = terms_known d c r e terms ways is all routes fits edge in
    let known = best_known d c e best (least_known d c e best terms same fits edge least) few in
    let a = cost_known d c e best terms same fits edge in
    let b = cost_known d c e (slice_index c.delays e) terms same fits edge in
    let own = own_cost d c e in
    let no_lower : mismatch d c ≤ delay_cost d c e (best_delay d c e) = rw known (omega arith) in
    delayed_same c e ∙ sym (tuned_else d c e no_lower)

pub terms_few : (d : DelayTable) (r : Routes) (delays : List ℕ) (e : ℕ) (terms : List Term) (ways : List Pair) → terms ≡ map (term_of d r delays e) ways → ways ≡ pairs d.sites → d.sites ≤ MOST_TABLE_SITES → length terms ≤ MOST_PAIRS
terms_few d r delays e terms ways is all few =
    let most = pairs_few d.sites few in
    let count = length-map ways (term_of d r delays e) in
    let same = ap length is in
    let whole = ap length all in
    omega arith

pub ways_are : (sites : ℕ) (ways : List Pair) → ways ≡ pairs sites → All (IsPairBelow sites) ways
ways_are sites ways is = rw is (pairs_are sites)
