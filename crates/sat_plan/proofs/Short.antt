-- Sums that fit.
use Rattle.std.proofs.Common.{ℕ, zero, suc, [], ◌∷◌, ◌≡◌, ◌≤◌, ◌+◌, ◌*◌, ◌&&◌, not, Bool, true, false, List, length, take, sum_by, slice_index, slice_index_or, if◌then◌else◌, refl, arith}
use Rattle.std.specs.List.{All}
use Rattle.std.proofs.lemmas.Nat.{mul-le}
use Rattle.std.proofs.lemmas.List.Elements.{All-take, All-weaker}
use Rattle.std.proofs.lemmas.List.Sums.{sum_by-le}
use Rattle.sat_label.specs.Words.{bit}
use Rattle.sat_delay.specs.Table.{DelayTable, IsWithinLimits}
use Rattle.sat_plan.specs.declared.limits.TheConstants.{MOST_EDGES, MOST_PAIRS}
use Rattle.sat_plan.specs.declared.pairs.Pair.{Pair}
use Rattle.sat_plan.specs.declared.routes.Leg.{Leg}
use Rattle.sat_plan.specs.declared.routes.Routes.{Routes}
use Rattle.sat_plan.specs.declared.terms.Term.{Term}
use Rattle.sat_plan.specs.Sums.{sum_to, gap}
use Rattle.sat_plan.specs.Routes.{leg_way, routed_leg, routed, routed_cost, no_leg, AreShort}
use Rattle.sat_plan.specs.Drafts.{term_cost, IsSmallTerm}
use Rattle.sat_plan.proofs.SumLemmas.{sum_to-le}

pub way_short : (l : Leg) (delay i k : ℕ) → l.span ≤ 100000 → delay ≤ 100000 → leg_way l delay i k ≤ 200000
way_short l delay i k span short = go (bit l.far.bits k && not (bit l.far.bits i)) refl
  where
    go : (b : Bool) → (bit l.far.bits k && not (bit l.far.bits i)) ≡ b → leg_way l delay i k ≤ 200000
    go true is = rw is (omega arith)
    go false is = rw is (omega arith)

pub legs_short : (r : Routes) (delays : List ℕ) (i k n : ℕ) → AreShort r → ((e : ℕ) → slice_index delays e ≤ 100000) → n ≤ length r.legs.items → sum_to (routed_leg r.legs.items delays i k) n ≤ MOST_EDGES * 200000
unfolding routed_leg
legs_short r delays i k n short prompt within =
    let few = short.few in
    let most = sum_to-le (routed_leg r.legs.items delays i k) n 200000 (λ e. way_short (slice_index_or r.legs.items e no_leg) (slice_index delays e) i k (short.spans e) (prompt e)) in
    omega arith

gap_most : (a b most : ℕ) → a ≤ most → b ≤ most → gap a b ≤ most
gap_most a b most under over = omega arith

term_few : (t : Term) (delay : ℕ) → IsSmallTerm t → delay ≤ 100000 → term_cost delay t ≤ 1000000 * 100100000
unfolding term_cost
term_few t delay small short = mul-le t.weight _ 1000000 100100000 small.weight (gap_most _ t.optimal 100100000 (go t.crosses refl) (let o = small.optimal in omega arith))
  where
    go : (b : Bool) → t.crosses ≡ b → t.rest + (if t.crosses then delay else 0) ≤ 100100000
    go true is = rw is (let r = small.rest in omega arith)
    go false is = rw is (let r = small.rest in omega arith)

length-take-most : {X : Type 0} (n : ℕ) (xs : List X) → length (take n xs) ≤ length xs
length-take-most zero xs = omega arith
length-take-most (suc n) [] = omega arith
length-take-most (suc n) (x ∷ xs) = let most = length-take-most n xs in omega arith

product_few : (a m : ℕ) → a ≤ MOST_PAIRS → a * m ≤ MOST_PAIRS * m
product_few a m few = mul-le a m MOST_PAIRS m few (omega arith)

pub terms_short : (terms : List Term) (delay i : ℕ) → All IsSmallTerm terms → length terms ≤ MOST_PAIRS → delay ≤ 100000 → sum_by (term_cost delay) (take i terms) ≤ MOST_PAIRS * (1000000 * 100100000)
terms_short terms delay i small few short =
    let each = All-weaker IsSmallTerm (λ t. term_cost delay t ≤ 1000000 * 100100000) (λ t is. term_few t delay is short) (take i terms) (All-take IsSmallTerm i terms small) in
    let most = sum_by-le (term_cost delay) (1000000 * 100100000) (take i terms) each in
    let count = length-take-most i terms in
    let bound = product_few (length (take i terms)) (1000000 * 100100000) (omega arith) in
    omega arith

routed_short : (r : Routes) (delays : List ℕ) (i k : ℕ) → AreShort r → ((e : ℕ) → slice_index delays e ≤ 100000) → routed r delays i k ≤ 100000000
unfolding routed
routed_short r delays i k short prompt =
    let a = short.access i in
    let b = short.access k in
    let l = legs_short r delays i k (length r.legs.items) short prompt (omega arith) in
    omega arith

cost_few : (d : DelayTable) (r : Routes) (delays : List ℕ) (p : Pair) → IsWithinLimits d → AreShort r → ((e : ℕ) → slice_index delays e ≤ 100000) → routed_cost d r delays p ≤ 1000000 * 100000000
unfolding routed_cost
cost_few d r delays p limits short prompt =
    mul-le _ _ 1000000 100000000 (limits.weight.bounded p.from p.to)
    (gap_most _ _ 100000000 (routed_short r delays p.from p.to short prompt) (let o = limits.optimal.bounded p.from p.to in omega arith))

All-every : {X : Type 0} (P : X → Type 0) → ((x : X) → P x) → (xs : List X) → All P xs
All-every P each xs = λ k d under. each _

pub total_short : (d : DelayTable) (r : Routes) (delays : List ℕ) (pairs : List Pair) (i : ℕ) → IsWithinLimits d → AreShort r → ((e : ℕ) → slice_index delays e ≤ 100000) → length pairs ≤ MOST_PAIRS → sum_by (routed_cost d r delays) (take i pairs) ≤ MOST_PAIRS * (1000000 * 100000000)
total_short d r delays pairs i limits short prompt few =
    let each = All-every (λ p. routed_cost d r delays p ≤ 1000000 * 100000000) (λ p. cost_few d r delays p limits short prompt) (take i pairs) in
    let most = sum_by-le (routed_cost d r delays) (1000000 * 100000000) (take i pairs) each in
    let count = length-take-most i pairs in
    let bound = product_few (length (take i pairs)) (1000000 * 100000000) (omega arith) in
    omega arith
