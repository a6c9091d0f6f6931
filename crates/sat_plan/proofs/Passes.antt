-- Passes over the edges, until one changes nothing.
use Rattle.std.proofs.Common.{ℕ, zero, suc, ◌≡◌, ◌<◌, ◌≤◌, ◌+◌, ◌⊎◌, inl, inr, length, refl, arith, ap, ◌∙◌, sym, subst, add-one}
use Rattle.std.proofs.lemmas.Bool.{cases_lt, lt-ltb, le-ltb}
use Rattle.std.proofs.Math.Nat.{eq-or-lt_of_le}
use Rattle.std.proofs.lemmas.List.{set_past}
use Rattle.sat_delay.specs.Table.{DelayTable, IsWithinLimits}
use Rattle.sat_plan.specs.Config.{Config, config_of, edges, delayed, Fits}
use Rattle.sat_plan.specs.Mismatch.{mismatch}
use Rattle.sat_plan.specs.Steps.{delay_cost, best_delay, tuned, tuned_below, pass, settled, grown, built}
use Rattle.sat_plan.specs.declared.routes.Routes.{Routes}
use Rattle.sat_plan.specs.Routes.{IsRoutes}
use Rattle.sat_plan.proofs.Loops.{IsPassing, IsSettling}
use Rattle.sat_plan.specs.Laws.{SettlesToTheEnd}
use Rattle.sat_plan.proofs.Tuned.{tuned_if, tuned_else, best_delay_is_best}

-- ---- one edge

tuned_le : (d : DelayTable) (c : Config) (e : ℕ) → mismatch d (tuned d c e) ≤ mismatch d c
unfolding delay_cost
tuned_le d c e = elim (cases_lt (delay_cost d c e (best_delay d c e)) (mismatch d c)) [
  | inl less ↦ rw (tuned_if d c e less) (omega arith)
  | inr most ↦ rw (tuned_else d c e most) (omega arith)
]

tuned_same : (d : DelayTable) (c : Config) (e : ℕ) → mismatch d c ≤ mismatch d (tuned d c e) → (tuned d c e ≡ c) × (mismatch d c ≤ delay_cost d c e (best_delay d c e))
unfolding delay_cost
tuned_same d c e most = elim (cases_lt (delay_cost d c e (best_delay d c e)) (mismatch d c)) [
  | inl less ↦ absurd (let is = tuned_if d c e less in let cost = ap (mismatch d) is in omega arith)
  | inr no_lower ↦ (tuned_else d c e no_lower, no_lower)
]

-- ---- a pass

pub tuned_start : (d : DelayTable) (c : Config) → tuned_below d c 0 ≡ c
unfolding tuned_below
tuned_start d c = refl

pub tuned_more : (d : DelayTable) (c : Config) (e : ℕ) → tuned_below d c (e + 1) ≡ tuned d (tuned_below d c e) e
unfolding tuned_below
tuned_more d c e = rw (add-one, tuned_below) refl

tuned_below_le : (d : DelayTable) (c : Config) (n : ℕ) → mismatch d (tuned_below d c n) ≤ mismatch d c
unfolding tuned_below
tuned_below_le d c zero = omega arith
tuned_below_le d c (suc n) = let front = tuned_below_le d c n in let here = tuned_le d (tuned_below d c n) n in omega arith

-- where the mismatch is not lower after so many edges, none of them changed, and none could
record IsSame (d : DelayTable) (c : Config) (n : ℕ) : Type 0 where
  same : tuned_below d c n ≡ c
  best : (e : ℕ) → e < n → mismatch d c ≤ delay_cost d c e (best_delay d c e)

below_same : (d : DelayTable) (c : Config) (n : ℕ) → mismatch d c ≤ mismatch d (tuned_below d c n) → IsSame d c n
unfolding tuned_below
below_same d c zero most = record { same = refl; best = λ e under. absurd (omega arith) }
below_same d c (suc n) most =
    let here = tuned_le d (tuned_below d c n) n in
    let front = tuned_below_le d c n in
    step (below_same d c n (omega arith)) (tuned_same d (tuned_below d c n) n (omega arith))
  where
    by_place : (e : ℕ) → ((k : ℕ) → k < n → mismatch d c ≤ delay_cost d c k (best_delay d c k)) → mismatch d c ≤ delay_cost d c n (best_delay d c n) → (e ≡ n) ⊎ (e < n) → mismatch d c ≤ delay_cost d c e (best_delay d c e)
    by_place e earlier here (inl same) = subst (λ k. mismatch d c ≤ delay_cost d c k (best_delay d c k)) (sym same) here
    by_place e earlier here (inr under) = earlier e under

    step : IsSame d c n → (tuned d (tuned_below d c n) n ≡ tuned_below d c n) × (mismatch d (tuned_below d c n) ≤ delay_cost d (tuned_below d c n) n (best_delay d (tuned_below d c n) n)) → IsSame d c (suc n)
    step before (is, least) = record {
      same = is ∙ before.same;
      best = λ e under. by_place e before.best (subst (λ x. mismatch d x ≤ delay_cost d x n (best_delay d x n)) before.same least) (eq-or-lt_of_le (let m : e ≤ n = omega arith in m));
    }

pub pass_same : (d : DelayTable) (c : Config) → mismatch d c ≤ mismatch d (pass d c) → pass d c ≡ c
unfolding pass
pass_same d c most = (below_same d c (length (edges c.tree)) most).same

-- after a pass that changed nothing no delay of one edge gives a lower mismatch
pub no_better : (d : DelayTable) (c : Config) (e x : ℕ) → IsWithinLimits d → Fits d c → pass d c ≡ c → mismatch d c ≤ mismatch d (delayed c e x)
unfolding pass delay_cost
no_better d c e x limits fits same = elim (cases_lt e (length (edges c.tree))) [
  | inl edge ↦
      let least = (below_same d c (length (edges c.tree)) (let cost = ap (mismatch d) same in omega arith)).best e edge in
      let best = (best_delay_is_best d c e limits fits edge).best x in
      omega arith
  | inr past ↦
      let is : delayed c e x ≡ c = ap (λ delays. config_of c.tree c.places delays) (set_past c.delays e x (let whole = fits.edges in omega arith)) in
      rw is (omega arith)
]

-- ---- passes

settled_stop : (d : DelayTable) (n : ℕ) (c : Config) → mismatch d c ≤ mismatch d (pass d c) → settled d n c ≡ c
unfolding settled
settled_stop d zero c most = refl
settled_stop d (suc n) c most = rw (settled, le-ltb (mismatch d (pass d c)) (mismatch d c) most) refl

settled_go : (d : DelayTable) (n : ℕ) (c : Config) → mismatch d (pass d c) < mismatch d c → settled d (suc n) c ≡ settled d n (pass d c)
unfolding settled
settled_go d n c less = rw (settled, lt-ltb (mismatch d (pass d c)) (mismatch d c) less) refl

-- more passes than the mismatch are as good as that many
settled_enough : (d : DelayTable) (n m : ℕ) (c : Config) → mismatch d c ≤ n → mismatch d c ≤ m → settled d n c ≡ settled d m c
settled_enough d zero m c few less = let stop : mismatch d c ≤ mismatch d (pass d c) = omega arith in settled_stop d zero c stop ∙ sym (settled_stop d m c stop)
settled_enough d (suc n) zero c few less = let stop : mismatch d c ≤ mismatch d (pass d c) = omega arith in settled_stop d (suc n) c stop ∙ sym (settled_stop d zero c stop)
settled_enough d (suc n) (suc m) c few less = go (cases_lt (mismatch d (pass d c)) (mismatch d c)) (λ a b. settled_enough d n m (pass d c) a b)
  where
    go : (mismatch d (pass d c) < mismatch d c) ⊎ (mismatch d c ≤ mismatch d (pass d c)) → (mismatch d (pass d c) ≤ n → mismatch d (pass d c) ≤ m → settled d n (pass d c) ≡ settled d m (pass d c)) → settled d (suc n) c ≡ settled d (suc m) c
    go (inl lower) rest = settled_go d n c lower ∙ rest (omega arith) (omega arith) ∙ sym (settled_go d m c lower)
    go (inr stop) rest = settled_stop d (suc n) c stop ∙ sym (settled_stop d (suc m) c stop)

pub settled_next : (d : DelayTable) (c next : Config) → next ≡ pass d c → mismatch d next < mismatch d c → settled d (mismatch d c) c ≡ settled d (mismatch d next) next
settled_next d c next is less = go (mismatch d c) refl
  where
    go : (n : ℕ) → mismatch d c ≡ n → settled d n c ≡ settled d (mismatch d next) next
    go zero cost = absurd (omega arith)
    go (suc n) cost =
        let lower : mismatch d (pass d c) < mismatch d c = rw (← is) less in
        settled_go d n c lower ∙ ap (settled d n) (sym is) ∙ settled_enough d n (mismatch d next) next (omega arith) (omega arith)

pub settled_end : (d : DelayTable) (c next : Config) → next ≡ pass d c → mismatch d c ≤ mismatch d next → (next ≡ c) × (settled d (mismatch d c) c ≡ c)
settled_end d c next is most =
    let stop : mismatch d c ≤ mismatch d (pass d c) = rw (← is) most in
    (is ∙ pass_same d c stop, settled_stop d (mismatch d c) c stop)

-- ---- the loops

pub passing_start : (d : DelayTable) (c : Config) (r : Routes) → Fits d c → IsRoutes d c.tree c.places r → IsPassing d c c r 0
passing_start d c r fits routes = record { fits = fits; tree = refl; places = refl; routes = routes; passed = sym (tuned_start d c) }

pub passing_next : (d : DelayTable) (old c next : Config) (r : Routes) (e : ℕ) → IsPassing d old c r e → next ≡ tuned d c e → Fits d next → next.tree ≡ c.tree → next.places ≡ c.places → IsRoutes d next.tree next.places r → IsPassing d old next r (e + 1)
passing_next d old c next r e passing is fits tree places routes = record {
  fits = fits;
  tree = tree ∙ passing.tree;
  places = places ∙ passing.places;
  routes = routes;
  passed = is ∙ ap (λ x. tuned d x e) passing.passed ∙ sym (tuned_more d old e);
}

pub passing_end : (d : DelayTable) (old c : Config) (r : Routes) (e : ℕ) → IsPassing d old c r e → e ≡ length (edges old.tree) → c ≡ pass d old
unfolding pass
passing_end d old c r e passing whole = passing.passed ∙ ap (tuned_below d old) whole

pub settling_stop : (d : DelayTable) (old c next : Config) (r : Routes) (cost lower : ℕ) → IsSettling d old c r cost → next ≡ pass d c → lower ≡ mismatch d next → cost ≤ lower → next ≡ settled d (mismatch d old) old
settling_stop d old c next r cost lower settling is costs most =
    let was = settling.costs in
    let ended = settled_end d c next is (omega arith) in
    ended.0 ∙ sym ended.1 ∙ settling.settles

pub settling_last : (d : DelayTable) (old c next : Config) (r : Routes) (cost lower : ℕ) → IsSettling d old c r cost → next ≡ pass d c → lower ≡ mismatch d next → cost ≤ lower → pass d next ≡ next
settling_last d old c next r cost lower settling is costs most =
    let was = settling.costs in
    let ended = settled_end d c next is (omega arith) in
    ap (pass d) ended.0 ∙ sym is

pub settling_next : (d : DelayTable) (old c next : Config) (r : Routes) (cost lower : ℕ) → IsSettling d old c r cost → next ≡ pass d c → lower ≡ mismatch d next → lower < cost → Fits d next → IsRoutes d next.tree next.places r → IsSettling d old next r lower
settling_next d old c next r cost lower settling is costs less fits routes = record {
  fits = fits;
  routes = routes;
  costs = costs;
  settles = sym (settled_next d c next is (let was = settling.costs in omega arith)) ∙ settling.settles;
}

-- ---- the whole

pub built_is : (d : DelayTable) (start c : Config) → start ≡ grown d → c ≡ settled d (mismatch d start) start → c ≡ built d
unfolding built
built_is d start c is settles = settles ∙ ap (λ x. settled d (mismatch d x) x) is

pub built_best : (d : DelayTable) (start c : Config) (cost : ℕ) → start ≡ grown d → c ≡ settled d (mismatch d start) start → pass d c ≡ c → IsWithinLimits d → Fits d c → cost ≡ mismatch d c → (e delay : ℕ) → cost ≤ mismatch d (delayed (built d) e delay)
built_best d start c cost is settles last limits fits costs e delay =
    let best = no_better d c e delay limits fits last in
    let same = ap (λ x. mismatch d (delayed x e delay)) (built_is d start c is settles) in
    omega arith

settled_fixed : (d : DelayTable) (n : ℕ) (c : Config) → mismatch d c ≤ n → pass d (settled d n c) ≡ settled d n c
settled_fixed d zero c few =
    let stop : mismatch d c ≤ mismatch d (pass d c) = omega arith in
    subst (λ x. pass d x ≡ x) (sym (settled_stop d zero c stop)) (pass_same d c stop)
settled_fixed d (suc n) c few = go (cases_lt (mismatch d (pass d c)) (mismatch d c)) (λ fits. settled_fixed d n (pass d c) fits)
  where
    go : (mismatch d (pass d c) < mismatch d c) ⊎ (mismatch d c ≤ mismatch d (pass d c)) → (mismatch d (pass d c) ≤ n → pass d (settled d n (pass d c)) ≡ settled d n (pass d c)) → pass d (settled d (suc n) c) ≡ settled d (suc n) c
    go (inl lower) rest = subst (λ x. pass d x ≡ x) (sym (settled_go d n c lower)) (rest (omega arith))
    go (inr stop) rest = subst (λ x. pass d x ≡ x) (sym (settled_stop d (suc n) c stop)) (pass_same d c stop)

pub settles_to_the_end : SettlesToTheEnd
unfolding built
settles_to_the_end d = settled_fixed d (mismatch d (grown d)) (grown d) (omega arith)
