-- A tree grows until no pair is lower, or there are 15 serializers.
use Rattle.std.proofs.Common.{ℕ, zero, suc, ◌≡◌, ◌<◌, ◌≤◌, ◌+◌, ◌-◌, nat_lt, true, false, length, refl, arith, ◌⊎◌, inl, inr, ap, ◌∙◌, sym, subst}
use Rattle.std.proofs.lemmas.Bool.{cases_lt}
use Rattle.std.proofs.lemmas.Bool.Decides.{nat_tests}
use Rattle.sat_delay.specs.Table.{DelayTable}
use Rattle.sat_plan.specs.declared.best.Best.{Best}
use Rattle.sat_plan.specs.Config.{Config, Fits}
use Rattle.sat_plan.specs.Mismatch.{mismatch}
use Rattle.sat_plan.specs.Steps.{start, start_at, undelayed, hung, hung_cost, best_place, parent_cost, best_parent, best_hung, grow, grown}
use Rattle.sat_plan.specs.Drafts.{best_below}
use Rattle.sat_plan.proofs.Loops.{IsGrowing}
use Rattle.sat_plan.specs.Laws.{GrowsToTheEnd}
use Rattle.sat_plan.proofs.Grown.{hung_count}

best_hung_is : (d : DelayTable) (c : Config) (q p : ℕ) → q ≡ best_parent d c → p ≡ best_place d c q → hung d c q p ≡ best_hung d c
unfolding best_hung
best_hung_is d c q p parent place = rw (place, parent) refl

pub best_hung_from : (d : DelayTable) (c : Config) (a b : Best) → a ≡ best_below (parent_cost d c) (length c.tree.parents) → b ≡ best_below (hung_cost d c a.number) d.places → hung d c a.number b.number ≡ best_hung d c
unfolding best_parent best_place
best_hung_from d c a b parent place = best_hung_is d c a.number b.number (ap (λ x. x.number) parent) (ap (λ x. x.number) place)

pub best_hung_count : (d : DelayTable) (c : Config) → length (best_hung d c).tree.parents ≡ suc (length c.tree.parents)
unfolding best_hung
best_hung_count d c = hung_count d c (best_parent d c) (best_place d c (best_parent d c))

pub count_more : (d : DelayTable) (c next : Config) → next ≡ best_hung d c → length next.tree.parents ≡ suc (length c.tree.parents)
count_more d c next is = rw is (best_hung_count d c)

start_count : (d : DelayTable) → length (start d).tree.parents ≡ 1
unfolding start start_at undelayed
start_count d = refl

grow_next : (d : DelayTable) (n : ℕ) (c : Config) → mismatch d (best_hung d c) < mismatch d c → grow d (suc n) c ≡ grow d n (best_hung d c)
unfolding grow
grow_next d n c less = let t : nat_lt (mismatch d (best_hung d c)) (mismatch d c) ≡ true = grind (arith, nat_tests) in rw (grow, t) refl

grow_stop : (d : DelayTable) (n : ℕ) (c : Config) → mismatch d c ≤ mismatch d (best_hung d c) → grow d n c ≡ c
unfolding grow
grow_stop d zero c most = refl
grow_stop d (suc n) c most = let t : nat_lt (mismatch d (best_hung d c)) (mismatch d c) ≡ false = grind (arith, nat_tests) in rw (grow, t) refl

grow_none : (d : DelayTable) (c : Config) → grow d 0 c ≡ c
unfolding grow
grow_none d c = refl

pub growing_start : (d : DelayTable) (c : Config) (cost : ℕ) → Fits d c → c ≡ start d → cost ≡ mismatch d c → IsGrowing d c cost
unfolding grown
growing_start d c cost fits is costs = record {
  fits = fits;
  costs = costs;
  some = let one = counted in omega arith;
  few = let one = counted in omega arith;
  grows = ap (λ m. grow d (15 - m) c) counted ∙ ap (grow d 14) is;
}
  where
    counted : length c.tree.parents ≡ 1
    counted = ap (λ x. length x.tree.parents) is ∙ start_count d

pub growing_next : (d : DelayTable) (c next : Config) (cost lower : ℕ) → IsGrowing d c cost → length c.tree.parents < 15 → Fits d next → next ≡ best_hung d c → lower ≡ mismatch d next → lower < cost → IsGrowing d next lower
growing_next d c next cost lower growing room fits is costs less = record {
  fits = fits;
  costs = costs;
  some = let count = count_more d c next is in omega arith;
  few = let count = count_more d c next is in omega arith;
  grows = step;
}
  where
    step : grow d (15 - length next.tree.parents) next ≡ grown d
    step =
        let count = count_more d c next is in
        let one_less : 15 - length c.tree.parents ≡ suc (15 - length next.tree.parents) = omega arith in
        let was = growing.costs in
        let lowers : mismatch d (best_hung d c) < mismatch d c = rw (← is) (omega arith) in
        sym (ap (λ m. grow d m c) one_less ∙ grow_next d (15 - length next.tree.parents) c lowers ∙ ap (grow d (15 - length next.tree.parents)) (sym is)) ∙ growing.grows

pub growing_stop : (d : DelayTable) (c next : Config) (cost lower : ℕ) → IsGrowing d c cost → next ≡ best_hung d c → lower ≡ mismatch d next → cost ≤ lower → c ≡ grown d
growing_stop d c next cost lower growing is costs most =
    let was = growing.costs in
    let no_lower : mismatch d c ≤ mismatch d (best_hung d c) = rw (← is) (omega arith) in
    sym (grow_stop d (15 - length c.tree.parents) c no_lower) ∙ growing.grows

pub growing_full : (d : DelayTable) (c : Config) (cost : ℕ) → IsGrowing d c cost → 15 ≤ length c.tree.parents → c ≡ grown d
growing_full d c cost growing full =
    let none : 15 - length c.tree.parents ≡ 0 = omega arith in
    sym (ap (λ m. grow d m c) none ∙ grow_none d c) ∙ growing.grows

grow_ends : (d : DelayTable) (n : ℕ) (c : Config) → (mismatch d (grow d n c) ≤ mismatch d (best_hung d (grow d n c))) ⊎ (length (grow d n c).tree.parents ≡ length c.tree.parents + n)
grow_ends d zero c = inr (ap (λ x. length x.tree.parents) (grow_none d c) ∙ omega arith)
grow_ends d (suc n) c = go (cases_lt (mismatch d (best_hung d c)) (mismatch d c)) (grow_ends d n (best_hung d c))
  where
    go : (mismatch d (best_hung d c) < mismatch d c) ⊎ (mismatch d c ≤ mismatch d (best_hung d c)) → (mismatch d (grow d n (best_hung d c)) ≤ mismatch d (best_hung d (grow d n (best_hung d c)))) ⊎ (length (grow d n (best_hung d c)).tree.parents ≡ length (best_hung d c).tree.parents + n) → (mismatch d (grow d (suc n) c) ≤ mismatch d (best_hung d (grow d (suc n) c))) ⊎ (length (grow d (suc n) c).tree.parents ≡ length c.tree.parents + suc n)
    go (inl less) (inl stopped) = inl (subst (λ x. mismatch d x ≤ mismatch d (best_hung d x)) (sym (grow_next d n c less)) stopped)
    go (inl less) (inr full) = inr (ap (λ x. length x.tree.parents) (grow_next d n c less) ∙ full ∙ (let one = best_hung_count d c in omega arith))
    go (inr most) rest = inl (subst (λ x. mismatch d x ≤ mismatch d (best_hung d x)) (sym (grow_stop d (suc n) c most)) most)

pub grows_to_the_end : GrowsToTheEnd
unfolding grown
grows_to_the_end d = elim (grow_ends d 14 (start d)) [ inl stopped ↦ inl stopped | inr full ↦ inr (let one = start_count d in omega arith) ]
