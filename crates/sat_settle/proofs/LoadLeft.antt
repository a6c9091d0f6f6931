-- One act fewer that is still to come.
use Rattle.std.proofs.Common.{ℕ, zero, suc, ◌≡◌, ◌<◌, ◌≤◌, ◌+◌, ◌-◌, Bool, true, false, List, [], ◌∷◌, ◌++◌, drop, refl, sym, ap, ◌∙◌, arith, add-one}
use Rattle.std.proofs.lemmas.List.{append_assoc, append-nil}
use Rattle.std.proofs.Math.ListN.{drop_of_length-le}
use Rattle.sat_act.specs.declared.act.Act.{Act}
use Rattle.sat_act.specs.declared.act.Act.TheVariants as act
use Rattle.sat_settle.specs.LoadActs.{act_at, after_act, closes, closes_after, MadeActs, with_act, made_acts, load_acts}
use Rattle.sat_settle.specs.LoadLeft.{drawn_from, to_come}

-- ---- the closes

none-left : (closed : ℕ) → 5 ≤ closed → drop closed closes ≡ []
none-left closed all = drop_of_length-le closes all

close-first : (closed : ℕ) → closed < 5 → drop closed closes ≡ act.Close closed ∷ drop (closed + 1) closes
close-first zero less = refl
close-first (suc zero) less = refl
close-first (suc (suc zero)) less = refl
close-first (suc (suc (suc zero))) less = refl
close-first (suc (suc (suc (suc zero)))) less = refl
close-first (suc (suc (suc (suc (suc closed))))) less = absurd (omega arith)

pub close_comes : (closed x n k : ℕ) (settled : Bool) → closed < 5 → to_come closed x n k settled ≡ act.Close closed ∷ to_come (closed + 1) x n k settled
unfolding to_come
close_comes closed x n k settled less = rw (close-first closed less) refl

-- ---- the acts that are drawn

first-drawn : (x n k : ℕ) → k < n → drawn_from x n k (n - k) ≡ act_at (k + 1) x ∷ closes_after n (k + 1) ++ drawn_from (after_act x) n (k + 1) (n - (k + 1))
unfolding drawn_from
first-drawn x n k less = let e : n - k ≡ suc (n - (k + 1)) = omega arith in rw (e, add-one) refl

pub drawn_comes : (closed x n k : ℕ) (settled : Bool) (then : ℕ) → 5 ≤ closed → k < n → drop then closes ≡ closes_after n (k + 1)
    → to_come closed x n k settled ≡ act_at (k + 1) x ∷ to_come then (after_act x) n (k + 1) settled
unfolding to_come
drawn_comes closed x n k settled then all less is =
    rw (none-left closed all, first-drawn x n k less, is) refl

none-drawn : (x n k : ℕ) → n ≤ k → drawn_from x n k (n - k) ≡ []
unfolding drawn_from
none-drawn x n k most = let e : n - k ≡ 0 = omega arith in rw e refl

-- ---- the end

pub settle_comes : (closed x n k : ℕ) → 5 ≤ closed → n ≤ k → to_come closed x n k false ≡ act.Settle ∷ to_come closed x n k true
unfolding to_come
settle_comes closed x n k all most = rw (none-left closed all, none-drawn x n k most) refl

pub none_comes : (closed x n k : ℕ) → 5 ≤ closed → n ≤ k → to_come closed x n k true ≡ []
unfolding to_come
none_comes closed x n k all most = rw (none-left closed all, none-drawn x n k most) refl

-- ---- the start

one-more : (seed n k : ℕ) → made_acts seed n (suc k) ≡ with_act n (suc k) (made_acts seed n k)
unfolding made_acts
one-more seed n k = refl

along : (seed n k left : ℕ) → k + left ≡ n → (made_acts seed n k).acts ++ drawn_from (made_acts seed n k).state n k left ≡ (made_acts seed n n).acts
unfolding drawn_from
along seed n k zero all = let e : k ≡ n = omega arith in rw e (append-nil (made_acts seed n n).acts)
along seed n k (suc left) all =
    let x = (made_acts seed n k).state in
    sym (append_assoc (made_acts seed n k).acts (act_at (suc k) x ∷ closes_after n (suc k)) (drawn_from (after_act x) n (suc k) left))
    ∙ ap (λ (made : MadeActs). made.acts ++ drawn_from made.state n (suc k) left) (sym (one-more seed n k))
    ∙ along seed n (suc k) left (omega arith)

from-none : (seed n : ℕ) → drawn_from seed n 0 (n - 0) ≡ (made_acts seed n n).acts
unfolding made_acts
from-none seed n = let e : n - 0 ≡ n = omega arith in rw e (along seed n 0 n (omega arith))

pub all_come : (seed n : ℕ) → to_come 5 seed n 0 false ≡ load_acts seed n
unfolding to_come load_acts
all_come seed n = ap (λ (acts : List Act). acts ++ act.Settle ∷ []) (from-none seed n)
