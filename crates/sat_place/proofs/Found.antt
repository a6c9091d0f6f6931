-- The search finds the first least of all lists.
use Rattle.std.proofs.Common.{ℕ, zero, suc, ◌≡◌, ◌<◌, ◌≤◌, ◌+◌, inl, inr, Bool, true, false, nat_lt, if◌then◌else◌, List, [], ◌∷◌, ◌++◌, length, refl, arith, ap, ◌∙◌, sym, append_assoc, add-one}
use Rattle.std.specs.List.{All}
use Rattle.std.proofs.lemmas.Bool.{cases_lt}
use Rattle.std.proofs.lemmas.Bool.Decides.{nat_tests}
use Rattle.std.proofs.lemmas.List.{append-nil}
use Rattle.std.proofs.lemmas.List.Elements.{All-nil, All-cons, All-head, All-tail}
use Rattle.sat_plan.specs.Sums.{least_of, IsLeastBelow}
use Rattle.sat_plan.proofs.SumLemmas.{least_is_least, least_one}
use Rattle.sat_place.specs.declared.placed.Placed.{Placed}
use Rattle.sat_place.specs.Placing.{Before}
use Rattle.sat_place.specs.Search.{least_from, best_from, lower_of, tried, IsFirstLeast}

-- the list that is found begins with the front, and the rest is the first least
pub record Finds (f : List ℕ → ℕ) (bound n : ℕ) (front : List ℕ) : Type 0 where
  pub rest : List ℕ
  pub is : least_from f bound n front ≡ front ++ rest
  pub least : IsFirstLeast f bound n front rest

-- ---- the list that is found

-- what one more number costs at best
cost_of : (List ℕ → ℕ) → ℕ → ℕ → List ℕ → ℕ → ℕ
cost_of f bound n front p = f (least_from f bound n (front ++ p ∷ []))

last_none : (f : List ℕ → ℕ) (front others : List ℕ) → length others ≡ 0 → f (front ++ []) ≤ f (front ++ others)
last_none f front [] none = omega arith
last_none f front (x ∷ xs) none = absurd (omega arith)

before_none : (others : List ℕ) → Before others [] → ⊥
before_none [] before = before
before_none (x ∷ xs) before = before

finds_none : (f : List ℕ → ℕ) (bound : ℕ) (front : List ℕ) → Finds f bound 0 front
unfolding least_from
finds_none f bound front = record {
  rest = [];
  is = sym (append-nil front);
  least = record {
    count = refl;
    within = All-nil (λ p. p < bound);
    best = λ others none within. last_none f front others none;
    first = λ others none within before. absurd (before_none others before);
  };
}

-- what goes on from a number is no better than what is found there
no_better : (f : List ℕ → ℕ) (bound n : ℕ) (front : List ℕ) (q : ℕ) (qs : List ℕ) → Finds f bound n (front ++ q ∷ []) → length qs ≡ n → All (λ p. p < bound) qs → f (least_from f bound n (front ++ q ∷ [])) ≤ f (front ++ q ∷ qs)
no_better f bound n front q qs found count within =
    let here : f (least_from f bound n (front ++ q ∷ [])) ≡ f ((front ++ q ∷ []) ++ found.rest) = ap f found.is in
    let there : f ((front ++ q ∷ []) ++ qs) ≡ f (front ++ q ∷ qs) = ap f (append_assoc front (q ∷ []) qs) in
    let best = found.least.best qs count within in
    omega arith

finds_more : (f : List ℕ → ℕ) (bound n : ℕ) (front : List ℕ) → 0 < bound → ((fore : List ℕ) → Finds f bound n fore) → Finds f bound (suc n) front
unfolding least_from cost_of
finds_more f bound n front some inner = record {
  rest = p ∷ found.rest;
  is = found.is ∙ append_assoc front (p ∷ []) found.rest;
  least = record {
    count = let count = found.least.count in omega arith;
    within = All-cons (λ q. q < bound) p found.rest lowest.below found.least.within;
    best = λ others count within. best others count within;
    first = λ others count within before. first others count within before;
  };
}
  where
    p : ℕ
    p = least_of (λ q. f (least_from f bound n (front ++ q ∷ []))) bound

    lowest : IsLeastBelow (λ q. f (least_from f bound n (front ++ q ∷ []))) bound p
    lowest = least_is_least (λ q. f (least_from f bound n (front ++ q ∷ []))) bound some

    found : Finds f bound n (front ++ p ∷ [])
    found = inner (front ++ p ∷ [])

    own : f (least_from f bound n (front ++ p ∷ [])) ≡ f (front ++ p ∷ found.rest)
    own = ap f (found.is ∙ append_assoc front (p ∷ []) found.rest)

    best : (others : List ℕ) → length others ≡ suc n → All (λ q. q < bound) others → f (front ++ p ∷ found.rest) ≤ f (front ++ others)
    best [] count within = absurd (omega arith)
    best (q ∷ qs) count within =
        let less = lowest.best q (All-head (λ q. q < bound) q qs within) in
        let more = no_better f bound n front q qs (inner (front ++ q ∷ [])) (omega arith) (All-tail (λ q. q < bound) q qs within) in
        let same = own in
        omega arith

    first : (others : List ℕ) → length others ≡ suc n → All (λ q. q < bound) others → Before others (p ∷ found.rest) → f (front ++ p ∷ found.rest) < f (front ++ others)
    first [] count within before = absurd before
    first (q ∷ qs) count within (inl under) =
        let less = lowest.lowest q under in
        let more = no_better f bound n front q qs (inner (front ++ q ∷ [])) (omega arith) (All-tail (λ q. q < bound) q qs within) in
        let same = own in
        omega arith
    first (q ∷ qs) count within (inr before) =
        let less = found.least.first qs (omega arith) (All-tail (λ q. q < bound) q qs within) before.1 in
        let here : f ((front ++ p ∷ []) ++ found.rest) ≡ f (front ++ p ∷ found.rest) = ap f (append_assoc front (p ∷ []) found.rest) in
        let there : f ((front ++ p ∷ []) ++ qs) ≡ f (front ++ q ∷ qs) = ap f (append_assoc front (p ∷ []) qs) ∙ ap (λ x. f (front ++ x ∷ qs)) (sym before.0) in
        omega arith

pub finds : (f : List ℕ → ℕ) (bound n : ℕ) (front : List ℕ) → 0 < bound → Finds f bound n front
finds f bound zero front some = finds_none f bound front
finds f bound (suc n) front some = finds_more f bound n front some (λ fore. finds f bound n fore some)

-- ---- the better of two

keeps : (a b : Placed) → a.mismatch ≤ b.mismatch → lower_of a b ≡ a
keeps a b most = let t : nat_lt b.mismatch a.mismatch ≡ false = grind (arith, nat_tests) in rw t refl

takes : (a b : Placed) → b.mismatch < a.mismatch → lower_of a b ≡ b
takes a b less = let t : nat_lt b.mismatch a.mismatch ≡ true = grind (arith, nat_tests) in rw t refl

lower_twice : (a b c : Placed) → lower_of (lower_of a b) c ≡ lower_of a (lower_of b c)
lower_twice a b c = elim (cases_lt b.mismatch a.mismatch) [
  | inl less ↦ elim (cases_lt c.mismatch b.mismatch) [
    | inl lower ↦ rw (takes a b less, takes b c lower) (sym (takes a c (omega arith)))
    | inr most ↦ rw (takes a b less, keeps b c most) (sym (takes a b less))
  ]
  | inr most ↦ elim (cases_lt c.mismatch b.mismatch) [
    | inl lower ↦ rw (keeps a b most, takes b c lower) refl
    | inr higher ↦ rw (keeps a b most, keeps b c higher) (keeps a c (omega arith) ∙ sym (keeps a b most))
  ]
]

-- ---- one number after the other

choice : (f : List ℕ → ℕ) (bound n : ℕ) (front : List ℕ) (a b : ℕ) → lower_of (best_from f bound n (front ++ a ∷ [])) (best_from f bound n (front ++ b ∷ [])) ≡ best_from f bound n (front ++ (if nat_lt (f (least_from f bound n (front ++ b ∷ []))) (f (least_from f bound n (front ++ a ∷ []))) then b else a) ∷ [])
unfolding best_from
choice f bound n front a b = go (nat_lt (f (least_from f bound n (front ++ b ∷ []))) (f (least_from f bound n (front ++ a ∷ [])))) refl
  where
    go : (t : Bool) → nat_lt (f (least_from f bound n (front ++ b ∷ []))) (f (least_from f bound n (front ++ a ∷ []))) ≡ t → lower_of (best_from f bound n (front ++ a ∷ [])) (best_from f bound n (front ++ b ∷ [])) ≡ best_from f bound n (front ++ (if nat_lt (f (least_from f bound n (front ++ b ∷ []))) (f (least_from f bound n (front ++ a ∷ []))) then b else a) ∷ [])
    go true is = rw is refl
    go false is = rw is refl

chosen : (f : List ℕ → ℕ) (bound n : ℕ) (front : List ℕ) (m : ℕ) → best_from f bound n (front ++ (if nat_lt (f (least_from f bound n (front ++ suc m ∷ []))) (f (least_from f bound n (front ++ least_of (λ p. f (least_from f bound n (front ++ p ∷ []))) (suc m) ∷ []))) then suc m else least_of (λ p. f (least_from f bound n (front ++ p ∷ []))) (suc m)) ∷ []) ≡ best_from f bound n (front ++ least_of (λ p. f (least_from f bound n (front ++ p ∷ []))) (suc (suc m)) ∷ [])
unfolding least_of
chosen f bound n front m = refl

tried_some : (f : List ℕ → ℕ) (bound n : ℕ) (front : List ℕ) (best : Placed) (m : ℕ) → tried f bound n front best (suc m) ≡ lower_of best (best_from f bound n (front ++ least_of (λ p. f (least_from f bound n (front ++ p ∷ []))) (suc m) ∷ []))
unfolding tried
tried_some f bound n front best zero = rw (least_one (λ p. f (least_from f bound n (front ++ p ∷ [])))) refl
tried_some f bound n front best (suc m) =
    ap (λ x. lower_of x (best_from f bound n (front ++ suc m ∷ []))) (tried_some f bound n front best m)
    ∙ lower_twice best (best_from f bound n (front ++ least_of (λ p. f (least_from f bound n (front ++ p ∷ []))) (suc m) ∷ [])) (best_from f bound n (front ++ suc m ∷ []))
    ∙ ap (lower_of best) (choice f bound n front (least_of (λ p. f (least_from f bound n (front ++ p ∷ []))) (suc m)) (suc m) ∙ chosen f bound n front m)

from_more : (f : List ℕ → ℕ) (bound n : ℕ) (front : List ℕ) → best_from f bound n (front ++ least_of (λ p. f (least_from f bound n (front ++ p ∷ []))) bound ∷ []) ≡ best_from f bound (suc n) front
unfolding best_from least_from
from_more f bound n front = refl

pub tried_start : (f : List ℕ → ℕ) (bound n : ℕ) (front : List ℕ) (best : Placed) → tried f bound n front best 0 ≡ best
unfolding tried
tried_start f bound n front best = refl

pub tried_more : (f : List ℕ → ℕ) (bound n p : ℕ) (front next : List ℕ) (best before after : Placed) → next ≡ front ++ p ∷ [] → before ≡ tried f bound n front best p → after ≡ lower_of before (best_from f bound n next) → after ≡ tried f bound n front best (p + 1)
unfolding tried
tried_more f bound n p front next best before after longer was is = rw (add-one, tried, ← longer, ← was) is

pub tried_all : (f : List ℕ → ℕ) (bound n left : ℕ) (front : List ℕ) (best after : Placed) → 0 < bound → left ≡ suc n → after ≡ tried f bound n front best bound → after ≡ lower_of best (best_from f bound left front)
tried_all f zero n left front best after some one is = absurd (omega arith)
tried_all f (suc m) n left front best after some one is = is ∙ tried_some f (suc m) n front best m ∙ ap (lower_of best) (from_more f (suc m) n front ∙ ap (λ k. best_from f (suc m) k front) (sym one))

-- ---- the ends of the search

pub cut_off : (f : List ℕ → ℕ) (bound n cost : ℕ) (front : List ℕ) (best : Placed) → 0 < bound → ((rest : List ℕ) → cost ≤ f (front ++ rest)) → best.mismatch ≤ cost → best ≡ lower_of best (best_from f bound n front)
unfolding best_from
cut_off f bound n cost front best some least most = go (finds f bound n front some)
  where
    go : Finds f bound n front → best ≡ lower_of best (best_from f bound n front)
    go found =
        let same : f (least_from f bound n front) ≡ f (front ++ found.rest) = ap f found.is in
        let under = least found.rest in
        sym (keeps best (best_from f bound n front) (omega arith))

pub whole_list : (f : List ℕ → ℕ) (bound left cost : ℕ) (front : List ℕ) (best : Placed) → left ≡ 0 → cost ≡ f front → cost < best.mismatch → record { places = front; mismatch = cost } ≡ lower_of best (best_from f bound left front)
unfolding best_from least_from
whole_list f bound left cost front best none is less = rw (none, is) (sym (takes best (best_from f bound 0 front) (omega arith)))

pub worst_yields : (f : List ℕ → ℕ) (bound n : ℕ) (front : List ℕ) (worst best : Placed) → ((xs : List ℕ) → f xs < 18446744073709551615) → worst.mismatch ≡ 18446744073709551615 → best ≡ lower_of worst (best_from f bound n front) → best ≡ best_from f bound n front
unfolding best_from
worst_yields f bound n front worst best small high is = let less = small (least_from f bound n front) in is ∙ takes worst (best_from f bound n front) (omega arith)
