-- Lists of sites: a rising list of numbers and the set of its members say the same.
use Rattle.std.proofs.Common.{◌≡◌, ℕ, zero, suc, ◌<◌, ◌≤◌, ◌^◌, Bool, true, false, ◌&&◌, ◌||◌, cond, eqb, ltb, List, [], ◌∷◌, ◌++◌, filter, sym, ap, ◌∙◌, refl, subst, arith}
use Rattle.std.specs.List.{list_all}
use Rattle.std.proofs.lemmas.Bool.{and_from, and_parts, eqb-true, false_from_ne_true, lt-ltb, ltb-true}
use Rattle.std.proofs.lemmas.Bool.Decides.{nat_tests}
use Rattle.std.proofs.lemmas.List.{append-nil}
use Rattle.std.proofs.lemmas.List.Elements.{All-filter, filter-append}
use Rattle.std.proofs.lemmas.List.Folds.{Any-from_list_any}
use Rattle.std.proofs.lemmas.List.Sums.{AllPass-from_list_all, list_all-from_AllPass}
use Rattle.std.proofs.lemmas.Nat.{or_lt}
use Rattle.std.proofs.lemmas.Option.{get_or_from_slice_get}
use Rattle.std.proofs.Math.Pow.{pow-lt, pow_pos}
use Rattle.sat_label.specs.Words.{bit, below}
use Rattle.sat_label.proofs.Numbers.{below-get, length-below}
use Rattle.sat_label.proofs.Truth.{or-false, or-true}
use Rattle.sat_script.specs.Words.{is_rising, set_of}
use Rattle.sat_script.proofs.Sites.{among, among_push, same_set, bit_set_of}
use Rattle.sat_script.proofs.Lists.{all_weaker}

-- all above a number
abbrev above : ℕ → List ℕ → Bool
above n xs = list_all (λ x. ltb n x) xs

wider : (n m : ℕ) (xs : List ℕ) → m ≤ n → above n xs ≡ true → above m xs ≡ true
wider n m xs less h = all_weaker (ltb n) (ltb m) (λ x far. let low = ltb-true n x far in lt-ltb m x (omega arith)) xs h

-- a rising list's later members are above its first
tail_above : (x : ℕ) (xs : List ℕ) → is_rising (x ∷ xs) ≡ true → above x xs ≡ true
tail_above x [] h = refl
tail_above x (y ∷ ys) h =
    let b = and_parts (ltb x y) (is_rising (y ∷ ys)) h in
    let less = ltb-true x y b.0 in
    and_from (ltb x y) (above x ys) b.0 (wider y x ys (omega arith) (tail_above y ys b.1))

tail_rising : (x : ℕ) (xs : List ℕ) → is_rising (x ∷ xs) ≡ true → is_rising xs ≡ true
tail_rising x [] h = refl
tail_rising x (y ∷ ys) h = (and_parts (ltb x y) (is_rising (y ∷ ys)) h).1

-- a member passes what all pass
member_passes : (p : ℕ → Bool) (xs : List ℕ) (k : ℕ) → list_all p xs ≡ true → among xs k ≡ true → p k ≡ true
member_passes p xs k h m =
    let a = Any-from_list_any (eqb k) xs m in
    subst (λ z. p z ≡ true) (a.3 ∙ sym (eqb-true k a.1 a.4)) (AllPass-from_list_all p xs h a.0 a.1 a.2)

is_among : (n k : ℕ) (xs : List ℕ) → above n xs ≡ true → among xs k ≡ true → n < k
is_among n k xs h m = ltb-true n k (member_passes (ltb n) xs k h m)

not_among : (n k : ℕ) (xs : List ℕ) → k ≤ n → above n xs ≡ true → among xs k ≡ false
not_among n k xs less h = false_from_ne_true (among xs k) (λ m. let far = is_among n k xs h m in omega arith)

first_among : (x : ℕ) (xs : List ℕ) → among (x ∷ xs) x ≡ true
first_among x xs = let same : eqb x x ≡ true = grind (arith, nat_tests) in rw same refl

-- the first of a rising list is its least
head_least : (x y : ℕ) (xs : List ℕ) → is_rising (x ∷ xs) ≡ true → among (x ∷ xs) y ≡ true → x ≤ y
head_least x y xs h m = go (eqb y x) refl m
  where
    go : (b : Bool) → eqb y x ≡ b → (b || among xs y) ≡ true → x ≤ y
    go true e m = let same : y ≡ x = grind (arith, nat_tests) in omega arith
    go false e m = let far = is_among x y xs (tail_above x xs h) m in omega arith

-- rising lists with the same members are one
pub same_rising : (xs ys : List ℕ) → is_rising xs ≡ true → is_rising ys ≡ true → ((k : ℕ) → among xs k ≡ among ys k) → xs ≡ ys
same_rising [] [] p q h = refl
same_rising [] (y ∷ ys) p q h = absurd (let never : false ≡ true = h y ∙ first_among y ys in cc)
same_rising (x ∷ xs) [] p q h = absurd (let never : true ≡ false = sym (first_among x xs) ∙ h x in cc)
same_rising (x ∷ xs) (y ∷ ys) p q h =
    let low = head_least x y xs p (h y ∙ first_among y ys) in
    let high = head_least y x ys q (sym (h x) ∙ first_among x xs) in
    let same : x ≡ y = omega arith in
    let rest = same_rising xs ys (tail_rising x xs p) (tail_rising y ys q) (λ k. tails k (eqb k x) refl same) in
    ap (λ z. z ∷ xs) same ∙ ap (λ zs. y ∷ zs) rest
  where
    tails : (k : ℕ) (b : Bool) → eqb k x ≡ b → x ≡ y → among xs k ≡ among ys k
    tails k true e same =
        let at : k ≡ x = grind (arith, nat_tests) in
        not_among x k xs (omega arith) (tail_above x xs p) ∙ sym (not_among y k ys (omega arith) (tail_above y ys q))
    tails k false e same =
        let other : eqb k y ≡ false = ap (λ z. eqb k z) (sym same) ∙ e in
        sym (ap (λ c. c || among xs k) e) ∙ h k ∙ ap (λ c. c || among ys k) other

-- ---- the members of a set, in order

pub rising_push : (xs : List ℕ) (n : ℕ) → is_rising xs ≡ true → list_all (λ x. ltb x n) xs ≡ true → is_rising (xs ++ n ∷ []) ≡ true
rising_push [] n p h = refl
rising_push (x ∷ []) n p h = and_from (ltb x n) true ((and_parts (ltb x n) true h).0) refl
rising_push (x ∷ y ∷ xs) n p h =
    let b = and_parts (ltb x y) (is_rising (y ∷ xs)) p in
    and_from (ltb x y) (is_rising ((y ∷ xs) ++ n ∷ [])) b.0 (rising_push (y ∷ xs) n b.1 (and_parts (ltb x n) (list_all (λ z. ltb z n) (y ∷ xs)) h).1)

pub chosen : (p : ℕ → Bool) (n : ℕ) → filter p (below (suc n)) ≡ cond (p n) (filter p (below n) ++ n ∷ []) (filter p (below n))
chosen p n = filter-append p (below n) (n ∷ []) ∙ go (p n)
  where
    go : (b : Bool) → filter p (below n) ++ cond b (n ∷ []) [] ≡ cond b (filter p (below n) ++ n ∷ []) (filter p (below n))
    go true = refl
    go false = append-nil (filter p (below n))

pub members_under : (p : ℕ → Bool) (n : ℕ) → list_all (λ x. ltb x n) (filter p (below n)) ≡ true
members_under p n = list_all-from_AllPass (λ x. ltb x n) (filter p (below n)) (All-filter p (λ x. ltb x n ≡ true) (below n) (λ k d inside.
    let less : k < n = omega (arith, inside, length-below n) in
    subst (λ x. ltb x n ≡ true) (sym (get_or_from_slice_get (below n) k k d (below-get n k less))) (lt-ltb k n less)))

pub members_rise : (p : ℕ → Bool) (n : ℕ) → is_rising (filter p (below n)) ≡ true
members_rise p zero = refl
members_rise p (suc n) = ap is_rising (chosen p n) ∙ go (p n) (members_rise p n)
  where
    go : (b : Bool) → is_rising (filter p (below n)) ≡ true → is_rising (cond b (filter p (below n) ++ n ∷ []) (filter p (below n))) ≡ true
    go true h = rising_push (filter p (below n)) n h (members_under p n)
    go false h = h

next : (k n : ℕ) → eqb k n ≡ false → ltb k n ≡ ltb k (suc n)
next k n f = grind (arith, nat_tests)

pub members_are : (p : ℕ → Bool) (n k : ℕ) → among (filter p (below n)) k ≡ (p k && ltb k n)
members_are p zero k = none (p k)
  where
    none : (b : Bool) → false ≡ (b && ltb k 0)
    none true = let t : ltb k 0 ≡ false = grind (arith, nat_tests) in sym t
    none false = refl
members_are p (suc n) k = ap (λ xs. among xs k) (chosen p n) ∙ go (p n) (eqb k n) refl refl (members_are p n k)
  where
    go : (b c : Bool) → p n ≡ b → eqb k n ≡ c → among (filter p (below n)) k ≡ (p k && ltb k n) → among (cond b (filter p (below n) ++ n ∷ []) (filter p (below n))) k ≡ (p k && ltb k (suc n))
    go true true e f h =
        let at : k ≡ n = grind (arith, nat_tests) in
        let here : p k ≡ true = ap p at ∙ e in
        let less : ltb k (suc n) ≡ true = grind (arith, nat_tests) in
        among_push (filter p (below n)) n k ∙ ap (λ c. among (filter p (below n)) k || c) f ∙ or-true (among (filter p (below n)) k) ∙ sym (rw (here, less) refl)
    go true false e f h = among_push (filter p (below n)) n k ∙ ap (λ c. among (filter p (below n)) k || c) f ∙ or-false (among (filter p (below n)) k) ∙ h ∙ ap (λ c. p k && c) (next k n f)
    go false true e f h =
        let at : k ≡ n = grind (arith, nat_tests) in
        let here : p k ≡ false = ap p at ∙ e in
        h ∙ rw here refl
    go false false e f h = h ∙ ap (λ c. p k && c) (next k n f)

-- a rising list is the list of the members of its set
pub set_members : (xs : List ℕ) (n : ℕ) → is_rising xs ≡ true → list_all (λ x. ltb x n) xs ≡ true → filter (bit (set_of xs)) (below n) ≡ xs
set_members xs n rises few = same_rising (filter (bit (set_of xs)) (below n)) xs (members_rise (bit (set_of xs)) n) rises (λ k. members_are (bit (set_of xs)) n k ∙ ap (λ b. b && ltb k n) (bit_set_of xs k) ∙ go k (among xs k) refl)
  where
    go : (k : ℕ) (b : Bool) → among xs k ≡ b → (b && ltb k n) ≡ b
    go k true e = member_passes (λ x. ltb x n) xs k few e
    go k false e = refl

-- and a set without members from n on is the set of the list of its members
pub members_set : (bits n : ℕ) → ((k : ℕ) → bit bits k ≡ true → k < n) → set_of (filter (bit bits) (below n)) ≡ bits
members_set bits n few = same_set (set_of (filter (bit bits) (below n))) bits (λ k. bit_set_of (filter (bit bits) (below n)) k ∙ members_are (bit bits) n k ∙ go k (bit bits k) refl)
  where
    go : (k : ℕ) (b : Bool) → bit bits k ≡ b → (b && ltb k n) ≡ b
    go k true e = lt-ltb k n (few k e)
    go k false e = refl

pub set_small : (xs : List ℕ) (n : ℕ) → list_all (λ x. ltb x n) xs ≡ true → set_of xs < 2 ^ n
set_small [] n h = pow_pos n
set_small (x ∷ xs) n h =
    let b = and_parts (ltb x n) (list_all (λ x. ltb x n) xs) h in
    or_lt n (2 ^ x) (set_of xs) (pow-lt (ltb-true x n b.0)) (set_small xs n b.1)
